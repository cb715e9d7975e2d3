use Rattle.std.proofs.Common.{ap, ◌∙◌}
use Rattle.std.specs.FinMap as finite
use Rattle.plai_reader.proofs.FiniteMaps.{remove-view}
use Rattle.plai_reader.proofs.by_name.ByName.remove.Goals as goal

pub returns : goal.returns
returns g c =
    remove-view c.self.inside.entries c.remove.new.self c.args.name.now c.remove.ensures.updates
    ∙ ap (λ m. finite.remove m c.args.name.now) c.self.view_is
