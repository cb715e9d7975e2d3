use Rattle.std.proofs.Common.{ap, sym, ◌∙◌}
use Rattle.std.specs.FinMap as finite
use Rattle.plai_reader.proofs.FiniteMaps.{get-view}
use Rattle.plai_reader.proofs.by_name.ByName.get.Goals as goal

pub returns : goal.returns
returns g c =
    c.copied.ensures ∙ c.get.ensures.value ∙ sym (get-view c.self.inside.entries c.args.name.now)
    ∙ ap (λ m. finite.get m c.args.name.now) c.self.view_is
