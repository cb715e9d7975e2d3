use Rattle.std.proofs.Common.{ap, ◌∙◌}
use Rattle.std.specs.FinMap.{from_entries}
use Rattle.std.specs.FinMap as finite
use Rattle.plai_reader.proofs.FiniteMaps.{insert-view}
use Rattle.plai_reader.proofs.by_name.ByName.insert.Goals as goal

pub returns-clause-ok : goal.returns-clause-ok
returns-clause-ok g c =
    insert-view c.self.inside.entries c.insert.new.self c.in_ok-copy.field-0 c.args.value c.in_ok-insert.ensures.updates
    ∙ ap (λ name. finite.insert (from_entries c.self.inside.entries.entries) name c.args.value) c.in_ok-copy.ensures
    ∙ ap (λ m. finite.insert m c.args.name.now c.args.value) c.self.view_is
