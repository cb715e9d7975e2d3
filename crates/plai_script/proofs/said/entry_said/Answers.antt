use Rattle.std.proofs.Common.{ap, ◌∙◌}
use Rattle.plai_script.specs.Edits.{entry_said}
use Rattle.plai_script.proofs.Formed.{entry_said-formed}
use Rattle.plai_script.proofs.said.entry_said.Goals as goal

pub returns-in_ok-make_entry-in-Ok-clause-well_formed : goal.returns-in_ok-make_entry-in-Ok-clause-well_formed
returns-in_ok-make_entry-in-Ok-clause-well_formed c =
    entry_said-formed c.args.module.now c.args.imports.now c.args.term.now c.in_ok-make_entry-in-Ok.field-0
    (ap (entry_said c.args.module.now c.args.imports.now) c.in-Ok.ensures ∙ c.in_ok-make_entry-in-Ok.ensures)
