use Rattle.std.proofs.Common.{ap, ◌∙◌}
use Rattle.plai_script.specs.Edits.{check_said}
use Rattle.plai_script.proofs.Formed.{check_said-formed}
use Rattle.plai_script.proofs.said.check_said.Goals as goal

pub returns-in_ok-make_check-in-Ok-clause-well_formed : goal.returns-in_ok-make_check-in-Ok-clause-well_formed
returns-in_ok-make_check-in-Ok-clause-well_formed c =
    check_said-formed c.args.module.now c.args.imports.now c.args.term.now c.in_ok-make_check-in-Ok.field-0
    (ap (check_said c.args.module.now c.args.imports.now) c.in-Ok.ensures ∙ c.in_ok-make_check-in-Ok.ensures)
