use Rattle.plai_script.proofs.EditTerms.{edit_readable}
use Rattle.plai_script.proofs.shape.read_edit.Goals as goal

pub returns-in-Ok-clause-readable : goal.returns-in-Ok-clause-readable
returns-in-Ok-clause-readable c =
    edit_readable c.args.term.now.variables c.requires.readable.few_variables c.args.term.now.term c.in-Ok.edit
    (record { numbered = c.requires.readable.numbered; few_arguments = c.requires.readable.few_arguments }) c.in-Ok.ensures
