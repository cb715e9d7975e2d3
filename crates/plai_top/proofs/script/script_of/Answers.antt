use Rattle.plai_top.proofs.Scripts.{refused_line}
use Rattle.plai_top.proofs.script.script_of.Goals as goal

pub returns-in-Ok-script_refusal_line-clause-script : goal.returns-in-Ok-script_refusal_line-clause-script
returns-in-Ok-script_refusal_line-clause-script c =
    let at = c.in-Err-Lex in
    refused_line c.args.text.now c.requires (record { term = at.term; cause = at.cause; at = at.at }) c.in-Ok-script_refusal_line.line.items
    (rw at.field-0-is at at.ensures.answer) c.in-Ok-script_refusal_line.ensures
