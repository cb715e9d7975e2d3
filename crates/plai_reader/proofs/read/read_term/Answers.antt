use Rattle.std.proofs.Common.{ap, ◌∙◌, ◌≡◌, Ok}
use Rattle.std.specs.Prelude.{Some}
use Rattle.plai_reader.specs.Limits.{answer_of}
use Rattle.plai_reader.specs.Variables.{variables_of}
use Rattle.plai_reader.proofs.Answering.{kept_answer, answer_of-kept, answer_at, answer_of-readable}
use Rattle.plai_reader.proofs.read.read_term.Goals as goal
use Rattle.plai_reader.proofs.read.read_term.Goals.{In-Whole}

whole : (c : In-Whole) → answer_of c.args.ops.now c.args.tokens.now ≡ Ok (record { term = c.in-Whole.term; variables = c.in-Ok.field-0.variables })
whole c =
    answer_at c.args.ops.now c.args.tokens.now c.in-Ok.field-0.tree c.in-Ok.field-0.variables c.in-Ok.ensures
    ∙ ap (λ tree. kept_answer (Some tree) c.in-Ok.field-0.variables) c.in-Whole.is

pub returns-in-Whole-clause-answer : goal.returns-in-Whole-clause-answer
returns-in-Whole-clause-answer c = whole c

pub returns-in-Whole-clause-readable : goal.returns-in-Whole-clause-readable
returns-in-Whole-clause-readable c =
    answer_of-readable c.args.ops.now c.args.tokens.now (record { term = c.in-Whole.term; variables = c.in-Ok.field-0.variables }) c.requires.few (whole c)

pub returns-in-Wide-clause-answer : goal.returns-in-Wide-clause-answer
returns-in-Wide-clause-answer c =
    answer_at c.args.ops.now c.args.tokens.now c.in-Ok.field-0.tree c.in-Ok.field-0.variables c.in-Ok.ensures
    ∙ ap (λ tree. kept_answer (Some tree) c.in-Ok.field-0.variables) c.in-Wide.is

pub returns-in-Deep-clause-answer : goal.returns-in-Deep-clause-answer
returns-in-Deep-clause-answer c =
    answer_at c.args.ops.now c.args.tokens.now c.in-Ok.field-0.tree c.in-Ok.field-0.variables c.in-Ok.ensures
    ∙ ap (λ tree. kept_answer (Some tree) c.in-Ok.field-0.variables) c.in-Deep.is

pub returns-in-Err-Syntax-clause-answer : goal.returns-in-Err-Syntax-clause-answer
returns-in-Err-Syntax-clause-answer c =
    let none = rw c.in-Err-Syntax.field-0-is at c.in-Err-Syntax.ensures in
    answer_of-kept c.args.ops.now c.args.tokens.now ∙ ap (λ v. kept_answer v (variables_of c.args.tokens.now)) none
