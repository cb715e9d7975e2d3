use Rattle.std.proofs.Common.{◌≡◌, ◌∙◌, sym}
use Rattle.std.proofs.lemmas.List.Folds.{list_all-map}
use Rattle.plai_assert.specs.Rows.{plain}
use Rattle.plai_assert.specs.Sides.{holds_of_call, holds_of_answer}
use Rattle.plai_assert.proofs.judging.all_rows.Goals as goal

pub returns-in-Calls : goal.returns-in-Calls
returns-in-Calls g c =
    rw c.in-Calls.is
    (c.all_calls.ensures
    ∙ sym (list_all-map (holds_of_call c.args.side (g.D.Domain.plain c.args.domain.now) c.args.check.now) (plain g.D.Domain.value_of) c.args.rows.now))

pub returns-in-Success : goal.returns-in-Success
returns-in-Success g c =
    rw c.in-Success.is
    (c.all_answers.ensures
    ∙ sym (list_all-map (holds_of_answer c.args.side (g.D.Domain.plain c.args.domain.now) c.args.check.now) (plain g.D.Domain.value_of) c.args.rows.now))
