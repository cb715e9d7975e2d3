-- What an evaluation asks of the answers that it is given, and what a refusal of it tells.
use Rattle.std.specs.Prelude.{◌≡◌, ℕ, Option, Some}
use Rattle.plai_terms.specs.declared.abs.Abs.{Abs}
use Rattle.plai_terms.specs.declared.row_name.RowName.{RowName}
use Rattle.plai_domain.specs.declared.dom_fail.DomFail.{DomFail}
use Rattle.plai_domain.specs.declared.dom_fail.DomFail.TheVariants as dom_fail
use Rattle.plai_domain.specs.Plain.{PlainDomain}
use Rattle.plai_domain.specs.Conditions.{IsValue}
use Rattle.plai_eval.specs.declared.eval_fail.EvalFail.{EvalFail}
use Rattle.plai_eval.specs.declared.eval_fail.EvalFail.TheVariants as eval_fail
use Rattle.plai_eval.specs.Evaluation.{Source}

-- At a call that is a value of its predicate's arity, the answer is one too.
pub record AnswersFit (p : PlainDomain) (source : Source) : Type 0 where
  pub fit : (name : RowName) (answer : Abs) → IsValue p name.pred.arity name.call → source name ≡ Some answer
      → IsValue p name.pred.arity answer

-- the failure of an operation, with the number of its literal
abbrev pub fail_at : ℕ → DomFail → EvalFail
fail_at literal dom_fail.Memory = eval_fail.Memory
fail_at literal (dom_fail.Over place) = eval_fail.Over literal place

-- a failure by a set that is too large is the first one of the evaluation; want of memory is free
abbrev pub TellsOver : Option (ℕ × ℕ) → EvalFail → Type 0
TellsOver over eval_fail.Memory = Unit {0}
TellsOver over (eval_fail.Over literal place) = over ≡ Some (literal, place)
