-- Under terms cut at a depth, stops by the limit of rows count names over the program's signature alone.
use Rattle.std.proofs.Common.{◌≡◌, ◌⊎◌, ℕ, ◌+◌, ◌≤◌, List, [], ◌∷◌, length, Option, Some, None, refl, inl, inr, arith}
use Rattle.plai_theory.specs.Words.{HasSome}
use Rattle.plai_theory.specs.Domain.{Step, Goal, Do, Name}
use Rattle.plai_theory.specs.Evaluation.{Source}
use Rattle.plai_theory.specs.Stages.{stage}
use Rattle.plai_theory.specs.Limits.{IsOverAlong, IsOverAt}
use Rattle.plai_terms.specs.declared.abs.Abs.{Abs}
use Rattle.plai_terms.specs.declared.pred_key.PredKey.{PredKey}
use Rattle.plai_terms.specs.declared.plain_row.PlainRow.{PlainRow}
use Rattle.plai_domain.specs.Plain.{StateView}
use Rattle.plai_domain.specs.Outcomes.{SomeTooLarge}
use Rattle.plai_clauses.specs.declared.clause.Clause.{Clause}
use Rattle.plai_clauses.specs.Program.{ProgramView}
use Rattle.plai_eval.specs.Meaning.{Calling, Acting, as_domain, as_limits, as_program}
use Rattle.plai_eval.specs.LeastTable.{IsLeastTable}
use Rattle.plai_eval.specs.Stops.{IsOver}
use Rattle.plai_fix.specs.declared.solve_fail.SolveFail.{SolveFail}
use Rattle.plai_fix.specs.declared.solve_fail.SolveFail.TheVariants.{Memory, Rows, Groups}
use Rattle.plai_analysis.specs.Causes.{IsAskedFor, AreTooMany, HasCause}
use Rattle.plai_depth_laws.specs.DepthK.{depth_k}
use Rattle.plai_depth_symbols.specs.Symbols.{signature_of}
use Rattle.plai_depth_symbols.specs.Patterns.{IsPatternOver}
use Rattle.plai_depth_symbols.specs.Stops.{CountAtMost, AreTooManyOver}
use Rattle.plai_depth_symbols.proofs.Asked.{asked_for_over}

pub too_many_over : (k : ℕ) (program : ProgramView) (limit : ℕ) → AreTooMany (depth_k k) program limit → AreTooManyOver k program limit
too_many_over k program limit many = record {
  names = many.names;
  many = many.many;
  distinct = many.distinct;
  over = λ x i. asked_for_over k program limit x (many.asked x i);
  below = many.below;
}

none_within : (n limit : ℕ) → n ≡ limit + 1 → n ≤ limit → ⊥
none_within n limit e l = omega arith

-- Theorem: where no more than the limit count, there are not too many.
pub within : (k : ℕ) (program : ProgramView) (table : List PlainRow) (limit : ℕ) → IsLeastTable (depth_k k) program table → CountAtMost k program table limit
    → AreTooMany (depth_k k) program limit → ⊥
within k program table limit least few many =
    let over = too_many_over k program limit many in
    none_within (length over.names) limit over.many
    (few over.names over.distinct (λ x i. record { over = over.over x i; below = over.below table least x i }))

-- ---- no sets of groups are formed

some_never : {A : Type 0} (P : A → Type 0) (o : Option A) → ((x : A) → P x → ⊥) → HasSome P o → ⊥
some_never P None never h = h
some_never P (Some x) never h = never x h

none_large : SomeTooLarge [] → ⊥
none_large h = cc

along_never : (k : ℕ) (s : Source (as_domain (depth_k k))) (steps : List (Step Calling Acting)) (st : StateView)
    → IsOverAlong (as_domain (depth_k k)) (as_limits (depth_k k)) s steps st → ⊥
along_never k s [] st h = h
along_never k s (Do x ∷ rest) st (inl h) = none_large h
along_never k s (Do x ∷ rest) st (inr h) =
    some_never _ ((as_domain (depth_k k)).refine x st) (λ next over. along_never k s rest next over) h
along_never k s (Goal l ∷ rest) st (inl h) = none_large h
along_never k s (Goal l ∷ rest) st (inr h) =
    some_never _ (s l.pred ((as_domain (depth_k k)).call l st)) (λ answer over.
    either over none_large (λ h. some_never _ ((as_domain (depth_k k)).back l st answer) (λ next over. along_never k s rest next over) h)) h
  where
    either : {A B : Type 0} → A ⊎ B → (A → ⊥) → (B → ⊥) → ⊥
    either (inl a) f g = f a
    either (inr b) f g = g b

at_never : (k : ℕ) (s : Source (as_domain (depth_k k))) (clause : Clause) (call : Abs)
    → IsOverAt (as_domain (depth_k k)) (as_limits (depth_k k)) s clause call → ⊥
at_never k s clause call (inl h) = none_large h
at_never k s clause call (inr h) =
    some_never _ ((as_domain (depth_k k)).enter clause call) (λ st over. along_never k s ((as_domain (depth_k k)).body clause) st over) h

pub never_over : (k : ℕ) (program : ProgramView) → IsOver (depth_k k) program → ⊥
never_over k program over = at_never k (stage (as_domain (depth_k k)) (as_program (depth_k k) program) over.number) over.clause over.name.call over.over

-- Theorem: where no more than the limit count, only memory can be wanting.
pub only_memory : (k : ℕ) (program : ProgramView) (table : List PlainRow) (limit : ℕ) → IsLeastTable (depth_k k) program table
    → CountAtMost k program table limit
    → (fail : SolveFail) → HasCause (depth_k k) program limit fail → fail ≡ Memory
only_memory k program table limit least few Memory h = refl
only_memory k program table limit least few (Rows n) h = absurd (within k program table limit least few h.1)
only_memory k program table limit least few (Groups row clause literal place) h = absurd (never_over k program h.0)
