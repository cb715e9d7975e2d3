-- Evaluations that form a set over a limit, and programs that have such an evaluation.
use Rattle.std.specs.Prelude.{◌≡◌, ◌⊎◌, ℕ, List, [], ◌∷◌, Some, false}
use Rattle.plai_theory.specs.Words.{IsIn, HasSome, item}
use Rattle.plai_theory.specs.Domain.{Step, Goal, Do, Domain, Program}
use Rattle.plai_theory.specs.Evaluation.{Source, NameOf}
use Rattle.plai_theory.specs.Stages.{stage, Reaches}
use Rattle.plai_theory.specs.LegalWork.{WorkRow, Work, LogEntry, Made, Woke, Evaluated, Grew, find, present_source, after}

-- where an operation forms a set over the limit
pub record Limits (d : Domain) : Type 1 where
  pub enter : d.Clause → d.Value → Type 0
  pub call : d.Literal → d.State → Type 0
  pub back : d.Literal → d.State → d.Value → Type 0
  pub refine : d.Action → d.State → Type 0

-- what is over from a smaller value or state is over from a larger one
pub record AreUpwardClosed (d : Domain) (g : Program d) (limits : Limits d) : Type 0 where
  pub enter : (p : d.Pred) (c : d.Clause) (v w : d.Value) → IsIn c (g.clauses p) → d.leq p v w
      → limits.enter c v → limits.enter c w
  pub call : (p : d.Pred) (c : d.Clause) (l : d.Literal) (s t : d.State) → IsIn c (g.clauses p) → IsIn (Goal l) (d.body c)
      → d.below c s t → limits.call l s → limits.call l t
  pub back : (p : d.Pred) (c : d.Clause) (l : d.Literal) (s t : d.State) (a b : d.Value) → IsIn c (g.clauses p)
      → IsIn (Goal l) (d.body c) → d.below c s t → d.leq (d.callee l) a b → limits.back l s a → limits.back l t b
  pub refine : (p : d.Pred) (c : d.Clause) (x : d.Action) (s t : d.State) → IsIn c (g.clauses p) → IsIn (Do x) (d.body c)
      → d.below c s t → limits.refine x s → limits.refine x t

-- one of these steps is over
abbrev pub IsOverAlong : (d : Domain) → Limits d → Source d → List (Step d.Literal d.Action) → d.State → Type 0
IsOverAlong d limits s [] st = ⊥
IsOverAlong d limits s (Do x ∷ rest) st = limits.refine x st ⊎ HasSome (λ next. IsOverAlong d limits s rest next) (d.refine x st)
IsOverAlong d limits s (Goal l ∷ rest) st =
    limits.call l st
    ⊎ HasSome (λ answer. limits.back l st answer ⊎ HasSome (λ next. IsOverAlong d limits s rest next) (d.back l st answer)) (s (d.callee l) (d.call l st))

-- the evaluation of the clause is over
abbrev pub IsOverAt : (d : Domain) → Limits d → Source d → d.Clause → d.Value → Type 0
IsOverAt d limits s c v = limits.enter c v ⊎ HasSome (λ st. IsOverAlong d limits s (d.body c) st) (d.enter c v)

-- The program is over: at some stage, the evaluation of a clause for a name that is reached there in so many steps is.
pub record IsOver (d : Domain) (g : Program d) (limits : Limits d) : Type 0 where
  pub number : ℕ
  pub name : NameOf d
  pub reached : Reaches d g (stage d g number) number name
  pub clause : d.Clause
  pub is_clause : IsIn clause (g.clauses name.pred)
  pub over : IsOverAt d limits (stage d g number) clause name.call

-- a pair that is evaluated is not over
abbrev pub Fits : (d : Domain) → Program d → Limits d → Work d → LogEntry d → Type 0
Fits d g limits w (Evaluated x i) =
    (c : d.Clause) → item (g.clauses x.pred) i ≡ Some c → IsOverAt d limits (present_source d w.rows) c x.call → ⊥
Fits d g limits w (Made x) = Unit {0}
Fits d g limits w (Woke x) = Unit {0}
Fits d g limits w (Grew x a) = Unit {0}

abbrev pub AllFit : (d : Domain) → Program d → Limits d → Work d → List (LogEntry d) → Type 0
AllFit d g limits w [] = Unit {0}
AllFit d g limits w (e ∷ es) = Fits d g limits w e × AllFit d g limits (after d g w e) es

-- no pair that is not dirty is over under the present rows
abbrev pub CleanFit : (d : Domain) → Program d → Limits d → List (WorkRow d) → Type 0
CleanFit d g limits rows =
    (x : NameOf d) (r : WorkRow d) → find d rows x ≡ Some r → (i : ℕ) (c : d.Clause)
    → item (g.clauses x.pred) i ≡ Some c → r.dirty i ≡ false → IsOverAt d limits (present_source d rows) c x.call → ⊥
