-- Evaluation of a clause under a closed list of rows, step by step.
use Rattle.std.proofs.Common.{◌≡◌, inl, List, [], ◌∷◌, Option, Some, None, refl, subst, inr}
use Rattle.plai_theory.specs.Words.{IsIn, given, UpTo}
use Rattle.plai_theory.specs.Domain.{Step, Goal, Do, Domain, Program}
use Rattle.plai_theory.specs.Evaluation.{NameOf, name_of, state_behind, calls_along, answer_of, calls_of}
use Rattle.plai_theory.specs.LeastTable.{Row}
use Rattle.plai_theory.specs.Tables.{source_of, HasName, IsClosed}
use Rattle.plai_theory.proofs.Options.{in_given, upper_of}

-- what evaluation from these steps on gives lies at or below the row's answer, and it calls only rows of the list
pub record IsGoing (d : Domain) (rows : List (Row d)) (r : Row d) (c : d.Clause) (steps : List (Step d.Literal d.Action)) (st : d.State) : Type 0 where
  pub answers : UpTo (d.leq r.name.pred) (given None (λ end. Some (d.exit c end)) (state_behind d (source_of d rows) steps st)) r.answer
  pub covered : (x : NameOf d) → IsIn x (calls_along d (source_of d rows) steps st) → HasName d rows x

module _ (d : Domain) (g : Program d) (rows : List (Row d)) (closed : IsClosed d g rows) (r : Row d) (c : d.Clause) where
  pub going_in : IsIn r rows → IsIn c (g.clauses r.name.pred) → (st : d.State) → d.enter c r.name.call ≡ Some st → IsGoing d rows r c (d.body c) st
  unfolding answer_of calls_of
  going_in i j st e = record {
    answers = subst (λ (o : Option d.State). UpTo (d.leq r.name.pred)
        (given None (λ st. given None (λ end. Some (d.exit c end)) (state_behind d (source_of d rows) (d.body c) st)) o) r.answer) e (closed.answers r i c j);
    covered = λ x h. closed.calls r i c j x (in_given x (d.enter c r.name.call) (λ st. calls_along d (source_of d rows) (d.body c) st) st e h);
  }

module _ (d : Domain) (rows : List (Row d)) (r : Row d) (c : d.Clause) where
  abbrev Ends : List (Step d.Literal d.Action) → d.State → Option d.Value
  Ends steps st = given None (λ end. Some (d.exit c end)) (state_behind d (source_of d rows) steps st)

  pub going_do : (x : d.Action) (steps : List (Step d.Literal d.Action)) (st after : d.State) → d.refine x st ≡ Some after
      → IsGoing d rows r c (Do x ∷ steps) st → IsGoing d rows r c steps after
  unfolding state_behind calls_along
  going_do x steps st after e h = record {
    answers = subst (λ (o : Option d.State). UpTo (d.leq r.name.pred)
        (given None (λ end. Some (d.exit c end)) (given None (λ next. state_behind d (source_of d rows) steps next) o)) r.answer) e h.answers;
    covered = λ y i. h.covered y (in_given y (d.refine x st) (λ next. calls_along d (source_of d rows) steps next) after e i);
  }

  pub going_on : (l : d.Literal) (steps : List (Step d.Literal d.Action)) (st after : d.State) (a : d.Value)
      → source_of d rows (d.callee l) (d.call l st) ≡ Some a → d.back l st a ≡ Some after
      → IsGoing d rows r c (Goal l ∷ steps) st → IsGoing d rows r c steps after
  unfolding state_behind calls_along
  going_on l steps st after a ea eb h = record {
    answers =
        let first = subst (λ (o : Option d.Value). UpTo (d.leq r.name.pred)
        (given None (λ end. Some (d.exit c end)) (given None (λ a. given None (λ next. state_behind d (source_of d rows) steps next) (d.back l st a)) o))
        r.answer) ea h.answers in
        subst (λ (o : Option d.State). UpTo (d.leq r.name.pred)
        (given None (λ end. Some (d.exit c end)) (given None (λ next. state_behind d (source_of d rows) steps next) o)) r.answer) eb first;
    covered = λ y i.
        h.covered y
        (inr (in_given y (source_of d rows (d.callee l) (d.call l st))
        (λ a. given [] (λ next. calls_along d (source_of d rows) steps next) (d.back l st a)) a ea
        (in_given y (d.back l st a) (λ next. calls_along d (source_of d rows) steps next) after eb i)));
  }

  pub going_call : (l : d.Literal) (steps : List (Step d.Literal d.Action)) (st : d.State) → IsGoing d rows r c (Goal l ∷ steps) st
      → HasName d rows (name_of d (d.callee l) (d.call l st))
  unfolding calls_along
  going_call l steps st h = h.covered (name_of d (d.callee l) (d.call l st)) (inl refl)

  pub going_end : (st : d.State) → IsGoing d rows r c [] st → (a : d.Value) × (r.answer ≡ Some a) × d.leq r.name.pred (d.exit c st) a
  unfolding state_behind
  going_end st h = upper_of (d.leq r.name.pred) (Some (d.exit c st)) r.answer (d.exit c st) h.answers refl
