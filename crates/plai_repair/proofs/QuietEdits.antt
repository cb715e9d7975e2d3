-- An edit that changes the clauses of no row's predicate, and not the entries, leaves a whole table whole, and leaves programs
-- that are not over so.
use Rattle.std.proofs.Common.{◌≡◌, ℕ, zero, suc, ◌≤◌, true, List, IsSome, sym, refl, ◌∙◌, ap, subst, arith}
use Rattle.plai_theory.specs.Words.{IsIn, HasSome, item}
use Rattle.plai_theory.specs.Domain.{Domain, Program, IsLawful}
use Rattle.plai_theory.specs.Evaluation.{NameOf}
use Rattle.plai_theory.specs.Stages.{stage, Reaches, IsFromBelow, IsSettled}
use Rattle.plai_theory.specs.LeastTable.{Row, Order, IsStrictOrder, IsSnapshot, IsLeastTable}
use Rattle.plai_theory.specs.Tables.{source_of, HasName}
use Rattle.plai_theory.specs.Limits.{Limits, AreUpwardClosed, IsOver}
use Rattle.plai_theory.specs.Edits.{IsQuiet}
use Rattle.plai_theory.proofs.Stages.{stage_le}
use Rattle.plai_theory.proofs.Tables.{closed_at, reach_rows}
use Rattle.plai_theory.proofs.Same.{least_closed, table_value}
use Rattle.plai_theory.proofs.Rounds.{below_at}
use Rattle.plai_theory.proofs.Near.{IsNear}
use Rattle.plai_theory.proofs.Edits.{quiet_least}
use Rattle.plai_theory.proofs.Over.{near_over, over_settled}
use Rattle.plai_fix_laws.specs.WorkStates.{KeptRow, Keeping, clause_at, IsNamed}
use Rattle.plai_fix_laws.proofs.Places.{has_some}
use Rattle.plai_repair.specs.Whole.{IsWhole}
use Rattle.plai_repair.proofs.Leads.{some_is, row_of_name}

clause_same : (d : Domain) (old new : Program d) (p : d.Pred) (m : ℕ) → new.clauses p ≡ old.clauses p → clause_at d new p m ≡ clause_at d old p m
clause_same d old new p zero e = refl
clause_same d old new p (suc i) e = ap (λ (cs : List d.Clause). item cs i) e

-- a least table as a source: it lies below a stage, it is settled, and its rows are near
module _ (d : Domain) (g : Program d) (laws : IsLawful d g) (before : Order d) (order : IsStrictOrder d before) (rows : List (Row d)) (N : ℕ)
    (least : (n : ℕ) → N ≤ n → IsSnapshot d g before n rows) where
  table_low : IsFromBelow d g (source_of d rows)
  table_low = (
    N,
    λ p v is. below_at d g laws rows N (λ r i.
        rw (((least N (omega arith)).sound r i).1) (stage_le d g laws N N (omega arith) r.name.pred r.name.call r.name.call
        (table_value d g laws before order rows N least r.name (r, i, refl)))) p v,
  )

  table_rows : {k : ℕ} {x : NameOf d} → Reaches d g (source_of d rows) k x → HasName d rows x
  table_rows r = reach_rows d g laws rows (least_closed d g laws before order rows N least) r

  table_settled : IsSettled d g (source_of d rows)
  table_settled k x r c i =
      (closed_at d g laws rows (least_closed d g laws before order rows N least)).answers x.pred x.call (table_rows r) c i

  table_near : (x : NameOf d) → HasName d rows x → IsNear d g x
  table_near x (r, i, e) =
      record {
        number = N;
        steps = N;
        above = x.call;
        reached = subst (λ (y : NameOf d). Reaches d g (stage d g N) N y) e ((least N (omega arith)).sound r i).0;
        le = table_value d g laws before order rows N least x (r, i, e);
      }

module _ (d : Domain) (old new : Program d) (laws : IsLawful d old) (laws' : IsLawful d new) (before : Order d) (order : IsStrictOrder d before)
    (rows : List (Row d)) (least : IsLeastTable d old before rows) (quiet : IsQuiet d old new rows) where
  still_least : IsLeastTable d new before rows
  still_least = quiet_least d old new laws laws' before order rows least.0 least.1 quiet

  clauses_same : (x : NameOf d) → HasName d rows x → new.clauses x.pred ≡ old.clauses x.pred
  clauses_same x (r, i, e) = subst (λ (y : NameOf d). new.clauses y.pred ≡ old.clauses y.pred) e (quiet.clauses r i)

  -- Theorem: where the old program is not over, neither is the new one.
  pub quiet_not_over : (limits : Limits d) → AreUpwardClosed d old limits → AreUpwardClosed d new limits → (IsOver d old limits → ⊥) → IsOver d new limits → ⊥
  quiet_not_over limits mono mono' fine over =
      let (x, (k, r), (c, i, o)) = over_settled d new laws' limits mono' (source_of d rows)
      (table_low d new laws' before order rows still_least.0 still_least.1)
      (table_settled d new laws' before order rows still_least.0 still_least.1) over in
      let has = table_rows d new laws' before order rows still_least.0 still_least.1 r in
      fine (near_over d old laws limits mono (source_of d rows) (table_low d old laws before order rows least.0 least.1) x
      (table_near d old laws before order rows least.0 least.1 x has) c (subst (λ (cs : List d.Clause). IsIn c cs) (clauses_same x has) i) o)

  module _ (k : Keeping d) (w : IsWhole d old before rows k) where
    named_clause : (n : ℕ) (x : NameOf d) → IsNamed d k.rows n x → (m : ℕ) → clause_at d new x.pred m ≡ clause_at d old x.pred m
    named_clause n x named m =
        let (r, e, same) = row_of_name d k.rows n x named in
        clause_same d old new x.pred m (clauses_same x (subst (HasName d rows) same (w.sound n r e).0))

    still_callers : (n m j : ℕ) → k.calls n m j ≡ true → HasSome (λ (r : KeptRow d). IsSome (clause_at d new r.name.pred m)) (item k.rows n)
    still_callers n m j t =
        let (r, e, some) = some_is (λ (r : KeptRow d). IsSome (clause_at d old r.name.pred m)) (item k.rows n) (w.callers n m j t) in
        has_some (λ (r : KeptRow d). IsSome (clause_at d new r.name.pred m)) (item k.rows n) r e
        (subst IsSome (sym (clause_same d old new r.name.pred m (clauses_same r.name (w.sound n r e).0))) some)

    -- Theorem: the table stays whole.
    pub quiet_whole : IsWhole d new before rows k
    quiet_whole = record {
      least = still_least;
      sound = w.sound;
      whole = w.whole;
      once = w.once;
      live = w.live;
      clean = w.clean;
      calls = λ n m j x y c named e there. w.calls n m j x y c named (sym (named_clause n x named m) ∙ e) there;
      callers = still_callers;
      called = w.called;
    }
