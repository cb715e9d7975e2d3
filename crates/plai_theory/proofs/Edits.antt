-- Kept rows lie below the new stages, so work may open with them.
use Rattle.std.proofs.Common.{◌≡◌, ℕ, zero, suc, ◌≤◌, true, false, List, [], ◌∷◌, ◌++◌, append-nil, Option, Some, None, sym, refl, ap, ◌∙◌, subst, inl, inr}
use Rattle.std.proofs.Common.{arith}
use Rattle.plai_theory.specs.Words.{IsIn, given, UpTo, item}
use Rattle.plai_theory.specs.Domain.{Domain, Program, IsLawful}
use Rattle.plai_theory.specs.Evaluation.{Source, NameOf, name_of, answer_of, calls_of}
use Rattle.plai_theory.specs.Stages.{stage, Reaches, AtEntry, ByCall, IsFromBelow}
use Rattle.plai_theory.specs.LeastTable.{Row, Order, IsLeastTable, IsSnapshot, IsStrictOrder}
use Rattle.plai_theory.specs.Tables.{source_of, HasName, IsClosed}
use Rattle.plai_theory.specs.LegalWork.{live_count, WorkRow, find, present_source, IsLegalLog, after_all, IsEnd, IsLogResult, LogEntry}
use Rattle.plai_theory.specs.Edits.{Leads, Stay, Go, IsKept, IsOpening, IsQuiet}
use Rattle.plai_theory.proofs.Eval.{Agree, same_answer, same_called, called_le, answer_le}
use Rattle.plai_theory.proofs.Stages.{trans_at, stage_le, best_least, best_above, stage_below, reach_more}
use Rattle.plai_theory.proofs.Tables.{closed_at, closed_is_least, lookup_row}
use Rattle.plai_theory.proofs.Same.{least_closed, stage_at, table_value}
use Rattle.plai_theory.proofs.Near.{IsNear, near_call}
use Rattle.plai_theory.proofs.Rows.{item_in}
use Rattle.plai_theory.proofs.Logs.{log_keeps, outcome_least}
use Rattle.plai_theory.proofs.Invariant.{Inv}
use Rattle.plai_theory.proofs.Rounds.{below_at}
use Rattle.plai_theory.proofs.LiveNames.{dormant_count}

pub in_append : {A : Type 0} (xs ys : List A) (x : A) → IsIn x xs → IsIn x (xs ++ ys)
in_append [] ys x i = absurd i
in_append (y ∷ xs) ys x (inl e) = inl e
in_append (y ∷ xs) ys x (inr i) = inr (in_append xs ys x i)

pub item_append : {A : Type 0} (xs ys : List A) (i : ℕ) (x : A) → item xs i ≡ Some x → item (xs ++ ys) i ≡ Some x
item_append [] ys i x e = cc
item_append (y ∷ xs) ys zero x e = e
item_append (y ∷ xs) ys (suc i) x e = item_append xs ys i x e

leads_on : (d : Domain) (g : Program d) (s : Source d) (x : NameOf d) (c : d.Clause) → IsIn c (g.clauses x.pred) → {y z : NameOf d}
    → IsIn y (calls_of d s c x.call) → Leads d g s y z → Leads d g s x z
leads_on d g s x c i j Stay = Go x c Stay i j
leads_on d g s x c i j (Go m b l k t) = Go m b (leads_on d g s x c i j l) k t

module _ (d : Domain) (old : Program d) (new : Program d) (laws : IsLawful d old) (laws' : IsLawful d new) (rows : List (Row d))
    (closed : IsClosed d old rows) where
  kept_calls : (x : NameOf d) → IsKept d old new rows x → (c : d.Clause) → IsIn c (old.clauses x.pred) → (y : NameOf d)
      → IsIn y (calls_of d (source_of d rows) c x.call) → IsKept d old new rows y
  kept_calls x (has, keeps) c i y j =
      ((closed_at d old laws rows closed).calls_in x.pred x.call has c i y.pred y.call j, λ z l. keeps z (leads_on d old (source_of d rows) x c i j l))

  -- a clause of the old program is one of the new one
  kept_clause : (x : NameOf d) → IsKept d old new rows x → (c : d.Clause) → IsIn c (old.clauses x.pred) → IsIn c (new.clauses x.pred)
  kept_clause x kept c i =
      let (more, e) = kept.1 x Stay in
      rw e (in_append (old.clauses x.pred) more c i)

  -- Theorem: at a name that lies at or below a kept row's, each old stage lies at or below the new one.
  pub kept_stage : (n : ℕ) (p : d.Pred) (v w : d.Value) → IsKept d old new rows (name_of d p w) → d.leq p v w
      → UpTo (d.leq p) (stage d old n p v) (stage d new n p v)
  unfolding stage
  kept_stage zero p v w kept le = tt
  kept_stage (suc n) p v w kept le =
      best_least d old laws p (stage d old n) (old.clauses p) v _ (λ c j.
      trans_at d new laws' p (answer_of d (stage d old n) c v) (answer_of d (stage d new n) c v) (stage d new (suc n) p v)
      (answer_le d old laws (stage d old n) (stage d new n) p c j v v (laws.left le) (λ q u u' i i' ule.
      let (y, k, uy) = called_le d old laws (stage d old n) (source_of d rows) p c j v w le
      (λ r a b l m able. stage_below d old laws (source_of d rows) (λ p v. HasName d rows (name_of d p v)) (closed_at d old laws rows closed) n r a b
      (kept_calls (name_of d p w) kept c j (name_of d r b) m).0 able) q u i in
      trans_at d new laws' q (stage d old n q u) (stage d new n q u) (stage d new n q u')
      (kept_stage n q u y (kept_calls (name_of d p w) kept c j (name_of d q y) k) uy)
      (stage_le d new laws' n n (omega arith) q u u' ule)))
      (best_above d new laws' p (stage d new n) (new.clauses p) v
      (λ b t. answer_le d new laws' (stage d new n) (stage d new n) p b t v v (laws.left le) (λ q x y i k. stage_le d new laws' n n (omega arith) q x y))
      c (kept_clause (name_of d p w) kept c j)))

module _ (d : Domain) (old : Program d) (new : Program d) (laws : IsLawful d old) (laws' : IsLawful d new) (before : Order d) (order : IsStrictOrder d before)
    (rows : List (Row d)) (N : ℕ) (least : (n : ℕ) → N ≤ n → IsSnapshot d old before n rows) where
  pub closed : IsClosed d old rows
  closed = least_closed d old laws before order rows N least

  -- Theorem: a kept answer lies at or below the new stage.
  pub kept_low : (x : NameOf d) → IsKept d old new rows x → UpTo (d.leq x.pred) (source_of d rows x.pred x.call) (stage d new N x.pred x.call)
  kept_low x kept =
      rw (← stage_at d old laws before order rows N least N (omega arith) x kept.0)
      (kept_stage d old new laws laws' rows closed N x.pred x.call x.call kept (table_value d old laws before order rows N least x kept.0))

  -- Theorem: a quiet edit leaves the least table.
  pub quiet_least : IsQuiet d old new rows → IsLeastTable d new before rows
  quiet_least quiet =
      closed_is_least d new laws' rows closed' before (least N (omega arith)).ordered
      (N, λ p v is. below_at d new laws' rows N row_low p v) (λ r i. (N, reach (omega arith) ((least N (omega arith)).sound r i).0))
    where
      clauses_at : (x : NameOf d) → HasName d rows x → new.clauses x.pred ≡ old.clauses x.pred
      clauses_at x (r, i, e) = subst (λ (y : NameOf d). new.clauses y.pred ≡ old.clauses y.pred) e (quiet.clauses r i)

      old_clause : (x : NameOf d) → HasName d rows x → (c : d.Clause) → IsIn c (new.clauses x.pred) → IsIn c (old.clauses x.pred)
      old_clause x has c i = subst (λ (cs : List d.Clause). IsIn c cs) (clauses_at x has) i

      led : {x y : NameOf d} → HasName d rows x → Leads d old (source_of d rows) x y → HasName d rows y
      led has Stay = has
      led has (Go {y = y} m c l i j) = (closed_at d old laws rows closed).calls_in m.pred m.call (led has l) c i y.pred y.call j

      all_kept : (x : NameOf d) → HasName d rows x → IsKept d old new rows x
      all_kept x has = (has, λ y l. ([], clauses_at y (led has l) ∙ sym (append-nil (old.clauses y.pred))))

      row_low : (r : Row d) → IsIn r rows → UpTo (d.leq r.name.pred) r.answer (stage d new N r.name.pred r.name.call)
      row_low r i = rw (← lookup_row d old laws rows closed.distinct r i) (kept_low r.name (all_kept r.name (r, i, refl)))

      closed' : IsClosed d new rows
      closed' = record {
        distinct = closed.distinct;
        entries = λ x i. closed.entries x (subst (λ (es : List (NameOf d)). IsIn x es) quiet.entries i);
        calls = λ r i c j. closed.calls r i c (old_clause r.name (r, i, refl) c j);
        answers = λ r i c j. closed.answers r i c (old_clause r.name (r, i, refl) c j);
      }

      reach : {k : ℕ} {x : NameOf d} → k ≤ N → Reaches d old (stage d old N) k x → Reaches d new (source_of d rows) k x
      reach h (AtEntry {x = x} i) = AtEntry (subst (λ (es : List (NameOf d)). IsIn x es) (sym quiet.entries) i)
      reach h (ByCall {n = k} {x = x} m c r i j) =
          let has : HasName d rows m = (least N (omega arith)).whole m (reach_more d old (stage d old N) N (omega arith) r) in
          ByCall m c (reach (omega arith) r) (subst (λ (cs : List d.Clause). IsIn c cs) (sym (clauses_at m has)) i)
          (subst (λ (ns : List (NameOf d)). IsIn x ns)
          (sym (same_called d (source_of d rows) (stage d old N) c m.call (λ q u t.
          sym (stage_at d old laws before order rows N least N (omega arith) (name_of d q u)
          ((least N (omega arith)).whole (name_of d q u) (reach_more d old (stage d old N) N h (ByCall m c r i t)))))))
          j)

  -- Work opened with the kept rows meets the invariant.
  module _ (opened : List (WorkRow d)) (open' : IsOpening d old new rows opened) where
    opened_answer : (x : NameOf d) → IsKept d old new rows x → present_source d opened x.pred x.call ≡ source_of d rows x.pred x.call
    opened_answer x kept =
        let (r, f) = open'.whole x kept in
        subst (λ (o : Option (WorkRow d)). given None (λ q. q.answer) o ≡ source_of d rows x.pred x.call) (sym f) (open'.answers x r f)

    pub opened_agree : (x : NameOf d) → IsKept d old new rows x → (c : d.Clause) → IsIn c (old.clauses x.pred)
        → Agree d (present_source d opened) (source_of d rows) (calls_of d (source_of d rows) c x.call)
    opened_agree x kept c i p v j = opened_answer (name_of d p v) (kept_calls d old new laws laws' rows closed x kept c i (name_of d p v) j)

    opened_low : IsFromBelow d new (present_source d opened)
    opened_low = (N, λ p v is. at_found p v (find d opened (name_of d p v)) refl)
      where
        at_found : (p : d.Pred) (v : d.Value) → (o : Option (WorkRow d)) → find d opened (name_of d p v) ≡ o
            → UpTo (d.leq p) (given None (λ r. r.answer) o) (stage d new N p v)
        at_found p v None f = tt
        at_found p v (Some r) f = rw (open'.answers (name_of d p v) r f) (kept_low (name_of d p v) (open'.kept (name_of d p v) r f))

    -- what a row says of its old clauses
    opened_calls : (x : NameOf d) (r : WorkRow d) → find d opened x ≡ Some r → (i : ℕ) (b : d.Clause) → item (old.clauses x.pred) i ≡ Some b
        → r.calls i ≡ calls_of d (present_source d opened) b x.call
    opened_calls x r f i b e =
        (open'.old_clauses x r f i b e).1 ∙ sym (same_called d (present_source d opened) (source_of d rows) b x.call
        (opened_agree x (open'.kept x r f) b (item_in (old.clauses x.pred) i b e)))

    opened_covers : (x : NameOf d) (r : WorkRow d) → find d opened x ≡ Some r → (i : ℕ) (b : d.Clause) → item (old.clauses x.pred) i ≡ Some b
        → UpTo (d.leq x.pred) (answer_of d (present_source d opened) b x.call) r.answer
    opened_covers x r f i b e =
        rw (
          same_answer d (present_source d opened) (source_of d rows) b x.call (opened_agree x (open'.kept x r f) b (item_in (old.clauses x.pred) i b e)),
          open'.answers x r f,
        )
        ((closed_at d old laws rows closed).answers x.pred x.call (open'.kept x r f).0 b (item_in (old.clauses x.pred) i b e))

    -- a clause of the new program that isn't dirty is the old one
    pub old_item : (x : NameOf d) (r : WorkRow d) → find d opened x ≡ Some r → (i : ℕ) (c : d.Clause) → item (new.clauses x.pred) i ≡ Some c
        → r.dirty i ≡ false → item (old.clauses x.pred) i ≡ Some c
    old_item x r f i c e t = at_item (item (old.clauses x.pred) i) refl
      where
        at_item : (o : Option d.Clause) → item (old.clauses x.pred) i ≡ o → item (old.clauses x.pred) i ≡ Some c
        at_item None k = let b : true ≡ false = sym (open'.new_clauses x r f i k).0 ∙ t in cc
        at_item (Some b) k =
            let (more, m) = (open'.kept x r f).1 x Stay in
            let same : Some b ≡ Some c = sym (item_append (old.clauses x.pred) more i b k) ∙ (ap (λ (cs : List d.Clause). item cs i) (sym m) ∙ e) in
            k ∙ same

    opened_near : (x : NameOf d) (r : WorkRow d) → find d opened x ≡ Some r → (i : ℕ) (y : NameOf d) → IsIn y (r.calls i) → IsNear d new x → IsNear d new y
    opened_near x r f i y j near = at_item (item (old.clauses x.pred) i) refl
      where
        at_item : (o : Option d.Clause) → item (old.clauses x.pred) i ≡ o → IsNear d new y
        at_item None k = absurd (subst (λ (ns : List (NameOf d)). IsIn y ns) (open'.new_clauses x r f i k).1 j)
        at_item (Some b) k =
            near_call d new laws' (present_source d opened) opened_low x near b
            (kept_clause d old new laws laws' rows closed x (open'.kept x r f) b (item_in (old.clauses x.pred) i b k)) y
            (subst (λ (ns : List (NameOf d)). IsIn y ns) (opened_calls x r f i b k) j)

    pub opened_inv : Inv d new opened None
    opened_inv =
        record {
          low = opened_low;
          value_names = λ x r f. table_value d old laws before order rows N least x (open'.kept x r f).0;
          near_live = λ x r f t. let b : true ≡ false = sym t ∙ open'.dormant x r f in cc;
          near_calls = opened_near;
          clean_calls = λ x r f i c e t. opened_calls x r f i c (old_item x r f i c e t);
          clean_answers = λ x r f i c e t. inr (opened_covers x r f i c (old_item x r f i c e t));
        }

    -- Theorem: every legal log that opens with the kept rows and ends has the new program's least table as its result.
    pub opened_log_least : (limit : ℕ) (es : List (LogEntry d)) → IsLegalLog d new limit (record { rows = opened; last = None }) es
        → IsEnd d new (after_all d new (record { rows = opened; last = None }) es) → (result : List (Row d))
        → IsLogResult d new before (after_all d new (record { rows = opened; last = None }) es) result → IsLeastTable d new before result
    opened_log_least limit es legal end result =
        outcome_least d new laws' (after_all d new (record { rows = opened; last = None }) es)
        (log_keeps d new laws' limit (record { rows = opened; last = None }) es opened_inv legal) end before result

-- the kept rows are within every limit, since none is live
pub opened_room : (d : Domain) (old : Program d) (new : Program d) (laws' : IsLawful d new) (rows : List (Row d)) (opened : List (WorkRow d))
    → IsOpening d old new rows opened → (limit : ℕ) → live_count d opened ≤ limit
opened_room d old new laws' rows opened o limit =
    let k : live_count d opened ≡ 0 = dormant_count d new laws' opened o.own o.dormant in omega arith
