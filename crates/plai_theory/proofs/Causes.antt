-- Why a kept row is evaluated.
use Rattle.std.proofs.Common.{◌≡◌, ℕ, true, false, cond, List, [], ◌∷◌, ◌++◌, map, nat_eq, Option, Some, None, sym, refl, ap, ◌∙◌, inl, inr}
use Rattle.plai_theory.specs.Words.{IsIn, given, item}
use Rattle.plai_theory.specs.Domain.{Domain, Program, IsLawful}
use Rattle.plai_theory.specs.Evaluation.{NameOf}
use Rattle.plai_theory.specs.LeastTable.{Row}
use Rattle.plai_theory.specs.LegalWork.{WorkRow, Work, Made, Woke, Evaluated, Grew, find, new_row, mentions, after_waking, after_evaluating, after_growing}
use Rattle.plai_theory.specs.LegalWork.{calls_now, after, IsLegal, IsLegalLog, after_all, work_with, LogEntry}
use Rattle.plai_theory.specs.Edits.{IsKept, IsOpening, grown_names, grown_back, IsCaused}
use Rattle.plai_theory.proofs.Options.{by_test}
use Rattle.plai_theory.proofs.Rows.{find_map, find_push, by_map}
use Rattle.plai_theory.proofs.Invariant.{by_push}

-- a kept row stays, and its dirty clauses have a cause
pub record IsTraced (d : Domain) (old : Program d) (new : Program d) (table : List (Row d)) (grew : List (NameOf d)) (rows : List (WorkRow d)) : Type 0 where
  pub there : (x : NameOf d) → IsKept d old new table x → (r : WorkRow d) × (find d rows x ≡ Some r)
  pub caused : (x : NameOf d) (r : WorkRow d) → find d rows x ≡ Some r → IsKept d old new table x → (i : ℕ) → r.dirty i ≡ true
      → IsCaused d old grew x i (r.calls i)

module _ (d : Domain) (old : Program d) (new : Program d) (laws : IsLawful d new) (table : List (Row d)) where
  abbrev RowCaused : List (NameOf d) → NameOf d → WorkRow d → Type 0
  RowCaused grew x r = IsKept d old new table x → (i : ℕ) → r.dirty i ≡ true → IsCaused d old grew x i (r.calls i)

  mentioned : (x : NameOf d) (names : List (NameOf d)) → mentions d x names ≡ true → IsIn x names
  mentioned x [] e = cc
  mentioned x (y ∷ names) e = by_test (d.same_name y x) (λ t. inl (laws.same_true y x t)) (λ t. inr (mentioned x names (rw t at e)))

  stays : (f : WorkRow d → WorkRow d) (keeps : (r : WorkRow d) → (f r).name ≡ r.name) (rows : List (WorkRow d)) (x : NameOf d)
      → (r : WorkRow d) × (find d rows x ≡ Some r) → (r : WorkRow d) × (find d (map f rows) x ≡ Some r)
  stays f keeps rows x (r, e) = (f r, find_map d new laws f keeps rows x ∙ ap (given None (λ r. Some (f r))) e)

  more : (grew : List (NameOf d)) (z x : NameOf d) (i : ℕ) (calls : List (NameOf d)) → IsCaused d old grew x i calls → IsCaused d old (z ∷ grew) x i calls
  more grew z x i calls (inl e) = inl e
  more grew z x i calls (inr (y, k, l)) = inr (y, inr k, l)

  trace_step : (limit : ℕ) (w : Work d) (e : LogEntry d) (grew : List (NameOf d)) → IsTraced d old new table grew w.rows → IsLegal d new limit w e
      → IsTraced d old new table (grown_names d (e ∷ []) ++ grew) (after d new w e).rows
  trace_step limit w (Made z) grew t (none, dem, absent, room) =
      record {
        there = λ x kept. let (r, e) = t.there x kept in
            (r, find_push d new laws w.rows (new_row d z) x ∙ ap (given (cond (d.same_name z x) (Some (new_row d z)) None) Some) e);
        caused = λ x r e. by_push d new laws (RowCaused grew) w.rows z x r e (λ f. t.caused x r f)
            (λ kept i u. let (q, f) = t.there z kept in let c : Some q ≡ None = sym f ∙ absent in cc);
      }
  trace_step limit w (Woke z) grew t legal =
      record {
        there = λ x kept. stays (after_waking d z) (λ r. refl) w.rows x (t.there x kept);
        caused = λ x r e. by_map d new laws (after_waking d z) (λ r. refl) (RowCaused grew x) w.rows x r e (t.caused x);
      }
  trace_step limit w (Evaluated z j) grew t legal =
      record {
        there = λ x kept. stays (after_evaluating d z j (calls_now d new w.rows z j)) (λ r. refl) w.rows x (t.there x kept);
        caused = λ x r e. by_map d new laws (after_evaluating d z j (calls_now d new w.rows z j)) (λ r. refl) (RowCaused grew x) w.rows x r e (λ q f kept i u.
            by_test (d.same_name q.name z)
            (λ s. by_test (nat_eq j i) (λ n. let c : false ≡ true = rw (s, n) at u in cc) (λ n. rw (s, n) (t.caused x q f kept i (rw (s, n) at u))))
            (λ s. rw s (t.caused x q f kept i (rw s at u))));
      }
  trace_step limit w (Grew z a) grew t legal =
      record {
        there = λ x kept. stays (after_growing d z a) (λ r. refl) w.rows x (t.there x kept);
        caused = λ x r e. by_map d new laws (after_growing d z a) (λ r. refl) (RowCaused (z ∷ grew) x) w.rows x r e (λ q f kept i u.
            by_test (mentions d z (q.calls i)) (λ m. inr (z, inl refl, mentioned z (q.calls i) m))
            (λ m. more grew z x i (q.calls i) (t.caused x q f kept i (rw m at u))));
      }

  pub trace_log : (limit : ℕ) (w : Work d) (es : List (LogEntry d)) (grew : List (NameOf d)) → IsTraced d old new table grew w.rows
      → IsLegalLog d new limit w es → IsTraced d old new table (grown_back d grew es) (after_all d new w es).rows
  trace_log limit w [] grew t legal = t
  trace_log limit w (e ∷ es) grew t legal =
      trace_log limit (after d new w e) es (grown_names d (e ∷ []) ++ grew) (trace_step limit w e grew t legal.0) legal.1

  opened_traced : (opened : List (WorkRow d)) → IsOpening d old new table opened → IsTraced d old new table [] opened
  opened_traced opened o =
      record {
        there = o.whole;
        caused = λ x r f kept i u. inl (at_item x r f i u (item (old.clauses x.pred) i) refl);
      }
    where
      at_item : (x : NameOf d) (r : WorkRow d) → find d opened x ≡ Some r → (i : ℕ) → r.dirty i ≡ true → (c : Option d.Clause)
          → item (old.clauses x.pred) i ≡ c → item (old.clauses x.pred) i ≡ None
      at_item x r f i u None e = e
      at_item x r f i u (Some c) e = let b : true ≡ false = sym u ∙ (o.old_clauses x r f i c e).0 in cc

  -- Theorem: a clause of a kept row is dirty, so that it may be evaluated, only where the predicate gained it, or where a name of its recorded calls grew in
  -- this edit.
  pub dirty_cause : (opened : List (WorkRow d)) → IsOpening d old new table opened → (limit : ℕ) (es : List (LogEntry d))
      → IsLegalLog d new limit (work_with d opened) es → (x : NameOf d) (r : WorkRow d) → find d (after_all d new (work_with d opened) es).rows x ≡ Some r
      → IsKept d old new table x → (i : ℕ) → r.dirty i ≡ true → IsCaused d old (grown_back d [] es) x i (r.calls i)
  dirty_cause opened o limit es log = (trace_log limit (work_with d opened) es [] (opened_traced opened o) log).caused
