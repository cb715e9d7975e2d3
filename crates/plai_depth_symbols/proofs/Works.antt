-- What the operations keep holds of the calls of each name that is demanded behind legal work, where it holds of the rows with which
-- the work begins.
use Rattle.std.proofs.Common.{◌≡◌, ℕ, true, false, List, [], ◌∷◌, map, Option, Some, None, nat_eq, sym, refl, ◌∙◌, subst, inl, inr}
use Rattle.plai_theory.specs.Words.{IsIn, given, item}
use Rattle.plai_theory.specs.Domain.{Domain, Program, IsLawful}
use Rattle.plai_theory.specs.Evaluation.{NameOf, name_of, answer_of, calls_of, join_of}
use Rattle.plai_theory.specs.LeastTable.{Row}
use Rattle.plai_theory.specs.Tables.{source_of}
use Rattle.plai_theory.specs.LegalWork.{WorkRow, Work, LogEntry, Made, Woke, Evaluated, Grew, find, present_source, after_waking, after_evaluating}
use Rattle.plai_theory.specs.LegalWork.{after_growing, calls_now, answer_now, next_answer, new_row, after, IsLegal, IsLegalLog, IsDemanded, after_all}
use Rattle.plai_theory.specs.Edits.{IsOpening}
use Rattle.plai_theory.specs.Edits as edits
use Rattle.plai_theory.proofs.Options.{by_test}
use Rattle.plai_theory.proofs.Rows.{item_in, find_name, by_map}
use Rattle.plai_theory.proofs.Invariant.{by_push}
use Rattle.plai_depth_symbols.specs.Kept.{OfValues, OfStates, IsKept, AnswersSo}
use Rattle.plai_depth_symbols.proofs.Kept.{given_some, join_kept, answer_kept, calls_kept}

-- A row under work that is live only where its call has the property of calls; then its answer has that of answers, and what its
-- clauses called that of calls.
pub record IsKeptWork (d : Domain) (g : Program d) (of_call of_answer : OfValues d) (x : NameOf d) (r : WorkRow d) : Type 0 where
  pub live : r.live ≡ true → of_call x.pred x.call
  pub answer : of_call x.pred x.call → (a : d.Value) → r.answer ≡ Some a → of_answer x.pred a
  pub calls : of_call x.pred x.call → (i : ℕ) (c : d.Clause) → item (g.clauses x.pred) i ≡ Some c → (y : NameOf d) → IsIn y (r.calls i)
      → of_call y.pred y.call

abbrev pub AreKeptWorks : (d : Domain) → Program d → OfValues d → OfValues d → List (WorkRow d) → Type 0
AreKeptWorks d g of_call of_answer rows = (x : NameOf d) (r : WorkRow d) → find d rows x ≡ Some r → IsKeptWork d g of_call of_answer x r

-- the laws of any program over the domain do, for its test for equal names
module _ (d : Domain) (other : Program d) (laws : IsLawful d other) (g : Program d) (of_call : OfValues d) (of_state : OfStates d) (of_answer : OfValues d)
    (kept : IsKept d g of_call of_state of_answer) where
  abbrev Good : NameOf d → WorkRow d → Type 0
  Good = IsKeptWork d g of_call of_answer

  abbrev AreGood : List (WorkRow d) → Type 0
  AreGood = AreKeptWorks d g of_call of_answer

  present_kept : (rows : List (WorkRow d)) → AreGood rows → AnswersSo d of_call of_answer (present_source d rows)
  present_kept rows h p v a k e =
      given_some (of_answer p a) (find d rows (name_of d p v)) (λ r. r.answer) a e (λ r f is. (h (name_of d p v) r f).answer k a is)

  -- Theorem: the call of each name that is demanded under such rows has the property.
  pub demanded_kept : (rows : List (WorkRow d)) → AreGood rows → (x : NameOf d) → IsDemanded d g rows x → of_call x.pred x.call
  demanded_kept rows h x (inl i) = kept.entries x.pred x.call i
  demanded_kept rows h x (inr (m, rec)) =
      let good : Good m rec.row = h m rec.row rec.there in
      good.calls (good.live rec.is_live) rec.number rec.clause rec.is_clause x rec.names

  -- what a clause of the program answers and calls now
  answer_is : (rows : List (WorkRow d)) → AreGood rows → (x : NameOf d) → of_call x.pred x.call → (i : ℕ) (a : d.Value)
      → answer_now d g rows x i ≡ Some a → of_answer x.pred a
  answer_is rows h x k i a e =
      given_some (of_answer x.pred a) (item (g.clauses x.pred) i) (λ c. answer_of d (present_source d rows) c x.call) a e
      (λ c f is. answer_kept d g of_call of_state of_answer kept (present_source d rows) (present_kept rows h) x.pred c (item_in (g.clauses x.pred) i c f)
      x.call a k is)

  calls_are : (rows : List (WorkRow d)) → AreGood rows → (x : NameOf d) → of_call x.pred x.call → (i : ℕ) (y : NameOf d)
      → IsIn y (calls_now d g rows x i) → of_call y.pred y.call
  calls_are rows h x k i y j = at (item (g.clauses x.pred) i) refl j
    where
      at : (o : Option d.Clause) → item (g.clauses x.pred) i ≡ o → IsIn y (given [] (λ c. calls_of d (present_source d rows) c x.call) o)
          → of_call y.pred y.call
      at None f u = absurd u
      at (Some c) f u =
          calls_kept d g of_call of_state of_answer kept (present_source d rows) (present_kept rows h) x.pred c (item_in (g.clauses x.pred) i c f) x.call k y u

  -- each step leaves them so
  step : (limit : ℕ) (w : Work d) (e : LogEntry d) → AreGood w.rows → IsLegal d g limit w e → AreGood (after d g w e).rows
  step limit w (Made z) h (none, dem, absent, room) x r f =
      by_push d other laws Good w.rows z x r f (h x r)
      (record { live = λ l. demanded_kept w.rows h z dem; answer = λ k a e. absurd cc; calls = λ k i c e y j. absurd j })
  step limit w (Woke z) h (none, dem, row, room) x r f =
      by_map d other laws (after_waking d z) (λ q. refl) (Good x) w.rows x r f (λ q k. record {
        live = λ l. by_test (d.same_name q.name z)
            (λ t. subst (λ (y : NameOf d). of_call y.pred y.call) (sym (laws.same_true q.name z t) ∙ find_name d other laws w.rows x q k)
            (demanded_kept w.rows h z dem))
            (λ t. (h x q k).live (rw t at l));
        answer = (h x q k).answer;
        calls = (h x q k).calls;
      })
  step limit w (Evaluated z n) h legal x r f =
      by_map d other laws (after_evaluating d z n (calls_now d g w.rows z n)) (λ q. refl) (Good x) w.rows x r f (λ q k. record {
        live = (h x q k).live;
        answer = (h x q k).answer;
        calls = λ over i c e y j. by_test (d.same_name q.name z)
            (λ t. by_test (nat_eq n i)
            (λ u. calls_are w.rows h z (subst (λ (y : NameOf d). of_call y.pred y.call) (sym (find_name d other laws w.rows x q k) ∙ laws.same_true q.name z t)
            over) n y (rw (t, u) at j))
            (λ u. (h x q k).calls over i c e y (rw (t, u) at j)))
            (λ t. (h x q k).calls over i c e y (rw t at j));
      })
  step limit w (Grew z o) h (i, l, is, grows) x r f =
      by_map d other laws (after_growing d z o) (λ q. refl) (Good x) w.rows x r f (λ q k. record {
        live = (h x q k).live;
        answer = λ over a e. by_test (d.same_name q.name z)
            (λ t.
            let same : x ≡ z = sym (find_name d other laws w.rows x q k) ∙ laws.same_true q.name z t in
            let e' : o ≡ Some a = rw t at e in
            grown x z same over a (sym is ∙ e'))
            (λ t. (h x q k).answer over a (rw t at e));
        calls = (h x q k).calls;
      })
    where
      grown : (x z : NameOf d) → x ≡ z → of_call x.pred x.call → (a : d.Value) → next_answer d g w.rows z i ≡ Some a → of_answer x.pred a
      grown x z same over a e =
          let over' : of_call z.pred z.call = subst (λ (y : NameOf d). of_call y.pred y.call) same over in
          subst (λ (y : NameOf d). of_answer y.pred a) (sym same)
          (join_kept d g of_call of_state of_answer kept z.pred (present_source d w.rows z.pred z.call) (answer_now d g w.rows z i)
          (λ b u. present_kept w.rows h z.pred z.call b over' u) (λ b u. answer_is w.rows h z over' i b u) a e)

  -- Theorem: legal work leaves them so.
  pub log_kept : (limit : ℕ) (w : Work d) (log : List (LogEntry d)) → AreGood w.rows → IsLegalLog d g limit w log → AreGood (after_all d g w log).rows
  log_kept limit w [] h legal = h
  log_kept limit w (e ∷ log) h legal = log_kept limit (after d g w e) log (step limit w e h legal.0) legal.1

-- Theorem: the rows that an edit keeps are so, where the old table answers and calls so at kept names.
pub opening_kept : (d : Domain) (old new : Program d) (of_call of_answer : OfValues d) (rows : List (Row d)) (opened : List (WorkRow d))
    → IsOpening d old new rows opened
    → ((x : NameOf d) → edits.IsKept d old new rows x → of_call x.pred x.call → (a : d.Value) → source_of d rows x.pred x.call ≡ Some a → of_answer x.pred a)
    → ((x : NameOf d) → edits.IsKept d old new rows x → of_call x.pred x.call → (c : d.Clause) → IsIn c (old.clauses x.pred) → (y : NameOf d)
    → IsIn y (calls_of d (source_of d rows) c x.call) → of_call y.pred y.call)
    → AreKeptWorks d new of_call of_answer opened
opening_kept d old new of_call of_answer rows opened open' answers called x r f = record {
  live = λ l. let b : true ≡ false = sym l ∙ open'.dormant x r f in absurd cc;
  answer = λ h a e. answers x (open'.kept x r f) h a (sym (open'.answers x r f) ∙ e);
  calls = λ h i c e y j. at h i y j (item (old.clauses x.pred) i) refl;
}
  where
    at : of_call x.pred x.call → (i : ℕ) (y : NameOf d) → IsIn y (r.calls i) → (o : Option d.Clause) → item (old.clauses x.pred) i ≡ o
        → of_call y.pred y.call
    at h i y j None e = absurd (subst (λ (ns : List (NameOf d)). IsIn y ns) (open'.new_clauses x r f i e).1 j)
    at h i y j (Some c) e =
        called x (open'.kept x r f) h c (item_in (old.clauses x.pred) i c e) y
        (subst (λ (ns : List (NameOf d)). IsIn y ns) (open'.old_clauses x r f i c e).1 j)
