-- Work that begins with values has values alone.
use Rattle.std.proofs.Common.{◌≡◌, ℕ, nat_eq, List, [], ◌∷◌, Option, Some, None, sym, refl, ◌∙◌, subst, inl, inr}
use Rattle.plai_theory.specs.Words.{IsIn, UpTo, given, item}
use Rattle.plai_theory.specs.Domain.{Domain, Program, IsLawful, Step, Goal, Do}
use Rattle.plai_theory.specs.Evaluation.{Source, NameOf, name_of, state_behind, calls_along, answer_of, calls_of, join_of}
use Rattle.plai_theory.specs.LegalWork.{WorkRow, Work, LogEntry, Made, Woke, Evaluated, Grew, find, present_source, after_waking, after_evaluating}
use Rattle.plai_theory.specs.LegalWork.{after_growing, calls_now, answer_now, after, IsDemanded, IsLegal, IsLegalLog, after_all}
use Rattle.plai_theory.proofs.Options.{given_in, by_test}
use Rattle.plai_theory.proofs.Rows.{item_in, find_name, by_map}
use Rattle.plai_theory.proofs.Invariant.{by_push}
use Rattle.plai_fix_laws.specs.Logs.{AreValues}

-- answers at values are values
abbrev IsValued : (d : Domain) → Source d → Type 0
IsValued d s = (p : d.Pred) (v : d.Value) → d.leq p v v → UpTo (d.leq p) (s p v) (s p v)

-- what a related option has
self_of : {A : Type 0} (R : A → A → Type 0) (o : Option A) (x : A) → UpTo R o o → o ≡ Some x → R x x
self_of {A} R o x h e = subst (λ (z : Option A). UpTo R z z) e h

-- two options bound to one
bound_self : {A B : Type 0} (R : A → A → Type 0) (Q : B → B → Type 0) (o : Option A) (f : A → Option B) → UpTo R o o
    → ((x : A) → o ≡ Some x → R x x → UpTo Q (f x) (f x)) → UpTo Q (given None f o) (given None f o)
bound_self R Q None f h k = tt
bound_self R Q (Some x) f h k = k x refl h

module _ (d : Domain) (g : Program d) (laws : IsLawful d g) (s : Source d) (valued : IsValued d s) (p : d.Pred) (c : d.Clause)
    (inside : IsIn c (g.clauses p)) where
  abbrev Part : List (Step d.Literal d.Action) → Type 0
  Part steps = (x : Step d.Literal d.Action) → IsIn x steps → IsIn x (d.body c)

  state_valued : (steps : List (Step d.Literal d.Action)) → Part steps → (a : d.State) → d.below c a a
      → UpTo (d.below c) (state_behind d s steps a) (state_behind d s steps a)
  unfolding state_behind
  state_valued [] part a h = h
  state_valued (Do x ∷ rest) part a h =
      bound_self (d.below c) (d.below c) (d.refine x a) (λ b. state_behind d s rest b) (laws.refine p c x a a inside (part _ (inl refl)) h)
      (λ b e k. state_valued rest (λ y i. part y (inr i)) b k)
  state_valued (Goal l ∷ rest) part a h =
      bound_self (d.leq (d.callee l)) (d.below c) (s (d.callee l) (d.call l a)) (λ v. given None (λ b. state_behind d s rest b) (d.back l a v))
      (valued (d.callee l) (d.call l a) (laws.call p c l a a inside (part _ (inl refl)) h))
      (λ v e k. bound_self (d.below c) (d.below c) (d.back l a v) (λ b. state_behind d s rest b)
      (laws.back p c l a a v v inside (part _ (inl refl)) h k) (λ b f m. state_valued rest (λ y i. part y (inr i)) b m))

  called_valued : (steps : List (Step d.Literal d.Action)) → Part steps → (a : d.State) → d.below c a a → (y : NameOf d)
      → IsIn y (calls_along d s steps a) → d.leq y.pred y.call y.call
  unfolding calls_along
  called_valued [] part a h y i = absurd i
  called_valued (Do x ∷ rest) part a h y i =
      given_in _ y (d.refine x a) _ i (λ b e j. called_valued rest (λ z k. part z (inr k)) b
      (self_of (d.below c) (d.refine x a) b (laws.refine p c x a a inside (part _ (inl refl)) h) e) y j)
  called_valued (Goal l ∷ rest) part a h y (inl e) =
      subst (λ (x : NameOf d). d.leq x.pred x.call x.call) e (laws.call p c l a a inside (part _ (inl refl)) h)
  called_valued (Goal l ∷ rest) part a h y (inr i) =
      given_in _ y (s (d.callee l) (d.call l a)) _ i (λ v e j.
      given_in _ y (d.back l a v) _ j (λ b f k. called_valued rest (λ z m. part z (inr m)) b
      (self_of (d.below c) (d.back l a v) b (laws.back p c l a a v v inside (part _ (inl refl)) h
      (self_of (d.leq (d.callee l)) (s (d.callee l) (d.call l a)) v
      (valued (d.callee l) (d.call l a) (laws.call p c l a a inside (part _ (inl refl)) h)) e)) f) y k))

  -- the answer of a clause at a value is a value, and so are the names that it calls
  pub answer_valued : (v : d.Value) → d.leq p v v → UpTo (d.leq p) (answer_of d s c v) (answer_of d s c v)
  unfolding answer_of
  answer_valued v is =
      bound_self (d.below c) (d.leq p) (d.enter c v) (λ a. given None (λ end. Some (d.exit c end)) (state_behind d s (d.body c) a))
      (laws.enter p c v v inside is)
      (λ a e k. bound_self (d.below c) (d.leq p) (state_behind d s (d.body c) a) (λ end. Some (d.exit c end)) (state_valued (d.body c) (λ x i. i) a k)
      (λ b f m. laws.exit p c b b inside m))

  pub calls_valued : (v : d.Value) → d.leq p v v → (y : NameOf d) → IsIn y (calls_of d s c v) → d.leq y.pred y.call y.call
  unfolding calls_of
  calls_valued v is y i =
      given_in _ y (d.enter c v) _ i (λ a e j. called_valued (d.body c) (λ x k. k) a (self_of (d.below c) (d.enter c v) a (laws.enter p c v v inside is) e) y j)

module _ (d : Domain) (g : Program d) (laws : IsLawful d g) where
  pub rows_valued : (rows : List (WorkRow d)) → AreValues d rows → IsValued d (present_source d rows)
  rows_valued rows values p v is = at (find d rows (name_of d p v)) refl
    where
      at : (o : Option (WorkRow d)) → find d rows (name_of d p v) ≡ o
          → UpTo (d.leq p) (given None (λ (r : WorkRow d). r.answer) o) (given None (λ (r : WorkRow d). r.answer) o)
      at None e = tt
      at (Some r) e = values.answers (name_of d p v) r e

  join_valued : (p : d.Pred) (a b : Option d.Value) → UpTo (d.leq p) a a → UpTo (d.leq p) b b → UpTo (d.leq p) (join_of d a b) (join_of d a b)
  unfolding join_of
  join_valued p None b h k = k
  join_valued p (Some x) None h k = h
  join_valued p (Some x) (Some y) h k = laws.right (laws.join_first h k)

  demanded_value : (rows : List (WorkRow d)) → AreValues d rows → (x : NameOf d) → IsDemanded d g rows x → d.leq x.pred x.call x.call
  demanded_value rows values x (inl i) = laws.entries x.pred x.call i
  demanded_value rows values x (inr (m, rec)) = values.calls m rec.row rec.there rec.number x rec.names

  answered : (rows : List (WorkRow d)) → AreValues d rows → (x : NameOf d) → d.leq x.pred x.call x.call → (i : ℕ)
      → UpTo (d.leq x.pred) (answer_now d g rows x i) (answer_now d g rows x i)
  answered rows values x is i = at (item (g.clauses x.pred) i) refl
    where
      at : (o : Option d.Clause) → item (g.clauses x.pred) i ≡ o
          → UpTo (d.leq x.pred) (given None (λ c. answer_of d (present_source d rows) c x.call) o)
          (given None (λ c. answer_of d (present_source d rows) c x.call) o)
      at None e = tt
      at (Some c) e = answer_valued d g laws (present_source d rows) (rows_valued rows values) x.pred c (item_in (g.clauses x.pred) i c e) x.call is

  called : (rows : List (WorkRow d)) → AreValues d rows → (x : NameOf d) → d.leq x.pred x.call x.call → (i : ℕ) (y : NameOf d)
      → IsIn y (calls_now d g rows x i) → d.leq y.pred y.call y.call
  called rows values x is i y inside = at (item (g.clauses x.pred) i) refl inside
    where
      at : (o : Option d.Clause) → item (g.clauses x.pred) i ≡ o → IsIn y (given [] (λ c. calls_of d (present_source d rows) c x.call) o)
          → d.leq y.pred y.call y.call
      at None e h = absurd h
      at (Some c) e h = calls_valued d g laws (present_source d rows) (rows_valued rows values) x.pred c (item_in (g.clauses x.pred) i c e) x.call is y h

  step_values : (limit : ℕ) (w : Work d) (e : LogEntry d) → AreValues d w.rows → IsLegal d g limit w e → AreValues d (after d g w e).rows
  step_values limit w (Made x) values (none, dem, absent, room) =
      record {
        names = λ y r e. by_push d g laws (λ y r. d.leq y.pred y.call y.call) w.rows x y r e (λ f. values.names y r f) (demanded_value w.rows values x dem);
        answers = λ y r e. by_push d g laws (λ y r. UpTo (d.leq y.pred) r.answer r.answer) w.rows x y r e (λ f. values.answers y r f) tt;
        calls = λ y r e. by_push d g laws (λ y r. (i : ℕ) (z : NameOf d) → IsIn z (r.calls i) → d.leq z.pred z.call z.call) w.rows x y r e
            (λ f. values.calls y r f) (λ i z j. absurd j);
      }
  step_values limit w (Woke x) values legal =
      record {
        names = λ y r e. by_map d g laws (after_waking d x) (λ r. refl) (λ r. d.leq y.pred y.call y.call) w.rows y r e (values.names y);
        answers = λ y r e. by_map d g laws (after_waking d x) (λ r. refl) (λ r. UpTo (d.leq y.pred) r.answer r.answer) w.rows y r e (values.answers y);
        calls = λ y r e. by_map d g laws (after_waking d x) (λ r. refl) (λ r. (i : ℕ) (z : NameOf d) → IsIn z (r.calls i) → d.leq z.pred z.call z.call)
            w.rows y r e (values.calls y);
      }
  step_values limit w (Evaluated x i) values (none, (q, there, live, dirty), clause) =
      record {
        names = λ y r e. by_map d g laws (after_evaluating d x i (calls_now d g w.rows x i)) (λ r. refl) (λ r. d.leq y.pred y.call y.call) w.rows y r e
            (values.names y);
        answers = λ y r e. by_map d g laws (after_evaluating d x i (calls_now d g w.rows x i)) (λ r. refl) (λ r. UpTo (d.leq y.pred) r.answer r.answer) w.rows
            y r e (values.answers y);
        calls = λ y r e. by_map d g laws (after_evaluating d x i (calls_now d g w.rows x i)) (λ r. refl)
            (λ r. (j : ℕ) (z : NameOf d) → IsIn z (r.calls j) → d.leq z.pred z.call z.call)
            w.rows y r e
            (λ a f j z inside. by_test (d.same_name a.name x)
            (λ t. by_test (nat_eq i j) (λ u. called w.rows values x (values.names x q there) i z (rw (t, u) at inside))
            (λ u. values.calls y a f j z (rw (t, u) at inside)))
            (λ t. values.calls y a f j z (rw t at inside)));
      }
  step_values limit w (Grew x a) values (i, last, is, grows) =
      record {
        names = λ y r e. by_map d g laws (after_growing d x a) (λ r. refl) (λ r. d.leq y.pred y.call y.call) w.rows y r e (values.names y);
        answers = λ y r e. by_map d g laws (after_growing d x a) (λ r. refl) (λ r. UpTo (d.leq y.pred) r.answer r.answer) w.rows y r e
            (λ q f. by_test (d.same_name q.name x) (λ t. rw t (grown y q f (sym (laws.same_true q.name x t) ∙ find_name d g laws w.rows y q f)))
            (λ t. rw t (values.answers y q f)));
        calls = λ y r e. by_map d g laws (after_growing d x a) (λ r. refl) (λ r. (j : ℕ) (z : NameOf d) → IsIn z (r.calls j) → d.leq z.pred z.call z.call)
            w.rows y r e (values.calls y);
      }
    where
      grown : (y : NameOf d) (q : WorkRow d) → find d w.rows y ≡ Some q → x ≡ y → UpTo (d.leq y.pred) a a
      grown y q f same =
          let value : d.leq x.pred x.call x.call = subst (λ (z : NameOf d). d.leq z.pred z.call z.call) (sym same) (values.names y q f) in
          subst (λ (z : NameOf d). UpTo (d.leq z.pred) a a) same
          (subst (λ (o : Option d.Value). UpTo (d.leq x.pred) o o) (sym is)
          (join_valued x.pred (present_source d w.rows x.pred x.call) (answer_now d g w.rows x i)
          (rows_valued w.rows values x.pred x.call value) (answered w.rows values x value i)))

  pub log_values : (limit : ℕ) (w : Work d) (es : List (LogEntry d)) → AreValues d w.rows → IsLegalLog d g limit w es
      → AreValues d (after_all d g w es).rows
  log_values limit w [] values legal = values
  log_values limit w (e ∷ es) values legal = log_values limit (after d g w e) es (step_values limit w e values legal.0) legal.1
