-- The invariant of legal work, which rows that are made, woken and evaluated keep.
use Rattle.std.proofs.Common.{◌≡◌, ◌⊎◌, ℕ, true, false, cond, List, [], ◌∷◌, ◌++◌, map, Option, Some, None, nat_eq, eqb-true, sym, refl, ap, ap₂, ◌∙◌, subst}
use Rattle.std.proofs.Common.{inl, inr}
use Rattle.plai_theory.specs.Words.{IsIn, given, UpTo, item}
use Rattle.plai_theory.specs.Domain.{Domain, Program, IsLawful}
use Rattle.plai_theory.specs.Evaluation.{Source, NameOf, name_of, answer_of, calls_of}
use Rattle.plai_theory.specs.Stages.{IsFromBelow}
use Rattle.plai_theory.specs.LegalWork.{WorkRow, Work, find, present_source, new_row, after_waking, after_evaluating, calls_now, next_answer, NoneDue}
use Rattle.plai_theory.specs.LegalWork.{IsDemanded}
use Rattle.plai_theory.proofs.Options.{by_test}
use Rattle.plai_theory.proofs.Eval.{same_answer, same_called}
use Rattle.plai_theory.proofs.Stages.{left_at, joined_first, joined_second}
use Rattle.plai_theory.proofs.Near.{IsNear, near_value, near_entry, near_call, answer_low}
use Rattle.plai_theory.proofs.Rows.{item_in, find_name, by_map, present_map, find_push}

-- the pair of the last entry
abbrev pub IsExcepted : (d : Domain) → Option (NameOf d × ℕ) → NameOf d → ℕ → Type 0
IsExcepted d last x i = last ≡ Some (x, i)

pub no_exception : {X A : Type 0} (x : X) → (None ≡ Some x) ⊎ A → A
no_exception x (inl e) = cc
no_exception x (inr h) = h

-- what a row has to say of its pairs that are not dirty, under a source: the recorded calls are those of the evaluation,
abbrev pub RecordsCalls : (d : Domain) → Program d → Source d → NameOf d → WorkRow d → Type 0
RecordsCalls d g s x r = (i : ℕ) (c : d.Clause) → item (g.clauses x.pred) i ≡ Some c → r.dirty i ≡ false → r.calls i ≡ calls_of d s c x.call

-- and its answer lies at or below the row's, or the pair is the excepted one
abbrev pub CoversAnswers : (d : Domain) → Program d → Source d → Option (NameOf d × ℕ) → NameOf d → WorkRow d → Type 0
CoversAnswers d g s last x r = (i : ℕ) (c : d.Clause) → item (g.clauses x.pred) i ≡ Some c → r.dirty i ≡ false
    → IsExcepted d last x i ⊎ UpTo (d.leq x.pred) (answer_of d s c x.call) r.answer

-- where the row is near, so is what its recorded calls name
abbrev pub CallsNear : (d : Domain) → Program d → NameOf d → WorkRow d → Type 0
CallsNear d g x r = (i : ℕ) (y : NameOf d) → IsIn y (r.calls i) → IsNear d g x → IsNear d g y

-- The invariant of work.
pub record Inv (d : Domain) (g : Program d) (rows : List (WorkRow d)) (last : Option (NameOf d × ℕ)) : Type 0 where
  pub low : IsFromBelow d g (present_source d rows)
  pub value_names : (x : NameOf d) (r : WorkRow d) → find d rows x ≡ Some r → d.leq x.pred x.call x.call
  pub near_live : (x : NameOf d) (r : WorkRow d) → find d rows x ≡ Some r → r.live ≡ true → IsNear d g x
  pub near_calls : (x : NameOf d) (r : WorkRow d) → find d rows x ≡ Some r → CallsNear d g x r
  pub clean_calls : (x : NameOf d) (r : WorkRow d) → find d rows x ≡ Some r → RecordsCalls d g (present_source d rows) x r
  pub clean_answers : (x : NameOf d) (r : WorkRow d) → find d rows x ≡ Some r → CoversAnswers d g (present_source d rows) last x r

module _ (d : Domain) (g : Program d) (laws : IsLawful d g) where
  -- the join of a row's answer with an evaluation of it lies above both, where the name is a value
  pub next_above : (rows : List (WorkRow d)) → IsFromBelow d g (present_source d rows) → (x : NameOf d) → d.leq x.pred x.call x.call → (i : ℕ) (c : d.Clause)
      → item (g.clauses x.pred) i ≡ Some c → UpTo (d.leq x.pred) (present_source d rows x.pred x.call) (next_answer d g rows x i)
      × UpTo (d.leq x.pred) (answer_of d (present_source d rows) c x.call) (next_answer d g rows x i)
  next_above rows low x value i c e =
      let a : UpTo (d.leq x.pred) (present_source d rows x.pred x.call) (present_source d rows x.pred x.call) =
      left_at d g laws x.pred (present_source d rows x.pred x.call) _ (low.1 x.pred x.call value) in
      let b : UpTo (d.leq x.pred) (answer_of d (present_source d rows) c x.call) (answer_of d (present_source d rows) c x.call) =
      left_at d g laws x.pred (answer_of d (present_source d rows) c x.call) _
      (answer_low d g laws (present_source d rows) low x value c (item_in (g.clauses x.pred) i c e)) in
      rw e (
        joined_first d g laws x.pred (present_source d rows x.pred x.call) (answer_of d (present_source d rows) c x.call) a b,
        joined_second d g laws x.pred (present_source d rows x.pred x.call) (answer_of d (present_source d rows) c x.call) a b,
      )

  -- where no growth is due, no pair is excepted
  pub settle : (w : Work d) → Inv d g w.rows w.last → NoneDue d g w → Inv d g w.rows None
  settle w inv none =
      record {
        low = inv.low;
        value_names = inv.value_names;
        near_live = inv.near_live;
        near_calls = inv.near_calls;
        clean_calls = inv.clean_calls;
        clean_answers = λ x r f i c e t. inr (settled_answer x r f i c e (inv.clean_answers x r f i c e t));
      }
    where
      settled_answer : (x : NameOf d) (r : WorkRow d) → find d w.rows x ≡ Some r → (i : ℕ) (c : d.Clause) → item (g.clauses x.pred) i ≡ Some c
          → (w.last ≡ Some (x, i)) ⊎ UpTo (d.leq x.pred) (answer_of d (present_source d w.rows) c x.call) r.answer
          → UpTo (d.leq x.pred) (answer_of d (present_source d w.rows) c x.call) r.answer
      settled_answer x r f i c e (inr h) = h
      settled_answer x r f i c e (inl l) =
          let h : UpTo (d.leq x.pred) (answer_of d (present_source d w.rows) c x.call) (next_answer d g w.rows x i) =
          (next_above w.rows inv.low x (inv.value_names x r f) i c e).1 in
          let k : next_answer d g w.rows x i ≡ r.answer = none x i l ∙ ap (given None (λ (q : WorkRow d). q.answer)) f in
          subst (λ (o : Option d.Value). UpTo (d.leq x.pred) (answer_of d (present_source d w.rows) c x.call) o) k h

  -- a source that agrees everywhere
  same_low : (s t : Source d) → ((p : d.Pred) (v : d.Value) → s p v ≡ t p v) → IsFromBelow d g t → IsFromBelow d g s
  same_low s t e low = (low.0, λ p v is. rw (e p v) (low.1 p v is))

  pub near_demanded : (rows : List (WorkRow d)) → Inv d g rows None → (x : NameOf d) → IsDemanded d g rows x → IsNear d g x
  near_demanded rows inv x (inl i) = near_entry d g laws x i
  near_demanded rows inv x (inr (m, rec)) = inv.near_calls m rec.row rec.there rec.number x rec.names (inv.near_live m rec.row rec.there rec.is_live)

  pub by_push : (P : NameOf d → WorkRow d → Type 0) (rows : List (WorkRow d)) (x y : NameOf d) (r : WorkRow d) → find d (rows ++ new_row d x ∷ []) y ≡ Some r
      → (find d rows y ≡ Some r → P y r) → P x (new_row d x) → P y r
  by_push P rows x y r e h k = at_found (find d rows y) refl (sym (find_push d g laws rows (new_row d x) y) ∙ e)
    where
      at_found : (o : Option (WorkRow d)) → find d rows y ≡ o → given (cond (d.same_name x y) (Some (new_row d x)) None) Some o ≡ Some r → P y r
      at_found None f u =
          by_test (d.same_name x y)
          (λ t. let a : Some (new_row d x) ≡ Some r = rw t at u in let b : new_row d x ≡ r = cc in
          subst (λ z. P z r) (laws.same_true x y t) (subst (λ z. P x z) b k))
          (λ t. let a : ◌≡◌ {A = Option (WorkRow d)} None (Some r) = rw t at u in cc)
      at_found (Some q) f u = h (f ∙ u)

  pub present_push : (rows : List (WorkRow d)) (x : NameOf d) (p : d.Pred) (v : d.Value)
      → present_source d (rows ++ new_row d x ∷ []) p v ≡ present_source d rows p v
  present_push rows x p v = rw (find_push d g laws rows (new_row d x) (name_of d p v)) (at_found (find d rows (name_of d p v)))
    where
      at_found : (o : Option (WorkRow d)) → given None (λ (r : WorkRow d). r.answer)
          (given (cond (d.same_name x (name_of d p v)) (Some (new_row d x)) None) Some o) ≡ given None (λ r. r.answer) o
      at_found None = by_test (d.same_name x (name_of d p v)) (λ t. rw t refl) (λ t. rw t refl)
      at_found (Some q) = refl

  pub made : (rows : List (WorkRow d)) → Inv d g rows None → (x : NameOf d) → IsDemanded d g rows x → Inv d g (rows ++ new_row d x ∷ []) None
  made rows inv x dem =
      record {
        low = same_low (present_source d (rows ++ new_row d x ∷ [])) (present_source d rows) (present_push rows x) inv.low;
        value_names = λ y r e. by_push (λ y r. d.leq y.pred y.call y.call) rows x y r e (λ f. inv.value_names y r f)
            (near_value d g laws x (near_demanded rows inv x dem));
        near_live = λ y r e. by_push (λ y r. r.live ≡ true → IsNear d g y) rows x y r e (λ f. inv.near_live y r f) (λ t. near_demanded rows inv x dem);
        near_calls = λ y r e. by_push (CallsNear d g) rows x y r e (λ f. inv.near_calls y r f) (λ i z j. absurd j);
        clean_calls = λ y r e. by_push (RecordsCalls d g (present_source d (rows ++ new_row d x ∷ []))) rows x y r e
            (λ f i c j t. inv.clean_calls y r f i c j t
            ∙ sym (same_called d (present_source d (rows ++ new_row d x ∷ [])) (present_source d rows) c y.call (λ p v k. present_push rows x p v)))
            (λ i c j t. cc);
        clean_answers = λ y r e. by_push (CoversAnswers d g (present_source d (rows ++ new_row d x ∷ [])) None) rows x y r e
            (λ f i c j t. rw (same_answer d (present_source d (rows ++ new_row d x ∷ [])) (present_source d rows) c y.call (λ p v k. present_push rows x p v))
            (inv.clean_answers y r f i c j t))
            (λ i c j t. cc);
      }

  -- a change of rows that leaves the answers
  module _ (f : WorkRow d → WorkRow d) (keeps : (r : WorkRow d) → (f r).name ≡ r.name) (answers : (r : WorkRow d) → (f r).answer ≡ r.answer) where
    pub present_kept : (rows : List (WorkRow d)) (p : d.Pred) (v : d.Value) → present_source d (map f rows) p v ≡ present_source d rows p v
    present_kept rows p v = present_map d g laws f keeps rows p v ∙ at_found (find d rows (name_of d p v))
      where
        at_found : (o : Option (WorkRow d)) → given None (λ (r : WorkRow d). (f r).answer) o ≡ given None (λ r. r.answer) o
        at_found None = refl
        at_found (Some q) = answers q

    -- the invariant is kept where it is at each row
    pub changed : (rows : List (WorkRow d)) (last next : Option (NameOf d × ℕ)) → Inv d g rows last
        → ((x : NameOf d) (r : WorkRow d) → find d rows x ≡ Some r → (f r).live ≡ true → IsNear d g x)
        → ((x : NameOf d) (r : WorkRow d) → find d rows x ≡ Some r → CallsNear d g x (f r))
        → ((x : NameOf d) (r : WorkRow d) → find d rows x ≡ Some r → RecordsCalls d g (present_source d rows) x (f r))
        → ((x : NameOf d) (r : WorkRow d) → find d rows x ≡ Some r → CoversAnswers d g (present_source d rows) next x (f r))
        → Inv d g (map f rows) next
    changed rows last next inv live near calls covers =
        record {
          low = same_low (present_source d (map f rows)) (present_source d rows) (present_kept rows) inv.low;
          value_names = λ y r e. by_map d g laws f keeps (λ r. d.leq y.pred y.call y.call) rows y r e (inv.value_names y);
          near_live = λ y r e. by_map d g laws f keeps (λ r. r.live ≡ true → IsNear d g y) rows y r e (live y);
          near_calls = λ y r e. by_map d g laws f keeps (CallsNear d g y) rows y r e (near y);
          clean_calls = λ y r e. by_map d g laws f keeps (RecordsCalls d g (present_source d (map f rows)) y) rows y r e
              (λ q h i c j t. calls y q h i c j t ∙ sym
              (same_called d (present_source d (map f rows)) (present_source d rows) c y.call (λ p v k. present_kept rows p v)));
          clean_answers = λ y r e. by_map d g laws f keeps (CoversAnswers d g (present_source d (map f rows)) next y) rows y r e
              (λ q h i c j t. rw (same_answer d (present_source d (map f rows)) (present_source d rows) c y.call (λ p v k. present_kept rows p v))
              (covers y q h i c j t));
        }

  pub woke : (rows : List (WorkRow d)) → Inv d g rows None → (x : NameOf d) → IsDemanded d g rows x → Inv d g (map (after_waking d x) rows) None
  woke rows inv x dem =
      changed (after_waking d x) (λ r. refl) (λ r. refl) rows None None inv
      (λ y r f l. by_test (d.same_name r.name x)
      (λ t. subst (λ (z : NameOf d). IsNear d g z) (sym (laws.same_true r.name x t) ∙ find_name d g laws rows y r f) (near_demanded rows inv x dem))
      (λ t. inv.near_live y r f (rw t at l)))
      inv.near_calls inv.clean_calls inv.clean_answers

  -- one clause is evaluated
  module _ (rows : List (WorkRow d)) (inv : Inv d g rows None) (x : NameOf d) (i : ℕ) (c : d.Clause) (number : item (g.clauses x.pred) i ≡ Some c)
      (row : (r : WorkRow d) × (find d rows x ≡ Some r)) where
    near_now : (y : NameOf d) → IsIn y (calls_now d g rows x i) → IsNear d g x → IsNear d g y
    near_now y j near =
        near_call d g laws (present_source d rows) inv.low x near c (item_in (g.clauses x.pred) i c number) y (rw number at j)

    -- the pair that was evaluated, under its names
    now_is : (y : NameOf d) (k : ℕ) (b : d.Clause) → x ≡ y → i ≡ k → item (g.clauses y.pred) k ≡ Some b
        → calls_now d g rows x i ≡ calls_of d (present_source d rows) b y.call
    now_is y k b ex ei e =
        ap₂ (λ (a : NameOf d) (j : ℕ). calls_now d g rows a j) ex ei ∙ ap (given [] (λ c. calls_of d (present_source d rows) c y.call)) e

    same_row : (y : NameOf d) (r : WorkRow d) → find d rows y ≡ Some r → d.same_name r.name x ≡ true → x ≡ y
    same_row y r f t = sym (laws.same_true r.name x t) ∙ find_name d g laws rows y r f

    pub evaluate : Inv d g (map (after_evaluating d x i (calls_now d g rows x i)) rows) (Some (x, i))
    evaluate =
        changed (after_evaluating d x i (calls_now d g rows x i)) (λ r. refl) (λ r. refl) rows None (Some (x, i)) inv
        inv.near_live
        (λ y r f k z j near. by_test (d.same_name r.name x)
        (λ t. by_test (nat_eq i k) (λ u. near_now z (rw (t, u) at j) (subst (λ (z : NameOf d). IsNear d g z) (sym (same_row y r f t)) near))
        (λ u. inv.near_calls y r f k z (rw (t, u) at j) near))
        (λ t. inv.near_calls y r f k z (rw t at j) near))
        (λ y r f k b e u. by_test (d.same_name r.name x)
        (λ t. by_test (nat_eq i k) (λ z. rw (t, z) (now_is y k b (same_row y r f t) (eqb-true i k z) e))
        (λ z. rw (t, z) (inv.clean_calls y r f k b e (rw (t, z) at u))))
        (λ t. rw t (inv.clean_calls y r f k b e (rw t at u))))
        (λ y r f k b e u. by_test (d.same_name r.name x)
        (λ t. by_test (nat_eq i k) (λ z. inl (ap₂ (λ (a : NameOf d) (j : ℕ). Some (a, j)) (same_row y r f t) (eqb-true i k z)))
        (λ z. inr (no_exception (y, k) (inv.clean_answers y r f k b e (rw (t, z) at u)))))
        (λ t. inr (no_exception (y, k) (inv.clean_answers y r f k b e (rw t at u)))))
