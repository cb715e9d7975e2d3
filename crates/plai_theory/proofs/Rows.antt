-- Looking rows up in a work state.
use Rattle.std.proofs.Common.{◌≡◌, ℕ, zero, suc, true, false, cond, List, [], ◌∷◌, ◌++◌, map, Option, Some, None, sym, refl, ap, ◌∙◌, subst, inl, inr}
use Rattle.plai_theory.specs.Words.{IsIn, given, item}
use Rattle.plai_theory.specs.Domain.{Domain, Program, IsLawful}
use Rattle.plai_theory.specs.Evaluation.{NameOf, name_of}
use Rattle.plai_theory.specs.LegalWork.{WorkRow, find, present_source, mentions}
use Rattle.plai_theory.proofs.Options.{by_test}

pub item_in : {A : Type 0} (xs : List A) (i : ℕ) (c : A) → item xs i ≡ Some c → IsIn c xs
item_in [] i c e = cc
item_in (x ∷ xs) zero c e = inl cc
item_in (x ∷ xs) (suc i) c e = inr (item_in xs i c e)

pub in_item : {A : Type 0} (xs : List A) (c : A) → IsIn c xs → (i : ℕ) × (item xs i ≡ Some c)
in_item [] c h = absurd h
in_item (x ∷ xs) c (inl e) = (zero, ap Some e)
in_item (x ∷ xs) c (inr h) = let (i, e) = in_item xs c h in (suc i, e)

module _ (d : Domain) (g : Program d) (laws : IsLawful d g) where
  pub find_name : (rows : List (WorkRow d)) (x : NameOf d) (r : WorkRow d) → find d rows x ≡ Some r → r.name ≡ x
  find_name [] x r e = cc
  find_name (q ∷ rows) x r e =
      by_test (d.same_name q.name x)
      (λ t. let f : Some q ≡ Some r = rw t at e in let k : r ≡ q = cc in ap (λ (z : WorkRow d). z.name) k ∙ laws.same_true q.name x t)
      (λ t. find_name rows x r (rw t at e))

  module _ (f : WorkRow d → WorkRow d) (keeps : (r : WorkRow d) → (f r).name ≡ r.name) where
    pub find_map : (rows : List (WorkRow d)) (x : NameOf d) → find d (map f rows) x ≡ given None (λ r. Some (f r)) (find d rows x)
    find_map [] x = refl
    find_map (q ∷ rows) x =
        let k : d.same_name (f q).name x ≡ d.same_name q.name x = ap (λ n. d.same_name n x) (keeps q) in
        by_test (d.same_name q.name x) (λ t. let u : d.same_name (f q).name x ≡ true = k ∙ t in rw (u, t) refl)
        (λ t. let u : d.same_name (f q).name x ≡ false = k ∙ t in rw (u, t) (find_map rows x))

    pub by_map : (P : WorkRow d → Type 0) (rows : List (WorkRow d)) (x : NameOf d) (r : WorkRow d) → find d (map f rows) x ≡ Some r
        → ((q : WorkRow d) → find d rows x ≡ Some q → P (f q)) → P r
    by_map P rows x r e h = at_found (find d rows x) (sym (find_map rows x) ∙ e) h
      where
        at_found : (o : Option (WorkRow d)) → given None (λ r. Some (f r)) o ≡ Some r → ((q : WorkRow d) → o ≡ Some q → P (f q)) → P r
        at_found None k h = cc
        at_found (Some q) k h = let s : f q ≡ r = cc in subst P s (h q refl)

    pub present_map : (rows : List (WorkRow d)) (p : d.Pred) (v : d.Value)
        → present_source d (map f rows) p v ≡ given None (λ r. (f r).answer) (find d rows (name_of d p v))
    present_map rows p v = rw (find_map rows (name_of d p v)) (of_found (find d rows (name_of d p v)))
      where
        of_found : (o : Option (WorkRow d)) → given None (λ r. r.answer) (given None (λ r. Some (f r)) o) ≡ given None (λ r. (f r).answer) o
        of_found None = refl
        of_found (Some q) = refl

  pub find_push : (rows : List (WorkRow d)) (r : WorkRow d) (x : NameOf d)
      → find d (rows ++ r ∷ []) x ≡ given (cond (d.same_name r.name x) (Some r) None) Some (find d rows x)
  find_push [] r x = refl
  find_push (q ∷ rows) r x = by_test (d.same_name q.name x) (λ t. rw t refl) (λ t. rw t (find_push rows r x))

  pub not_mentioned : (x : NameOf d) (names : List (NameOf d)) (y : NameOf d) → mentions d x names ≡ false → IsIn y names → d.same_name y x ≡ false
  not_mentioned x [] y e i = absurd i
  not_mentioned x (z ∷ names) y e (inl f) = by_test (d.same_name z x) (λ t. let k : true ≡ false = rw t at e in cc) (λ t. rw (← f) t)
  not_mentioned x (z ∷ names) y e (inr i) = by_test (d.same_name z x) (λ t. let k : true ≡ false = rw t at e in cc) (λ t. not_mentioned x names y (rw t at e) i)
