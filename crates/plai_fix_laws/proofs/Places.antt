-- Rows under work by their numbers and by their names.
use Rattle.std.proofs.Common.{◌≡◌, ℕ, zero, suc, true, false, cond, List, [], ◌∷◌, ◌++◌, map, length, Option, Some, None, IsSome, sym, refl, ap, ◌∙◌, subst}
use Rattle.std.proofs.Common.{inl, inr}
use Rattle.plai_theory.specs.Words.{IsIn, given, item, HasSome}
use Rattle.plai_theory.specs.Domain.{Domain, Program, IsLawful}
use Rattle.plai_theory.specs.Evaluation.{NameOf, name_of}
use Rattle.plai_theory.specs.LegalWork.{WorkRow, find, mentions, present_source}
use Rattle.plai_theory.specs.Count.{HaveOwnNames}
use Rattle.plai_theory.proofs.Options.{by_test}
use Rattle.plai_fix_laws.specs.WorkStates.{AtBoth, KeptRow, kept_source}

pub item_map : {A B : Type 0} (f : A → B) (xs : List A) (n : ℕ) → item (map f xs) n ≡ given None (λ x. Some (f x)) (item xs n)
item_map f [] n = refl
item_map f (x ∷ xs) zero = refl
item_map f (x ∷ xs) (suc n) = item_map f xs n

pub push_at : {A : Type 0} (xs : List A) (x : A) → item (xs ++ x ∷ []) (length xs) ≡ Some x
push_at [] x = refl
push_at (y ∷ xs) x = push_at xs x

pub push_before : {A : Type 0} (xs : List A) (x y : A) (n : ℕ) → item xs n ≡ Some y → item (xs ++ x ∷ []) n ≡ Some y
push_before [] x y n e = cc
push_before (z ∷ xs) x y zero e = e
push_before (z ∷ xs) x y (suc n) e = push_before xs x y n e

-- a place of a longer list is one of the shorter list, or the last
pub push_cases : {A : Type 0} {P : Type 0} (xs : List A) (x y : A) (n : ℕ) → item (xs ++ x ∷ []) n ≡ Some y → (item xs n ≡ Some y → P)
    → (n ≡ length xs → x ≡ y → P) → P
push_cases [] x y zero e h k = k refl cc
push_cases [] x y (suc n) e h k = cc
push_cases (z ∷ xs) x y zero e h k = h e
push_cases (z ∷ xs) x y (suc n) e h k = push_cases xs x y n e h (λ a b. k (ap suc a) b)

pub none_at_end : {A : Type 0} (xs : List A) → item xs (length xs) ≡ None
none_at_end [] = refl
none_at_end (x ∷ xs) = none_at_end xs

pub there : {A : Type 0} (o : Option A) (x : A) → o ≡ Some x → IsSome o
there o x e = subst IsSome (sym e) refl

pub have : {A : Type 0} (o : Option A) → IsSome o → (x : A) × (o ≡ Some x)
have None h = cc
have (Some x) h = (x, refl)

-- what holds of an option's value
pub has_some : {A : Type 0} (P : A → Type 0) (o : Option A) (x : A) → o ≡ Some x → P x → HasSome P o
has_some P None x e h = cc
has_some P (Some y) x e h = let same : x ≡ y = cc in subst P same h

pub in_both : {A B : Type 0} (R : A → B → Type 0) (o : Option A) (u : Option B) (y : B) → u ≡ Some y → AtBoth R o u → (x : A) × (o ≡ Some x) × R x y
in_both R o None y e h = cc
in_both R None (Some z) y e h = absurd h
in_both R (Some x) (Some z) y e h = let same : z ≡ y = cc in (x, refl, subst (R x) same h)

pub both_map : {A B : Type 0} (R S : A → B → Type 0) (f : B → B) (o : Option A) (u : Option B) → AtBoth R o u
    → ((x : A) (y : B) → o ≡ Some x → u ≡ Some y → R x y → S x (f y)) → AtBoth S o (given None (λ y. Some (f y)) u)
both_map R S f None None h k = tt
both_map R S f None (Some y) h k = absurd h
both_map R S f (Some x) None h k = absurd h
both_map R S f (Some x) (Some y) h k = k x y refl refl h

-- one more on both sides
pub both_push : {A B : Type 0} (R : ℕ → A → B → Type 0) (xs : List A) (ys : List B) (x : A) (y : B) → ((a : ℕ) → AtBoth (R a) (item xs a) (item ys a))
    → R (length xs) x y
    → (a : ℕ) → AtBoth (R a) (item (xs ++ x ∷ []) a) (item (ys ++ y ∷ []) a)
both_push R [] [] x y h l zero = l
both_push R [] [] x y h l (suc a) = tt
both_push R [] (w ∷ ys) x y h l a = absurd (h zero)
both_push R (z ∷ xs) [] x y h l a = absurd (h zero)
both_push R (z ∷ xs) (w ∷ ys) x y h l zero = h zero
both_push R (z ∷ xs) (w ∷ ys) x y h l (suc a) = both_push (λ b. R (suc b)) xs ys x y (λ b. h (suc b)) l a

module _ (d : Domain) (g : Program d) (laws : IsLawful d g) where
  pub place_of : (rows : List (WorkRow d)) (x : NameOf d) (r : WorkRow d) → find d rows x ≡ Some r → (n : ℕ) × (item rows n ≡ Some r)
  place_of [] x r e = cc
  place_of (q ∷ rows) x r e =
      by_test (d.same_name q.name x)
      (λ t. let f : Some q ≡ Some r = rw t at e in (zero, f))
      (λ t. let (n, f) = place_of rows x r (rw t at e) in (suc n, f))

  -- where a row has that name it is found
  pub some_found : (rows : List (WorkRow d)) (n : ℕ) (r : WorkRow d) → item rows n ≡ Some r → IsSome (find d rows r.name)
  some_found [] n r e = cc
  some_found (q ∷ rows) zero r e =
      let same : q ≡ r = cc in
      subst (λ (z : WorkRow d). IsSome (cond (d.same_name z.name r.name) (Some z) (find d rows r.name))) (sym same) (rw (laws.same_refl r.name) refl)
  some_found (q ∷ rows) (suc n) r e = by_test (d.same_name q.name r.name) (λ t. rw t refl) (λ t. rw t (some_found rows n r e))

  pub found_at : (rows : List (WorkRow d)) → HaveOwnNames d rows → (n : ℕ) (r : WorkRow d) → item rows n ≡ Some r → find d rows r.name ≡ Some r
  found_at [] own n r e = cc
  found_at (q ∷ rows) own zero r e =
      let same : q ≡ r = cc in
      subst (λ (z : WorkRow d). cond (d.same_name z.name r.name) (Some z) (find d rows r.name) ≡ Some r) (sym same) (rw (laws.same_refl r.name) refl)
  found_at (q ∷ rows) own (suc n) r e =
      by_test (d.same_name q.name r.name)
      (λ t.
      let k : IsSome (find d rows q.name) = subst (λ (z : NameOf d). IsSome (find d rows z)) (sym (laws.same_true q.name r.name t)) (some_found rows n r e) in
      let c : IsSome {T = WorkRow d} None = subst IsSome own.0 k in cc)
      (λ t. rw t (found_at rows own.1 n r e))

  -- equal names stand at one place
  pub one_place : (rows : List (WorkRow d)) → HaveOwnNames d rows → (m n : ℕ) (q r : WorkRow d) → item rows m ≡ Some q → item rows n ≡ Some r
      → q.name ≡ r.name → m ≡ n
  one_place [] own m n q r e f s = cc
  one_place (z ∷ rows) own zero zero q r e f s = refl
  one_place (z ∷ rows) own zero (suc n) q r e f s =
      let a : z ≡ q = cc in
      let k : IsSome (find d rows z.name) = subst (λ (y : NameOf d). IsSome (find d rows y)) (sym (ap (λ (y : WorkRow d). y.name) a ∙ s))
      (some_found rows n r f) in
      let c : IsSome {T = WorkRow d} None = subst IsSome own.0 k in cc
  one_place (z ∷ rows) own (suc m) zero q r e f s =
      let a : z ≡ r = cc in
      let k : IsSome (find d rows z.name) = subst (λ (y : NameOf d). IsSome (find d rows y)) (sym (ap (λ (y : WorkRow d). y.name) a ∙ sym s))
      (some_found rows m q e) in
      let c : IsSome {T = WorkRow d} None = subst IsSome own.0 k in cc
  one_place (z ∷ rows) own (suc m) (suc n) q r e f s = ap suc (one_place rows own.1 m n q r e f s)

  pub mentions_in : (x : NameOf d) (names : List (NameOf d)) → mentions d x names ≡ true → IsIn x names
  mentions_in x [] e = cc
  mentions_in x (y ∷ names) e = by_test (d.same_name y x) (λ t. inl (laws.same_true y x t)) (λ t. inr (mentions_in x names (rw t at e)))

  pub in_mentions : (x : NameOf d) (names : List (NameOf d)) → IsIn x names → mentions d x names ≡ true
  in_mentions x [] i = absurd i
  in_mentions x (y ∷ names) (inl e) = let t : d.same_name y x ≡ true = subst (λ (z : NameOf d). d.same_name z x ≡ true) (sym e) (laws.same_refl x) in rw t refl
  in_mentions x (y ∷ names) (inr i) = by_test (d.same_name y x) (λ t. rw t refl) (λ t. rw t (in_mentions x names i))

  -- names stay each one's own
  module _ (f : WorkRow d → WorkRow d) (keeps : (r : WorkRow d) → (f r).name ≡ r.name) where
    none_map : (rows : List (WorkRow d)) (x : NameOf d) → find d rows x ≡ None → find d (map f rows) x ≡ None
    none_map [] x e = refl
    none_map (q ∷ rows) x e =
        let k : d.same_name (f q).name x ≡ d.same_name q.name x = ap (λ n. d.same_name n x) (keeps q) in
        by_test (d.same_name q.name x)
        (λ t. let c : Some q ≡ None = rw t at e in cc)
        (λ t. let u : d.same_name (f q).name x ≡ false = k ∙ t in rw u (none_map rows x (rw t at e)))

    pub own_map : (rows : List (WorkRow d)) → HaveOwnNames d rows → HaveOwnNames d (map f rows)
    own_map [] own = tt
    own_map (q ∷ rows) own = (subst (λ (z : NameOf d). find d (map f rows) z ≡ None) (sym (keeps q)) (none_map rows q.name own.0), own_map rows own.1)

  pub own_push : (rows : List (WorkRow d)) (r : WorkRow d) → HaveOwnNames d rows → find d rows r.name ≡ None → HaveOwnNames d (rows ++ r ∷ [])
  own_push [] r own e = (refl, tt)
  own_push (q ∷ rows) r own e =
      by_test (d.same_name q.name r.name)
      (λ t. let c : Some q ≡ None = rw t at e in cc)
      (λ t. (
        push_none q.name own.0 (by_test (d.same_name r.name q.name)
            (λ u. let s : q.name ≡ r.name = sym (laws.same_true r.name q.name u) in let v : d.same_name q.name r.name ≡ true =
            subst (λ (z : NameOf d). d.same_name q.name z ≡ true) s (laws.same_refl q.name) in let c : true ≡ false = sym v ∙ t in cc)
            (λ u. u)),
        own_push rows r own.1 (rw t at e),
      ))
    where
      push_none : (x : NameOf d) → find d rows x ≡ None → d.same_name r.name x ≡ false → find d (rows ++ r ∷ []) x ≡ None
      push_none x e u = none_push rows e
        where
          none_push : (xs : List (WorkRow d)) → find d xs x ≡ None → find d (xs ++ r ∷ []) x ≡ None
          none_push [] e = rw u refl
          none_push (z ∷ xs) e = by_test (d.same_name z.name x) (λ t. let c : Some z ≡ None = rw t at e in cc) (λ t. rw t (none_push xs (rw t at e)))

  -- Theorem: kept rows answer as the rows under work that they keep.
  pub same_source : (kept : List (KeptRow d)) (rows : List (WorkRow d)) (R : ℕ → KeptRow d → WorkRow d → Type 0)
      → ((a : ℕ) → AtBoth (R a) (item kept a) (item rows a))
      → ((a : ℕ) (k : KeptRow d) (r : WorkRow d) → R a k r → (k.name ≡ r.name) × (k.answer ≡ r.answer)) → (p : d.Pred) (v : d.Value)
      → kept_source d kept p v ≡ present_source d rows p v
  same_source [] [] R h same p v = refl
  same_source [] (r ∷ rows) R h same p v = absurd (h zero)
  same_source (k ∷ kept) [] R h same p v = absurd (h zero)
  same_source (k ∷ kept) (r ∷ rows) R h same p v =
      let (n, a) = same zero k r (h zero) in
      let s : d.same_name k.name (name_of d p v) ≡ d.same_name r.name (name_of d p v) = ap (λ x. d.same_name x (name_of d p v)) n in
      by_test (d.same_name r.name (name_of d p v))
      (λ t. let u : d.same_name k.name (name_of d p v) ≡ true = s ∙ t in rw (u, t) a)
      (λ t. let u : d.same_name k.name (name_of d p v) ≡ false = s ∙ t in
      rw (u, t) (same_source kept rows (λ b. R (suc b)) (λ b. h (suc b)) (λ b. same (suc b)) p v))
