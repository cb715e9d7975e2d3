-- Lists in an order: what a sort gives, and that there is one such list.
use Rattle.std.proofs.Common.{◌≡◌, ℕ, suc, ◌<◌, ◌≤◌, false, cond, List, [], ◌∷◌, map, length, get_or, refl, sym, ap, ◌∙◌, arith, sum_by, IsPermutation}
use Rattle.std.proofs.Common.{IsSorted}
use Rattle.std.specs.Cmp.{IsTotalOrder}
use Rattle.std.specs.List.{AllByRecursion}
use Rattle.std.specs.declared.cmp.Ordering.{Ordering}
use Rattle.std.specs.declared.cmp.Ordering.TheVariants.{Less, Equal, Greater}
use Rattle.std.specs.Ordering.{is_lt, is_gt, is_eq, ordering_reverse}
use Rattle.std.proofs.lemmas.Bool.{false≢true}
use Rattle.std.proofs.lemmas.Cmp.{alike_right, tied_itself}
use Rattle.std.proofs.lemmas.List.Sums.{sum_by-cons}
use Rattle.std.proofs.lemmas.List.Sorted.{sorted_far, ranks_by, sum_by-IsPermutation}

pub by_ordering : {P : Type 0} (r : Ordering) → (r ≡ Less → P) → (r ≡ Equal → P) → (r ≡ Greater → P) → P
by_ordering Less l e g = l refl
by_ordering Equal l e g = e refl
by_ordering Greater l e g = g refl

module _ {X : Type 0} (R : X → X → Ordering) where
  -- no item is above one behind it
  abbrev pub IsUp : List X → Type 0
  IsUp [] = Unit {0}
  IsUp (x ∷ xs) = AllByRecursion (λ y. is_gt (R x y) ≡ false) xs × IsUp xs

  abbrev InOrder : List X → Type 0
  InOrder xs = (i j : ℕ) (d : X) → i ≤ j → j < length xs → is_gt (R (get_or xs i d) (get_or xs j d)) ≡ false

  head_below : (x : X) (xs : List X) → ((j : ℕ) (d : X) → j < length xs → is_gt (R x (get_or xs j d)) ≡ false) → AllByRecursion (λ y. is_gt (R x y) ≡ false) xs
  head_below x [] h = tt
  head_below x (y ∷ ys) h = (h 0 y (omega arith), head_below x ys (λ j d l. h (suc j) d (omega arith)))

  up_from : (xs : List X) → InOrder xs → IsUp xs
  up_from [] h = tt
  up_from (x ∷ xs) h =
      (head_below x xs (λ j d l. h 0 (suc j) d (omega arith) (omega arith)), up_from xs (λ i j d l k. h (suc i) (suc j) d (omega arith) (omega arith)))

  module _ (o : IsTotalOrder R) where
    turned : (x y : X) → is_lt (R y x) ≡ false → is_gt (R x y) ≡ false
    turned x y h = ap is_gt (o.antisymm x y) ∙ flipped (R y x) h
      where
        flipped : (r : Ordering) → is_lt r ≡ false → is_gt (ordering_reverse r) ≡ false
        flipped Less e = e
        flipped Equal e = refl
        flipped Greater e = refl

    -- what a sort ensures
    pub up_from_sorted : (xs : List X) → IsSorted R xs → IsUp xs
    up_from_sorted xs h = up_from xs (λ i j d l k. turned _ _ (sorted_far (λ x y. is_lt (R x y)) (ranks_by o (λ x. x)) xs h i j d l k))

    less_far : (x y z : X) → R x y ≡ Less → is_gt (R y z) ≡ false → R x z ≡ Less
    less_far x y z h n = by_ordering (R y z)
        (λ l. o.trans x y z h l)
        (λ e. sym (alike_right o y z x e) ∙ h)
        (λ g. absurd (false≢true (sym n ∙ ap is_gt g)))

    all_far : (x y : X) (ys : List X) → R x y ≡ Less → AllByRecursion (λ z. is_gt (R y z) ≡ false) ys → AllByRecursion (λ z. R x z ≡ Less) ys
    all_far x y [] h a = tt
    all_far x y (z ∷ zs) h a = (less_far x y z h a.0, all_far x y zs h a.1)

    -- 1 where the order doesn't tell the two apart
    abbrev pub once : X → X → ℕ
    once x y = cond (is_eq (R x y)) 1 0

    none_there : (x : X) (ys : List X) → AllByRecursion (λ y. R x y ≡ Less) ys → sum_by (once x) ys ≡ 0
    none_there x [] h = refl
    none_there x (y ∷ ys) h =
        let here : once x y ≡ 0 = ap (λ (r : Ordering). cond (is_eq r) 1 0) h.0 in
        omega (arith, sum_by-cons (once x) y ys, here, none_there x ys h.1)

    itself : (x : X) → once x x ≡ 1
    itself x = ap (λ (r : Ordering). cond (is_eq r) 1 0) (tied_itself o x)

    -- an item above all of a list that counts it as often
    impossible : {P : Type 0} (x y : X) (xs ys : List X) → R x y ≡ Less → AllByRecursion (λ z. is_gt (R y z) ≡ false) ys
        → sum_by (once x) (x ∷ xs) ≡ sum_by (once x) (y ∷ ys) → P
    impossible x y xs ys h a e = absurd (omega (arith, e, sum_by-cons (once x) x xs, itself x, none_there x (y ∷ ys) (h, all_far x y ys h a)))

    module _ (tie : (x y : X) → R x y ≡ Equal → x ≡ y) where
      -- two lists in order that hold each item as often are equal
      pub same_up : (xs ys : List X) → IsUp xs → IsUp ys → ((x : X) → sum_by (once x) xs ≡ sum_by (once x) ys) → xs ≡ ys
      same_up [] [] u v e = refl
      same_up [] (y ∷ ys) u v e = absurd (omega (arith, e y, sum_by-cons (once y) y ys, itself y))
      same_up (x ∷ xs) [] u v e = absurd (omega (arith, e x, sum_by-cons (once x) x xs, itself x))
      same_up (x ∷ xs) (y ∷ ys) u v e = by_ordering (R x y)
          (λ l. impossible x y xs ys l v.0 (e x))
          (λ q.
          let p : x ≡ y = tie x y q in
          let rest = same_up xs ys u.1 v.1 (λ z. let k : once z x ≡ once z y = ap (once z) p in
          omega (arith, e z, sum_by-cons (once z) x xs, sum_by-cons (once z) y ys, k)) in
          cc)
          (λ g. impossible y x ys xs (o.antisymm y x ∙ ap ordering_reverse g) u.0 (sym (e y)))

      -- two lists in order, one a permutation of the other, are equal
      pub same_permuted : (xs ys : List X) → IsUp xs → IsUp ys → IsPermutation xs ys → xs ≡ ys
      same_permuted xs ys u v p = same_up xs ys u v (λ x. sym (sum_by-IsPermutation (once x) xs ys p))

-- the same of what a function makes of the items
module _ {X Y : Type 0} (R : X → X → Ordering) (f : Y → X) where
  all_map : (x : X) (ys : List Y) → AllByRecursion (λ y. is_gt (R x (f y)) ≡ false) ys → AllByRecursion (λ z. is_gt (R x z) ≡ false) (map f ys)
  all_map x [] h = tt
  all_map x (y ∷ ys) h = (h.0, all_map x ys h.1)

  pub up_map : (ys : List Y) → IsUp (λ x y. R (f x) (f y)) ys → IsUp R (map f ys)
  up_map [] u = tt
  up_map (y ∷ ys) u = (all_map (f y) ys u.0, up_map ys u.1)
