-- A sort of lists of slots gives them in their order.
use Rattle.std.proofs.Common.{◌≡◌, ℕ, ◌+◌, Bool, true, false, cond, List, [], ◌∷◌, map, refl, sym, ap, ◌∙◌, subst, arith, sum_by, IsPermutation, IsSorted}
use Rattle.std.specs.Cmp.Lexicographic.{slice_cmp, texts_ties, nat_list_cmp_total}
use Rattle.std.specs.List.{AllByRecursion}
use Rattle.std.specs.declared.cmp.Ordering.{Ordering}
use Rattle.std.specs.declared.cmp.Ordering.TheVariants.{Less, Equal, Greater}
use Rattle.std.specs.Ordering.{is_le, is_gt, is_eq, nat_cmp, ordering_reverse}
use Rattle.std.proofs.lemmas.Bool.{false≢true}
use Rattle.std.proofs.lemmas.Cmp.{upto, on_total}
use Rattle.std.proofs.lemmas.List.Sums.{sum_by-cons}
use Rattle.std.proofs.lemmas.List.Sorted.{IsPermutation-map, sum_by-IsPermutation}
use Rattle.plai_base.proofs.Sets.{by_test}
use Rattle.plai_terms.specs.Groups.{placed, ordered}
use Rattle.plai_terms.proofs.Same.{names_equal}
use Rattle.plai_terms.proofs.Sorted.{IsUp, once, up_from_sorted, same_up, up_map}

abbrev R : List ℕ → List ℕ → Ordering
R = slice_cmp nat_cmp

-- lists that the order doesn't tell apart are equal
pub texts_tie : (xs ys : List ℕ) → R xs ys ≡ Equal → xs ≡ ys
texts_tie xs ys e = names_equal xs ys (texts_ties xs ys ∙ ap is_eq e)

not_above : (x y : List ℕ) → is_le (R x y) ≡ true → is_gt (R x y) ≡ false
not_above x y = of (R x y)
  where
    of : (r : Ordering) → is_le r ≡ true → is_gt r ≡ false
    of Less e = refl
    of Equal e = refl
    of Greater e = sym e

above : (x y : List ℕ) → is_le (R x y) ≡ false → is_gt (R y x) ≡ false
above x y h = ap is_gt (nat_list_cmp_total.antisymm y x) ∙ of (R x y) h
  where
    of : (r : Ordering) → is_le r ≡ false → is_gt (ordering_reverse r) ≡ false
    of Less e = absurd (false≢true (sym e))
    of Equal e = refl
    of Greater e = refl

all_cond : (P : List ℕ → Type 0) (b : Bool) (xs ys : List (List ℕ)) → AllByRecursion P xs → AllByRecursion P ys → AllByRecursion P (cond b xs ys)
all_cond P true xs ys h k = h
all_cond P false xs ys h k = k

all_placed : (P : List ℕ → Type 0) (x : List ℕ) (ys : List (List ℕ)) → P x → AllByRecursion P ys → AllByRecursion P (placed x ys)
all_placed P x [] h a = (h, tt)
all_placed P x (y ∷ ys) h a = all_cond P (is_le (R x y)) (x ∷ y ∷ ys) (y ∷ placed x ys) (h, a) (a.0, all_placed P x ys h a.1)

all_above : (x y : List ℕ) (ys : List (List ℕ)) → is_gt (R x y) ≡ false → AllByRecursion (λ z. is_gt (R y z) ≡ false) ys
    → AllByRecursion (λ z. is_gt (R x z) ≡ false) ys
all_above x y [] h a = tt
all_above x y (z ∷ zs) h a = (upto nat_list_cmp_total x y z h a.0, all_above x y zs h a.1)

up_placed : (x : List ℕ) (ys : List (List ℕ)) → IsUp R ys → IsUp R (placed x ys)
up_placed x [] u = (tt, tt)
up_placed x (y ∷ ys) u = by_test (is_le (R x y))
    (λ t.
    let h = not_above x y t in
    let first : IsUp R (x ∷ y ∷ ys) = ((h, all_above x y ys h u.0), u) in
    subst (λ b. IsUp R (cond b (x ∷ y ∷ ys) (y ∷ placed x ys))) (sym t) first)
    (λ t.
    let later : IsUp R (y ∷ placed x ys) = (all_placed (λ z. is_gt (R y z) ≡ false) x ys (above x y t) u.0, up_placed x ys u.1) in
    subst (λ b. IsUp R (cond b (x ∷ y ∷ ys) (y ∷ placed x ys))) (sym t) later)

pub up_ordered : (xs : List (List ℕ)) → IsUp R (ordered xs)
up_ordered [] = tt
up_ordered (x ∷ xs) = up_placed x (ordered xs) (up_ordered xs)

module _ (f : List ℕ → ℕ) where
  sum_cond : (b : Bool) (x y : List ℕ) (ys zs : List (List ℕ)) → sum_by f zs ≡ f x + sum_by f ys
      → sum_by f (cond b (x ∷ y ∷ ys) (y ∷ zs)) ≡ f x + sum_by f (y ∷ ys)
  sum_cond true x y ys zs e = sum_by-cons f x (y ∷ ys)
  sum_cond false x y ys zs e = omega (arith, sum_by-cons f y zs, sum_by-cons f y ys, e)

  sum_placed : (x : List ℕ) (ys : List (List ℕ)) → sum_by f (placed x ys) ≡ f x + sum_by f ys
  sum_placed x [] = sum_by-cons f x []
  sum_placed x (y ∷ ys) = sum_cond (is_le (R x y)) x y ys (placed x ys) (sum_placed x ys)

  sum_ordered : (xs : List (List ℕ)) → sum_by f (ordered xs) ≡ sum_by f xs
  sum_ordered [] = refl
  sum_ordered (x ∷ xs) = omega (arith, sum_placed x (ordered xs), sum_ordered xs, sum_by-cons f x xs)

module _ {X : Type 0} (items : X → List ℕ) where
  -- what a sort by the items of each leaves is the items in their order
  pub sorted_is_ordered : (xs ys : List X) (zs : List (List ℕ)) → map items xs ≡ zs → IsPermutation xs ys → IsSorted (λ x y. R (items x) (items y)) ys
      → map items ys ≡ ordered zs
  sorted_is_ordered xs ys zs e p s =
      same_up R nat_list_cmp_total texts_tie (map items ys) (ordered zs)
      (up_map R items ys (up_from_sorted (λ x y. R (items x) (items y)) (on_total items nat_list_cmp_total) ys s))
      (up_ordered zs)
      (λ z.
      sum_by-IsPermutation (once R nat_list_cmp_total z) (map items xs) (map items ys) (IsPermutation-map items xs ys p)
      ∙ ap (sum_by (once R nat_list_cmp_total z)) e
      ∙ sym (sum_ordered (once R nat_list_cmp_total z) zs))
