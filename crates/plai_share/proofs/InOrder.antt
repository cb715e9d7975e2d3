-- Ascending lists without repeats, as sorts and searches make and use them.
use Rattle.std.proofs.Common.{◌≡◌, ℕ, zero, suc, ◌+◌, ◌<◌, ◌≤◌, true, false, nat_lt, nat_eq, List, [], ◌∷◌, length, get_or, refl, sym, subst, inl, inr, eqb}
use Rattle.std.proofs.Common.{arith, Result, Ok, Err, is_ok}
use Rattle.std.specs.Ordering.{is_lt, nat_cmp}
use Rattle.std.specs.List.{Contains, AllPairs, dedup}
use Rattle.std.specs.List.Sorted.{IsPermutation, IsNonDecreasing, IsSorted, IsStrictlyIncreasing}
use Rattle.std.proofs.lemmas.List.Kept.{AllPairs-from_increasing, Contains-dedup_nat, Contains-from_dedup}
use Rattle.std.proofs.lemmas.List.Sorted.{Contains-permutation, IsPermutation-sym}
use Rattle.std.proofs.lemmas.Map.Keys.{IsStrictlyIncreasing-dedup}
use Rattle.std.proofs.lemmas.Bool.Decides.{nat_tests}
use Rattle.plai_share_laws.specs.Groups.{normal}
use Rattle.plai_share_laws.proofs.Members.{IsIn, IsWithin, IsAscending}
use Rattle.std.specs.Prelude.{MatchResult}
use Rattle.plai_base.specs.Sets.{has}
use Rattle.plai_base.proofs.Sets.{by_test}
use Rattle.plai_share_laws.proofs.Lists.{contains_in, in_contains, normal_ascending, same_list, normal_same, in_normal, normal_in}
use Rattle.plai_share_laws.proofs.Sets.{normal_within}

-- lists with the same members have the same ascending list
pub same_normal : (xs ys : List ℕ) → IsWithin xs ys → IsWithin ys xs → normal xs ≡ normal ys
same_normal xs ys f g = same_list _ _ (normal_ascending xs) (normal_ascending ys) (normal_within xs ys f) (normal_within ys xs g)

pub normal_twice : (xs : List ℕ) → normal (normal xs) ≡ normal xs
normal_twice xs = normal_same (normal xs) (normal_ascending xs)

pub from_contains : (xs : List ℕ) (x k : ℕ) → k < length xs → get_or xs k x ≡ x → IsIn x xs
from_contains [] x k l e = absurd (omega arith)
from_contains (y ∷ xs) x zero l e = inl e
from_contains (y ∷ xs) x (suc k) l e = inr (from_contains xs x k (omega arith) e)

pub to_contains : (xs : List ℕ) (x : ℕ) → IsIn x xs → Contains xs x
to_contains [] x i = absurd i
to_contains (y ∷ xs) x (inl e) = (0, omega arith, e)
to_contains (y ∷ xs) x (inr i) = let (k, l, e) = to_contains xs x i in (suc k, omega arith, e)

rising : (xs : List ℕ) → AllPairs (λ x y. x < y) xs → IsAscending xs
rising [] h = tt
rising (x ∷ xs) h = (
  λ y i. let (k, l, e) = to_contains xs y i in
      let here : x < get_or xs k y = h 0 (suc k) y (omega arith) (omega arith) in
      subst (λ z. x < z) e here,
  rising xs (λ i j d k l. h (suc i) (suc j) d (omega arith) (omega arith)),
)

pub increasing : (xs : List ℕ) → IsStrictlyIncreasing xs → IsAscending xs
increasing xs h = rising xs (AllPairs-from_increasing xs h)

not_less : (a b : ℕ) → a ≤ b → is_lt (nat_cmp b a) ≡ false
not_less a b l = grind (arith, nat_tests)

in_order : (xs : List ℕ) → IsNonDecreasing xs → IsSorted nat_cmp xs
in_order xs h k d l m = not_less (get_or xs k d) (get_or xs (k + 1) d) (h k (k + 1) d (omega arith) m)

-- what a sort and then dropping repeats leave
pub deduplicated : (xs ys : List ℕ) → IsPermutation xs ys → IsNonDecreasing ys → dedup eqb ys ≡ normal xs
deduplicated xs ys p h = same_list (dedup eqb ys) (normal xs)
    (increasing (dedup eqb ys) (IsStrictlyIncreasing-dedup ys (in_order ys h)))
    (normal_ascending xs)
    (λ x i. normal_in xs x (let (k, l, e) = to_contains (dedup eqb ys) x i in
    let (m, n, d) = Contains-permutation ys xs x (IsPermutation-sym xs ys p) (Contains-from_dedup eqb ys x (k, l, e)) in from_contains xs x m n d))
    (λ x i. let (k, l, e) = Contains-dedup_nat ys x (Contains-permutation xs ys x p (to_contains xs x (in_normal xs x i))) in
    from_contains (dedup eqb ys) x k l e)

-- ---- a search in an ascending list

ascending_pairs : (xs : List ℕ) → IsAscending xs → (i j d : ℕ) → i ≤ j → j < length xs → get_or xs i d ≤ get_or xs j d
ascending_pairs [] h i j d l m = absurd (omega arith)
ascending_pairs (x ∷ xs) h zero zero d l m = omega arith
ascending_pairs (x ∷ xs) h zero (suc j) d l m = let k : x < get_or xs j d = h.0 (get_or xs j d) (member xs j d (omega arith)) in omega arith
  where
    member : (xs : List ℕ) (j d : ℕ) → j < length xs → IsIn (get_or xs j d) xs
    member [] j d l = absurd (omega arith)
    member (y ∷ ys) zero d l = inl refl
    member (y ∷ ys) (suc j) d l = inr (member ys j d (omega arith))
ascending_pairs (x ∷ xs) h (suc i) zero d l m = absurd (omega arith)
ascending_pairs (x ∷ xs) h (suc i) (suc j) d l m = ascending_pairs xs h.1 i j d (omega arith) (omega arith)

pub normal_rises : (xs : List ℕ) → normal xs ≡ xs → (i j : ℕ) → i ≤ j → j < length xs → get_or xs i 0 ≤ get_or xs j 0
normal_rises xs e i j l m = ascending_pairs xs (subst IsAscending e (normal_ascending xs)) i j 0 l m

has_at : (xs : List ℕ) (x k : ℕ) → k < length xs → get_or xs k 0 ≡ x → has xs x ≡ true
has_at [] x k l e = absurd (omega arith)
has_at (y ∷ ys) x zero l e = in_contains (y ∷ ys) x (inl e)
has_at (y ∷ ys) x (suc k) l e = by_test (nat_eq y x) (λ t. rw t) (λ f. rw f (has_at ys x k (omega arith) e))

place_of : (xs : List ℕ) (x : ℕ) → IsIn x xs → (k : ℕ) × (k < length xs) × (get_or xs k 0 ≡ x)
place_of [] x i = absurd i
place_of (y ∷ ys) x (inl e) = (0, omega arith, e)
place_of (y ∷ ys) x (inr i) = let (k, l, e) = place_of ys x i in (suc k, omega arith, e)

pub found : (xs : List ℕ) (x : ℕ) (r : Result ℕ ℕ) → MatchResult r (λ i. (i < length xs) × (get_or xs i 0 ≡ x))
    (λ i. (i ≤ length xs) × ((k : ℕ) → k < i → get_or xs k 0 < x) × ((k : ℕ) → i ≤ k → k < length xs → x < get_or xs k 0))
    → is_ok r ≡ has xs x
found xs x (Ok i) h = sym (has_at xs x i h.0 h.1)
found xs x (Err i) h = by_test (has xs x)
    (λ t. let (k, l, e) = place_of xs x (contains_in xs x t) in absurd (by_test (nat_lt k i)
    (λ s. let m : k < i = grind (arith, nat_tests) in let n = h.1 k m in omega arith)
    (λ s. let m : i ≤ k = grind (arith, nat_tests) in let n = h.2 k m l in omega arith)))
    (λ t. sym t)
