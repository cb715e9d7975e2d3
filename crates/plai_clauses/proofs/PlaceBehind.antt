-- Where an item goes among those that stand in the order of their modules' names.
use Rattle.std.proofs.Common.{◌≡◌, ◌∙◌, ℕ, ◌<◌, ◌≤◌, zero, suc, Bool, true, false, Less, Equal, Greater, Ordering, List, [], ◌∷◌, length, map, inl, inr, refl}
use Rattle.std.proofs.Common.{sym, ap, subst, arith}
use Rattle.std.proofs.lemmas.Bool.{cases_lt}
use Rattle.std.proofs.lemmas.Cmp.{nat_list_cmp_total}
use Rattle.std.specs.Prelude.{AllPairs, not, slice_index_or}
use Rattle.std.specs.List.Sorted.{IsPartitionedBy, IsPartitionPoint}
use Rattle.std.specs.Ordering.{nat_cmp, is_lt, is_le, ordering_reverse}
use Rattle.std.specs.Cmp.Lexicographic.{slice_cmp}
use Rattle.plai_theory.proofs.Options.{by_test}
use Rattle.plai_clauses.specs.Program.{place_behind}
use Rattle.plai_clauses.specs.ByModule.{IsUpTo}
use Rattle.plai_clauses.proofs.ByModule.{IsUpTo-trans, up_to_not_below}

not_true : (b : Bool) → not b ≡ true → b ≡ false
not_true true e = cc
not_true false e = refl

not_false : (b : Bool) → not b ≡ false → b ≡ true
not_false true e = refl
not_false false e = cc

not_below : (o : Ordering) → is_le o ≡ true → not (is_lt (ordering_reverse o)) ≡ true
not_below Less e = refl
not_below Equal e = refl
not_below Greater e = cc

module _ {A : Type 0} (home : A → List ℕ) (name : List ℕ) where
  -- the item is of the module or of one before it
  abbrev pub is_up_to : A → Bool
  is_up_to x = not (is_lt (slice_cmp nat_cmp name (home x)))

  up_to : (x : A) → is_up_to x ≡ true → IsUpTo (home x) name
  up_to x e = up_to_not_below name (home x) (not_true (is_lt (slice_cmp nat_cmp name (home x))) e)

  from_up_to : (x : A) → IsUpTo (home x) name → is_up_to x ≡ true
  from_up_to x h = ap (λ (o : Ordering). not (is_lt o)) (nat_list_cmp_total.antisymm name (home x)) ∙ not_below (slice_cmp nat_cmp (home x) name) h

  pub parted : (xs : List A) → AllPairs (λ a b. IsUpTo (home a) (home b)) xs → IsPartitionedBy is_up_to xs
  parted xs all i j d low within holds =
      elim (cases_lt i j) [
        | inl under ↦
            from_up_to (slice_index_or xs i d)
            (IsUpTo-trans (home (slice_index_or xs i d)) (home (slice_index_or xs j d)) name (all i j d under within) (up_to (slice_index_or xs j d) holds))
        | inr over ↦
            let same : i ≡ j = omega arith in
            rw same holds
      ]

  pub place_is : (xs : List A) (i : ℕ) → i ≤ length xs → IsPartitionPoint (λ y. is_up_to y ≡ true) (λ y. is_up_to y ≡ false) xs i
      → i ≡ place_behind name (map home xs)
  place_is [] i within point = omega arith
  place_is (x ∷ xs) zero within point =
      let t : is_lt (slice_cmp nat_cmp name (home x)) ≡ true = not_false (is_lt (slice_cmp nat_cmp name (home x))) (point.1 0 x (omega arith) (omega arith)) in
      rw t refl
  place_is (x ∷ xs) (suc i) within point =
      let t : is_lt (slice_cmp nat_cmp name (home x)) ≡ false = not_true (is_lt (slice_cmp nat_cmp name (home x))) (point.0 0 x (omega arith) (omega arith)) in
      rw t (ap suc (place_is xs i (omega arith)
      (λ k d low high. point.0 (suc k) d (omega arith) (omega arith), λ k d low high. point.1 (suc k) d (omega arith) (omega arith))))
