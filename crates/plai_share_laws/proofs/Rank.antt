-- The rank gets smaller with each strict growth, and describe gives a value.
use Rattle.std.proofs.Common.{◌≡◌, ◌≢◌, ℕ, zero, suc, ◌+◌, ◌-◌, ◌^◌, ◌<◌, ◌≤◌, true, false, nat_eq, nat_lt, List, [], ◌∷◌, length, refl, sym, ◌∙◌, ap, subst}
use Rattle.std.proofs.Common.{inl, inr, arith}
use Rattle.std.specs.List.{range_with_len}
use Rattle.std.proofs.lemmas.Nat.{pow_pos}
use Rattle.std.proofs.lemmas.Bool.Decides.{nat_tests}
use Rattle.std.proofs.lemmas.Bool.{eq-eqb, eqb-true}
use Rattle.plai_base.specs.Mask.{has_slot}
use Rattle.plai_terms.specs.declared.prop.Prop.{Prop}
use Rattle.plai_terms.specs.declared.prop.Prop.TheVariants as property
use Rattle.plai_share_laws.proofs.Members.{IsIn, IsWithin, IsAscending}
use Rattle.plai_domain.specs.Instances.{speaks_within}
use Rattle.plai_share_laws.specs.Groups.{Has, IsPart}
use Rattle.plai_share_laws.specs.Shares.{Shares}
use Rattle.plai_share_laws.proofs.Ordered.{IsValue, InOrder}
use Rattle.plai_share_laws.specs.Properties.{anything, with_property, with_all, describe}
use Rattle.plai_share_laws.specs.Rank.{count, rank}
use Rattle.plai_share_laws.proofs.Masks.{by_test, not_both, has_zero}
use Rattle.plai_share_laws.proofs.Lists.{by_either}
use Rattle.plai_share_laws.proofs.Order.{less_long, leq_antisym}
use Rattle.plai_share_laws.proofs.Values.{value_from, groups_of, groups_filter, below_pow, pow_below, some_slot, ascending_filter, freed_value}

-- the numbers of a run
pub run_low : (start len x : ℕ) → IsIn x (range_with_len start len) → (start ≤ x) × (x < start + len)
run_low start zero x i = absurd i
run_low start (suc len) x (inl e) = (omega arith, omega arith)
run_low start (suc len) x (inr i) = let (a, b) = run_low (start + 1) len x i in (omega arith, omega arith)

run_ascending : (start len : ℕ) → IsAscending (range_with_len start len)
run_ascending start zero = tt
run_ascending start (suc len) = (λ x i. let (a, b) = run_low (start + 1) len x i in omega arith, run_ascending (start + 1) len)

run_long : (start len : ℕ) → length (range_with_len start len) ≡ len
run_long start zero = refl
run_long start (suc len) = ap suc (run_long (start + 1) len)

pub run_has : (start len x : ℕ) → start ≤ x → x < start + len → IsIn x (range_with_len start len)
run_has start zero x a b = absurd (omega arith)
run_has start (suc len) x a b = by_test (nat_eq start x) (λ t. inl (eqb-true start x t))
    (λ f. let d : start ≢ x = λ e. not_both (eq-eqb start x e) f in inr (run_has (start + 1) len x (omega arith) (omega arith)))

-- describe gives a value
pub anything_value : (n : ℕ) → IsValue n (anything n)
anything_value n = value_from n n (range_with_len 1 (2 ^ n - 1)) 0 refl (run_ascending 1 (2 ^ n - 1))
    (λ g i. let (a, b) = run_low 1 (2 ^ n - 1) g i in
    record { some = some_slot g (λ e. omega arith); below = pow_below n g (let p = pow_pos n in omega arith) })
    (λ k h. absurd (has_zero k h))

property_value : (n : ℕ) (v : Shares) → IsValue n v → (p : Prop) → speaks_within n p → IsValue n (with_property p v)
property_value n v h (property.Ground k) l =
    value_from n v.slots _ _ h.slots (ascending_filter _ v.groups h.ascending) (groups_filter n _ v.groups (groups_of n v h)) h.free
property_value n v h (property.Var k) l = freed_value n v h (k - 1) (let (a, b) = l in omega arith)
property_value n v h (property.Nonvar k) l = h
property_value n v h (property.Int k) l =
    value_from n v.slots _ _ h.slots (ascending_filter _ v.groups h.ascending) (groups_filter n _ v.groups (groups_of n v h)) h.free
property_value n v h (property.Indep k r) l =
    value_from n v.slots _ _ h.slots (ascending_filter _ v.groups h.ascending) (groups_filter n _ v.groups (groups_of n v h)) h.free

all_value : (n : ℕ) (pre : List Prop) (v : Shares) → IsValue n v → ((p : Prop) → IsIn p pre → speaks_within n p) → IsValue n (with_all pre v)
all_value n [] v h b = h
all_value n (p ∷ ps) v h b = all_value n ps (with_property p v) (property_value n v h p (b p (inl refl))) (λ q m. b q (inr m))

pub describe_value : (n : ℕ) (pre : List Prop) → ((p : Prop) → IsIn p pre → speaks_within n p) → IsValue n (describe n pre)
describe_value n pre b = all_value n pre (anything n) (anything_value n) b

-- a value has at most 2 ^ n groups
groups_few : (n : ℕ) (v : Shares) → IsValue n v → length v.groups ≤ 2 ^ n
groups_few n v h =
    let k = less_long v.groups (range_with_len 0 (2 ^ n)) h.ascending (run_ascending 0 (2 ^ n))
    (λ x i. run_has 0 (2 ^ n) x (omega arith) (let l = below_pow n x (h.below x i) in omega arith)) in
    let e = run_long 0 (2 ^ n) in omega arith

-- as many members: the same
all_there : (xs ys : List ℕ) → IsAscending xs → IsAscending ys → IsWithin xs ys → length ys ≤ length xs → IsWithin ys xs
all_there xs [] p q f l = λ z i. absurd i
all_there [] (y ∷ ys) p q f l = absurd (omega arith)
all_there (x ∷ xs) (y ∷ ys) p q f l = by_either (f x (inl refl))
    (λ e. let rest = all_there xs ys p.1 q.1 (λ z i. later z i (p.0 z i) e (f z (inr i))) (omega arith) in
    λ z i. by_either i (λ d. inl (sym e ∙ d)) (λ j. inr (rest z j)))
    (λ j. let k : length (x ∷ xs) ≤ length ys = less_long (x ∷ xs) ys p q.1 (λ z i. tail z i (q.0 x j) (f z i)) in absurd (omega arith))
  where
    later : (z : ℕ) → IsIn z xs → x < z → y ≡ x → IsIn z (y ∷ ys) → IsIn z ys
    later z i l e (inl d) = absurd (omega arith)
    later z i l e (inr j) = j

    tail : (z : ℕ) → IsIn z (x ∷ xs) → y < x → IsIn z (y ∷ ys) → IsIn z ys
    tail z (inl e) l (inl d) = absurd (omega arith)
    tail z (inr i) l (inl d) = let k : x < z = p.0 z i in absurd (omega arith)
    tail z i l (inr j) = j

-- free slots
count_less : (n a b : ℕ) → IsPart a b → count n a ≤ count n b
count_less zero a b f = omega arith
count_less (suc n) a b f =
    let k = count_less n a b f in
    by_test (has_slot a n) (λ t. rw (t, f n t) (omega arith))
    (λ t. by_test (has_slot b n) (λ u. rw (t, u) (omega arith)) (λ u. rw (t, u) k))

count_same : (n a b : ℕ) → IsPart a b → count n b ≤ count n a → (k : ℕ) → k < n → Has b k → Has a k
count_same zero a b f l k low h = absurd (omega arith)
count_same (suc n) a b f l k low h =
    let c = count_less n a b f in
    by_test (has_slot a n)
    (λ t. let m : count n b ≤ count n a = (let e : suc (count n b) ≤ suc (count n a) = rw (t, f n t) at l in omega arith) in
    here k low h (λ lower. count_same n a b f m k lower h) t)
    (λ t. by_test (has_slot b n)
    (λ u. let e : suc (count n b) ≤ count n a = rw (t, u) at l in absurd (omega arith))
    (λ u. let e : count n b ≤ count n a = rw (t, u) at l in other k low h (λ lower. count_same n a b f e k lower h) u))
  where
    here : (k : ℕ) → k < suc n → Has b k → (k < n → Has a k) → Has a n → Has a k
    here k low h f t = by_test (nat_eq k n) (λ e. subst (λ z. Has a z) (sym (eqb-true k n e)) t)
        (λ e. let d : k ≢ n = λ q. not_both (eq-eqb k n q) e in f (omega arith))

    other : (k : ℕ) → k < suc n → Has b k → (k < n → Has a k) → has_slot b n ≡ false → Has a k
    other k low h f u = by_test (nat_eq k n) (λ e. absurd (not_both (subst (λ z. Has b z) (eqb-true k n e) h) u))
        (λ e. let d : k ≢ n = λ q. not_both (eq-eqb k n q) e in f (omega arith))

-- strict growth
pub rank_falls : (n : ℕ) (v w : Shares) → InOrder n v w → (v ≡ w → ⊥) → rank n w < rank n v
rank_falls n v w o ne =
    let (p, q, le) = o in
    let a = less_long v.groups w.groups p.ascending q.ascending le.groups in
    let b = groups_few n v p in
    let c = groups_few n w q in
    let d = count_less n w.free v.free le.free in
    by_test (nat_lt (rank n w) (rank n v)) (λ t. above t)
    (λ t. let e = under t in
    let more = all_there v.groups w.groups p.ascending q.ascending le.groups (omega arith) in
    let freer : IsPart v.free w.free = λ k h. count_same n w.free v.free le.free (omega arith) k (p.free k h) h in
    absurd (ne (leq_antisym n v w o (q, p, record { slots = sym le.slots; groups = more; free = freer }))))
  where
    above : nat_lt (rank n w) (rank n v) ≡ true → rank n w < rank n v
    above t = grind (arith, nat_tests)

    under : nat_lt (rank n w) (rank n v) ≡ false → rank n v ≤ rank n w
    under t = grind (arith, nat_tests)
