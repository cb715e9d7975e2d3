-- The sets are the ascending lists without repeats of masks below the bound.
use Rattle.std.proofs.Common.{◌≡◌, ℕ, zero, suc, ◌≤◌, ◌<◌, Bool, true, false, ◌||◌, nat_eq, cond, List, [], ◌∷◌, ◌++◌, refl, sym, ap, ◌∙◌, inl, inr, arith}
use Rattle.std.proofs.Common.{subst}
use Rattle.std.proofs.lemmas.Bool.{eq-eqb, eqb-true, ne_eqb, or_cases, or_left, false≢true, false_from_ne_true, cases_eq}
use Rattle.std.proofs.lemmas.List.{append-nil}
use Rattle.plai_base.specs.Sets.{has, kept, IsAscending, IsSet}
use Rattle.plai_base.proofs.Sets.{same_tests, kept_has, has_kept}

pub ascending_from : (low b : ℕ) (xs : List ℕ) (m : ℕ) → IsAscending low b xs → has xs m ≡ true → (low ≤ m) × (m < b)
ascending_from low b [] m h e = absurd (false≢true e)
ascending_from low b (x ∷ xs) m h e = elim (or_cases (nat_eq x m) (has xs m) e) [
  | inl q ↦ let s = eqb-true x m q in (omega (arith, h.0, s), omega (arith, h.1, s))
  | inr q ↦ let r = ascending_from (suc x) b xs m h.2 q in (omega (arith, h.0, r.0), r.1)
]

-- two ascending lists with the same members are equal
pub same_ascending : (low b : ℕ) (xs ys : List ℕ) → IsAscending low b xs → IsAscending low b ys → ((m : ℕ) → has xs m ≡ has ys m) → xs ≡ ys
same_ascending low b [] [] h k e = refl
same_ascending low b [] (y ∷ ys) h k e = absurd (false≢true (e y ∙ or_left (nat_eq y y) (has ys y) (eq-eqb y y refl)))
same_ascending low b (x ∷ xs) [] h k e = absurd (false≢true (sym (e x) ∙ or_left (nat_eq x x) (has xs x) (eq-eqb x x refl)))
same_ascending low b (x ∷ xs) (y ∷ ys) h k e =
    let p = first_at b x y ys k.2 (sym (e x) ∙ or_left (nat_eq x x) (has xs x) (eq-eqb x x refl)) in
    let q = first_at b y x xs h.2 (e y ∙ or_left (nat_eq y y) (has ys y) (eq-eqb y y refl)) in
    let same : x ≡ y = omega (arith, p, q) in
    let rest = same_ascending (suc x) b xs ys h.2 (subst (λ z. IsAscending (suc z) b ys) (sym same) k.2)
    (λ m. elim (cases_eq x m) [
      | inl s ↦ not_in b x m xs h.2 s ∙ sym (not_in b y m ys k.2 (sym same ∙ s))
      | inr s ↦ let t : nat_eq x m ≡ false = ne_eqb x m s in
          let u : nat_eq y m ≡ false = ne_eqb y m (λ z. absurd (s (same ∙ z))) in
          let w = e m in
          sym (ap (λ c. c || has xs m) t) ∙ w ∙ ap (λ c. c || has ys m) u
    ]) in
    cc
  where
    first_at : (b x y : ℕ) (ys : List ℕ) → IsAscending (suc y) b ys → has (y ∷ ys) x ≡ true → y ≤ x
    first_at b x y ys k e = elim (or_cases (nat_eq y x) (has ys x) e) [
      | inl q ↦ let s = eqb-true y x q in omega (arith, s)
      | inr q ↦ let r = ascending_from (suc y) b ys x k q in omega (arith, r.0)
    ]

    not_in : (b x m : ℕ) (xs : List ℕ) → IsAscending (suc x) b xs → x ≡ m → has xs m ≡ false
    not_in b x m xs h s = false_from_ne_true (has xs m) (λ q. let r = ascending_from (suc x) b xs m h q in absurd (omega (arith, r.0, s)))

ascending_push : (low b n : ℕ) (xs : List ℕ) → IsAscending low b xs → b ≤ n → low ≤ n → IsAscending low (suc n) (xs ++ n ∷ [])
ascending_push low b n [] h l k = (k, omega arith, tt)
ascending_push low b n (x ∷ xs) h l k = (h.0, omega (arith, h.1, l), ascending_push (suc x) b n xs h.2 l (omega (arith, h.1, l)))

ascending_wider : (low b c : ℕ) (xs : List ℕ) → IsAscending low b xs → b ≤ c → IsAscending low c xs
ascending_wider low b c [] h l = tt
ascending_wider low b c (x ∷ xs) h l = (h.0, omega (arith, h.1, l), ascending_wider (suc x) b c xs h.2 l)

ascending_step : (c : Bool) (b : ℕ) (xs : List ℕ) → IsAscending 0 b xs → IsAscending 0 (suc b) (xs ++ cond c (b ∷ []) [])
ascending_step true b xs h = ascending_push 0 b b xs h (omega arith) (omega arith)
ascending_step false b xs h = subst (IsAscending 0 (suc b)) (sym (append-nil xs)) (ascending_wider 0 b (suc b) xs h (omega arith))

pub ascending_kept : (b : ℕ) (t : ℕ → Bool) → IsAscending 0 b (kept b t)
unfolding kept
ascending_kept zero t = tt
ascending_kept (suc b) t = ascending_step (t b) b (kept b t) (ascending_kept b t)

pub IsAscending-from_set : (b : ℕ) (xs : List ℕ) → IsSet b xs → IsAscending 0 b xs
IsAscending-from_set b xs s = subst (IsAscending 0 b) (sym s) (ascending_kept b (has xs))

pub IsSet-from_ascending : (b : ℕ) (xs : List ℕ) → IsAscending 0 b xs → IsSet b xs
IsSet-from_ascending b xs h =
    same_ascending 0 b xs (kept b (has xs)) h (ascending_kept b (has xs))
    (λ m. same_tests _ _ (λ e. kept_has b (has xs) m (ascending_from 0 b xs m h e).1 e) (λ e. (has_kept b (has xs) m e).1))
