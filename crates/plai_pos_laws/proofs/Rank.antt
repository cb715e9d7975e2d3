-- The rank falls with each strict growth.
use Rattle.std.proofs.Common.{◌≡◌, ◌≢◌, ℕ, zero, suc, ◌+◌, ◌^◌, ◌≤◌, ◌<◌, Bool, true, false, cond, List, [], ◌∷◌, length, ◌⊎◌, inl, inr, refl, sym, ap, ◌∙◌}
use Rattle.std.proofs.Common.{arith, subst, length-append}
use Rattle.std.proofs.lemmas.Bool.{false≢true, cases_eq}
use Rattle.plai_base.specs.Sets.{has, kept}
use Rattle.plai_base.proofs.Sets.{kept_same}
use Rattle.plai_pos_laws.specs.Assignments.{LeqModels, rank_of}

abbrev bit : Bool → ℕ
bit b = cond b 1 0

one_more : (b : Bool) (n : ℕ) → length (cond b (n ∷ []) []) ≡ bit b
one_more true n = refl
one_more false n = refl

pub length-kept : (b : ℕ) (t : ℕ → Bool) → length (kept (suc b) t) ≡ length (kept b t) + bit (t b)
unfolding kept
length-kept b t = length-append (kept b t) (cond (t b) (b ∷ []) []) ∙ ap (λ z. length (kept b t) + z) (one_more (t b) b)

at_most_one : (b : Bool) → bit b ≤ 1
at_most_one true = omega arith
at_most_one false = omega arith

pub kept_short : (b : ℕ) (t : ℕ → Bool) → length (kept b t) ≤ b
unfolding kept
kept_short zero t = omega arith
kept_short (suc b) t = omega (arith, length-kept b t, at_most_one (t b), kept_short b t)

up_to : (t u : ℕ → Bool) (b : ℕ) → ((m : ℕ) → m < b → t m ≡ u m) → t b ≡ u b → (m : ℕ) → m < suc b → t m ≡ u m
up_to t u b k e m l = elim (cases_eq m b) [
  | inl q ↦ subst (λ i. t i ≡ u i) (sym q) e
  | inr q ↦ let less : m < b = omega (arith, l, q) in k m less
]

abbrev Grows : ℕ → (ℕ → Bool) → (ℕ → Bool) → Type 0
Grows b t u = ((m : ℕ) → m < b → t m ≡ u m) ⊎ (length (kept b t) < length (kept b u))

grows_step : (b : ℕ) (t u : ℕ → Bool) (p q : Bool) → t b ≡ p → u b ≡ q → (p ≡ true → q ≡ true) → Grows b t u → length (kept b t) ≤ length (kept b u)
    → Grows (suc b) t u
grows_step b t u true false e f h k le = absurd (false≢true (h refl))
grows_step b t u false true e f h k le =
    let x : bit (t b) ≡ 0 = rw e refl in
    let y : bit (u b) ≡ 1 = rw f refl in
    let less : length (kept (suc b) t) < length (kept (suc b) u) = omega (arith, length-kept b t, length-kept b u, x, y, le) in
    inr less
grows_step b t u true true e f h (inl k) le = inl (up_to t u b k (e ∙ sym f))
grows_step b t u false false e f h (inl k) le = inl (up_to t u b k (e ∙ sym f))
grows_step b t u true true e f h (inr k) le =
    let x : bit (t b) ≡ 1 = rw e refl in
    let y : bit (u b) ≡ 1 = rw f refl in
    let less : length (kept (suc b) t) < length (kept (suc b) u) = omega (arith, length-kept b t, length-kept b u, x, y, k) in
    inr less
grows_step b t u false false e f h (inr k) le =
    let x : bit (t b) ≡ 0 = rw e refl in
    let y : bit (u b) ≡ 0 = rw f refl in
    let less : length (kept (suc b) t) < length (kept (suc b) u) = omega (arith, length-kept b t, length-kept b u, x, y, k) in
    inr less

no_shorter : (b : ℕ) (t u : ℕ → Bool) → Grows b t u → length (kept b t) ≤ length (kept b u)
no_shorter b t u (inl k) = let e : length (kept b t) ≡ length (kept b u) = ap length (kept_same b t u k) in omega arith
no_shorter b t u (inr k) = omega (arith, k)

-- the tests agree below the bound, or the second keeps more
grows : (b : ℕ) (t u : ℕ → Bool) → ((m : ℕ) → t m ≡ true → u m ≡ true) → Grows b t u
grows zero t u h = inl (λ m l. absurd (omega (arith, l)))
grows (suc b) t u h = let k = grows b t u h in grows_step b t u (t b) (u b) refl refl (h b) k (no_shorter b t u k)

pub rank_falls : (n : ℕ) (xs ys : List ℕ) → LeqModels n xs ys → xs ≢ ys → rank_of n ys < rank_of n xs
rank_falls n xs ys h apart =
    let e : length xs ≡ length (kept (2 ^ n) (has xs)) = ap length h.first.is_set in
    let f : length ys ≡ length (kept (2 ^ n) (has ys)) = ap length h.second.is_set in
    let room : length ys ≤ 2 ^ n = omega (arith, f, kept_short (2 ^ n) (has ys)) in
    elim (grows (2 ^ n) (has xs) (has ys) h.within) [
      | inl k ↦ absurd (apart (h.first.is_set ∙ kept_same (2 ^ n) (has xs) (has ys) k ∙ sym h.second.is_set))
      | inr k ↦ omega (arith, e, f, k, room)
    ]
