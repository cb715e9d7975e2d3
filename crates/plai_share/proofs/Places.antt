-- The places of sets that are too large, in lists of sets that are formed in parts.
use Rattle.std.proofs.Common.{◌≡◌, ℕ, suc, ◌+◌, ◌<◌, ◌≤◌, Bool, true, false, cond, ◌||◌, nat_lt, List, [], ◌∷◌, ◌++◌, length, None, Some, refl, sym, ap, ◌∙◌}
use Rattle.std.proofs.Common.{arith}
use Rattle.std.proofs.lemmas.Bool.Decides.{nat_tests}
use Rattle.plai_domain.specs.declared.dom_fail.DomFail.{DomFail}
use Rattle.plai_domain.specs.declared.dom_fail.DomFail.TheVariants.{Memory, Over}
use Rattle.plai_domain.specs.Outcomes.{most_groups, too_large_from}
use Rattle.std.proofs.lemmas.List.{length-append}
use Rattle.plai_share_laws.specs.Groups.{normal, rel, star, bin}
use Rattle.plai_share_laws.specs.Shares.{Side, Shares, slots_of, is_free, united, unify, unify_formed, sizes}
use Rattle.plai_share_laws.proofs.Masks.{by_test}
use Rattle.plai_share.specs.Formed.{IsFailure, united_formed}

sizes-append : (xs ys : List (List ℕ)) → sizes (xs ++ ys) ≡ sizes xs ++ sizes ys
sizes-append [] ys = refl
sizes-append (x ∷ xs) ys = ap (λ zs. length (normal x) ∷ zs) (sizes-append xs ys)

later : (n : ℕ) (xs ys : List ℕ) → too_large_from n xs ≡ None → too_large_from n (xs ++ ys) ≡ too_large_from (n + length xs) ys
later n [] ys e = ap (λ k. too_large_from k ys) (let f : n ≡ n + 0 = omega arith in f)
later n (x ∷ xs) ys e = by_test (nat_lt most_groups x)
    (λ t. let f : Some n ≡ None = rw t at e in cc)
    (λ t. rw t (later (n + 1) xs ys (rw t at e) ∙ ap (λ k. too_large_from k ys) (let f : n + 1 + length xs ≡ n + suc (length xs) = omega arith in f)))

sooner : (n p : ℕ) (xs ys : List ℕ) → too_large_from n xs ≡ Some p → too_large_from n (xs ++ ys) ≡ Some p
sooner n p [] ys e = cc
sooner n p (x ∷ xs) ys e = by_test (nat_lt most_groups x) (λ t. rw t (rw t at e)) (λ t. rw t (sooner (n + 1) p xs ys (rw t at e)))

pub behind : (before : ℕ) (xs ys : List (List ℕ)) → too_large_from (before + 1) (sizes xs) ≡ None
    → too_large_from (before + 1) (sizes (xs ++ ys)) ≡ too_large_from (before + length xs + 1) (sizes ys)
behind before xs ys e = ap (too_large_from (before + 1)) (sizes-append xs ys) ∙ later (before + 1) (sizes xs) (sizes ys) e
    ∙ ap (λ k. too_large_from k (sizes ys)) (let f : before + 1 + length (sizes xs) ≡ before + length xs + 1 = let l = many xs in omega (arith, l) in f)
  where
    many : (xs : List (List ℕ)) → length (sizes xs) ≡ length xs
    many [] = refl
    many (x ∷ xs) = ap suc (many xs)

pub first_of : (before place : ℕ) (xs ys : List (List ℕ)) → too_large_from (before + 1) (sizes xs) ≡ Some place
    → too_large_from (before + 1) (sizes (xs ++ ys)) ≡ Some place
first_of before place xs ys e = ap (too_large_from (before + 1)) (sizes-append xs ys) ∙ sooner (before + 1) place (sizes xs) (sizes ys) e

-- a part that fails makes the whole fail
pub fails_first : (before : ℕ) (xs ys : List (List ℕ)) (fail : DomFail) → IsFailure before xs fail → IsFailure before (xs ++ ys) fail
fails_first before xs ys Memory h = tt
fails_first before xs ys (Over place) h = first_of before place xs ys h

-- behind a part that gives a value the rest may fail
pub fails_later : (before now : ℕ) (xs ys : List (List ℕ)) (fail : DomFail) → too_large_from (before + 1) (sizes xs) ≡ None → now ≡ before + length xs
    → IsFailure now ys fail → IsFailure before (xs ++ ys) fail
fails_later before now xs ys Memory e n h = tt
fails_later before now xs ys (Over place) e n h = behind before xs ys e ∙ ap (λ k. too_large_from (k + 1) (sizes ys)) (sym n) ∙ h

-- or give a value
pub small_later : (before now : ℕ) (xs ys : List (List ℕ)) → too_large_from (before + 1) (sizes xs) ≡ None → now ≡ before + length xs
    → too_large_from (now + 1) (sizes ys) ≡ None → too_large_from (before + 1) (sizes (xs ++ ys)) ≡ None
small_later before now xs ys e n h = behind before xs ys e ∙ ap (λ k. too_large_from (k + 1) (sizes ys)) (sym n) ∙ h

-- a failure says nothing but the sizes
pub fails_same : (before : ℕ) (xs ys : List (List ℕ)) (fail : DomFail) → sizes xs ≡ sizes ys → IsFailure before xs fail → IsFailure before ys fail
fails_same before xs ys Memory e h = tt
fails_same before xs ys (Over place) e h = ap (too_large_from (before + 1)) (sym e) ∙ h

-- ---- one set

pub one_small : (before : ℕ) (masks : List ℕ) → length (normal masks) ≤ most_groups → too_large_from (before + 1) (sizes (masks ∷ [])) ≡ None
one_small before masks l = by_test (nat_lt most_groups (length (normal masks)))
    (λ t. let k : most_groups < length (normal masks) = grind (arith, nat_tests) in absurd (omega arith))
    (λ t. rw t)

pub one_large : (before : ℕ) (masks : List ℕ) → most_groups < length (normal masks) → too_large_from (before + 1) (sizes (masks ∷ [])) ≡ Some (before + 1)
one_large before masks l = by_test (nat_lt most_groups (length (normal masks)))
    (λ t. rw t)
    (λ t. let k : length (normal masks) ≤ most_groups = grind (arith, nat_tests) in absurd (omega arith))

-- ---- the sets of unification

pub united_more : (one : Bool) (r t g : List ℕ) (u : List ℕ) → u ≡ cond one (bin r t) (bin (star r) (star t))
    → united_formed one r t ++ (g ∷ []) ≡ cond one (u ∷ g ∷ []) (star r ∷ star t ∷ u ∷ g ∷ [])
united_more true r t g u e = λ i. sym e i ∷ g ∷ []
united_more false r t g u e = λ i. star r ∷ star t ∷ sym e i ∷ g ∷ []

-- ---- how many sets

pub unify_few : (x t : Side) (v : Shares) → length (unify_formed x t v) ≤ 4
unify_few x t v = by (is_free v.free x || is_free v.free t)
  where
    by : (b : Bool) → length (cond b (united (is_free v.free x || is_free v.free t) (rel (slots_of x) v.groups) (rel (slots_of t) v.groups) ∷
        (unify x t v).groups ∷ [])
        (star (rel (slots_of x) v.groups) ∷ star (rel (slots_of t) v.groups) ∷ united (is_free v.free x || is_free v.free t) (rel (slots_of x) v.groups)
        (rel (slots_of t) v.groups) ∷ (unify x t v).groups ∷ [])) ≤ 4
    by true = omega arith
    by false = omega arith

pub length_both : (xs ys : List (List ℕ)) → length (xs ++ ys) ≡ length xs + length ys
length_both xs ys = length-append {A = List ℕ} xs ys
