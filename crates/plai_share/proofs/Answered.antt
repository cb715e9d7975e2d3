-- Groups behind answers, and sets of groups that are formed of ascending lists.
use Rattle.std.proofs.Common.{◌≡◌, ℕ, ◌+◌, ◌*◌, ◌/◌, ◌%◌, ◌^◌, Bool, cond, ◌||◌, nat_eq, bit_and, List, [], ◌∷◌, ◌++◌, map, filter, length, refl, sym, ap}
use Rattle.std.proofs.Common.{◌∙◌, arith}
use Rattle.std.proofs.lemmas.Nat.{shl-shr}
use Rattle.std.proofs.lemmas.Bool.{eq-eqb, eqb-true}
use Rattle.plai_base.specs.Sets.{has}
use Rattle.plai_base.proofs.Sets.{same_tests}
use Rattle.plai_share_laws.specs.Groups.{normal, star, missing, rel}
use Rattle.plai_share_laws.specs.Shares.{back_groups, sizes}
use Rattle.plai_share_laws.specs.Calls.{raise}
use Rattle.plai_share_laws.proofs.Members.{IsWithin}
use Rattle.plai_share_laws.proofs.Lists.{in_normal, normal_in}
use Rattle.plai_share_laws.proofs.Sets.{filter_within, append_within}
use Rattle.plai_share_laws.proofs.Masks.{empty_mask, and_left}
use Rattle.std.proofs.lemmas.Nat.{pow_pos}
use Rattle.plai_share_laws.proofs.Parts.{low_has, raised_above}
use Rattle.plai_share.proofs.InOrder.{same_normal, normal_twice}

pub filter_same : (p q : ℕ → Bool) → ((g : ℕ) → p g ≡ q g) → (xs : List ℕ) → filter p xs ≡ filter q xs
filter_same p q f [] = refl
filter_same p q f (x ∷ xs) = λ i. cond (f x i) (x ∷ filter_same p q f xs i) (filter_same p q f xs i)

cut : (m n : ℕ) → (m / 2 ^ n) * 2 ^ n + m % 2 ^ n ≡ m
cut m n = let p = pow_pos n in omega arith

-- a set of slots from n on is one n slots higher
whole : (n x g : ℕ) → bit_and (raise n x) g ≡ (bit_and (raise n x) g / 2 ^ n) * 2 ^ n
whole n x g =
    let w = bit_and (raise n x) g in
    let z : w % 2 ^ n ≡ 0 = empty_mask (w % 2 ^ n) (λ k h. let (l, p) = low_has w n k h in
    let m = raised_above x n k (and_left (raise n x) g k p) in omega (arith, l, m)) in
    let e = cut w n in omega (arith, e, z)

raise_apart : (n a b : ℕ) → nat_eq (a * 2 ^ n) (b * 2 ^ n) ≡ nat_eq a b
raise_apart n a b = same_tests (nat_eq (a * 2 ^ n) (b * 2 ^ n)) (nat_eq a b)
    (λ t. eq-eqb a b (sym (shl-shr a n) ∙ ap (λ m. m / 2 ^ n) (eqb-true (a * 2 ^ n) (b * 2 ^ n) t) ∙ shl-shr b n))
    (λ t. eq-eqb (a * 2 ^ n) (b * 2 ^ n) (ap (λ m. m * 2 ^ n) (eqb-true a b t)))

raise_has : (n : ℕ) (ys : List ℕ) (k : ℕ) → has (map (raise n) ys) (k * 2 ^ n) ≡ has ys k
raise_has n [] k = refl
raise_has n (y ∷ ys) k = λ i. raise_apart n y k i || raise_has n ys k i

pub part_has : (n x : ℕ) (ys : List ℕ) (g : ℕ) → has ys (bit_and (raise n x) g / 2 ^ n) ≡ has (map (raise n) ys) (bit_and (raise n x) g)
part_has n x ys g = sym (raise_has n ys (bit_and (raise n x) g / 2 ^ n)) ∙ ap (has (map (raise n) ys)) (sym (whole n x g))

-- ---- lists with one ascending list, behind others

normal_back : (xs : List ℕ) → IsWithin (normal xs) xs
normal_back xs x i = in_normal xs x i

normal_there : (xs : List ℕ) → IsWithin xs (normal xs)
normal_there xs x i = normal_in xs x i

pub behind_same : (ms xs : List ℕ) → normal (ms ++ normal xs) ≡ normal (ms ++ xs)
behind_same ms xs = same_normal (ms ++ normal xs) (ms ++ xs) (append_within ms (normal xs) ms xs (λ x i. i) (normal_back xs))
    (append_within ms xs ms (normal xs) (λ x i. i) (normal_there xs))

pub behind_filtered : (ms : List ℕ) (p : ℕ → Bool) (xs : List ℕ) → normal (ms ++ filter p (normal xs)) ≡ normal (ms ++ filter p xs)
behind_filtered ms p xs = same_normal (ms ++ filter p (normal xs)) (ms ++ filter p xs)
    (append_within ms (filter p (normal xs)) ms (filter p xs) (λ x i. i) (filter_within p (normal xs) xs (normal_back xs)))
    (append_within ms (filter p xs) ms (filter p (normal xs)) (λ x i. i) (filter_within p xs (normal xs) (normal_there xs)))

-- ---- sizes

pub size_normal : (a x : List ℕ) → sizes (a ∷ x ∷ []) ≡ sizes (a ∷ normal x ∷ [])
size_normal a x = λ i. length (normal a) ∷ length (sym (normal_twice x) i) ∷ []

-- ---- the sets that an answer forms

abbrev pub behind_answer : ℕ → ℕ → List ℕ → List ℕ → List ℕ
behind_answer first set answer s = missing set s ++ filter (λ g. has answer (bit_and set g / 2 ^ first)) (star (rel set s))

answer_is : (first x : ℕ) (answer s : List ℕ) → behind_answer first (raise first x) answer s
    ≡ missing (raise first x) s ++ filter (λ g. has (map (raise first) answer) (bit_and (raise first x) g)) (star (rel (raise first x) s))
answer_is first x answer s = ap (λ zs. missing (raise first x) s ++ zs)
    (filter_same (λ g. has answer (bit_and (raise first x) g / 2 ^ first)) (λ g. has (map (raise first) answer) (bit_and (raise first x) g))
    (part_has first x answer) (star (rel (raise first x) s)))

module _ (first x : ℕ) (answer seen s groups : List ℕ) (set : ℕ) (a : set ≡ raise first x) (b : seen ≡ answer) (d : groups ≡ s) where
  pub answer_sizes : sizes (star (rel set groups) ∷ behind_answer first set seen groups ∷ []) ≡ sizes
      (star (rel (raise first x) s) ∷ back_groups (raise first x) (map (raise first) answer) s ∷ [])
  answer_sizes = (λ i. sizes (star (rel (a i) (d i)) ∷ behind_answer first (a i) (b i) (d i) ∷ []))
      ∙ ap (λ zs. sizes (star (rel (raise first x) s) ∷ zs ∷ [])) (answer_is first x answer s)
      ∙ size_normal (star (rel (raise first x) s)) (missing (raise first x) s ++ filter (λ g. has (map (raise first) answer) (bit_and (raise first x) g))
      (star (rel (raise first x) s)))

  pub answer_groups : normal (behind_answer first set seen groups) ≡ back_groups (raise first x) (map (raise first) answer) s
  answer_groups = (λ i. normal (behind_answer first (a i) (b i) (d i))) ∙ ap normal (answer_is first x answer s)
