-- Walks over groups.
use Rattle.std.proofs.Common.{◌≡◌, ℕ, ◌+◌, ◌<◌, cond, bit_or, List, [], ◌∷◌, ◌++◌, length, take, get_or, sym, ap, ◌∙◌}
use Rattle.std.proofs.lemmas.List.{take_more}
use Rattle.plai_share_laws.specs.Groups.{meets, near}
use Rattle.plai_share_laws.proofs.Masks.{by_test}
use Rattle.plai_share_laws.proofs.Sets.{or_comm, or_assoc}

abbrev pub with_near : ℕ → ℕ → ℕ → ℕ
with_near set slots g = cond (meets set g) (bit_or slots g) slots

near_push : (set : ℕ) (xs : List ℕ) (g : ℕ) → near set (xs ++ (g ∷ [])) ≡ with_near set (near set xs) g
near_push set [] g = by_test (meets set g) (λ t. rw t (or_comm g 0)) (λ t. rw t)
near_push set (x ∷ xs) g = by_test (meets set x)
    (λ s. by_test (meets set g)
    (λ t. rw (s, t) (ap (bit_or x) (near_push set xs g ∙ rw t) ∙ sym (or_assoc x (near set xs) g)))
    (λ t. rw (s, t) (ap (bit_or x) (near_push set xs g ∙ rw t))))
    (λ s. rw s (near_push set xs g))

pub near_more : (set : ℕ) (groups : List ℕ) (i g slots : ℕ) → i < length groups → g ≡ get_or groups i g → slots ≡ near set (take i groups)
    → with_near set slots g ≡ near set (take (i + 1) groups)
near_more set groups i g slots l at e = ap (λ s. with_near set s g) e ∙ sym (near_push set (take i groups) g)
    ∙ ap (near set) (sym (take_more groups i g l ∙ ap (λ y. take i groups ++ (y ∷ [])) (sym at)))
