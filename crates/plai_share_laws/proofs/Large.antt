-- Where a set is too large from a smaller value or state, one is from a larger.
use Rattle.std.proofs.Common.{ℕ, ◌+◌, ◌<◌, nat_lt, List, [], ◌∷◌, IsSome, refl, sym, subst, inl, inr}
use Rattle.plai_domain.specs.Outcomes.{most_groups, too_large_from, SomeTooLarge}
use Rattle.plai_share_laws.specs.Shares.{sizes}
use Rattle.plai_share_laws.proofs.Members.{IsIn}
use Rattle.plai_share_laws.proofs.Ordered.{AreCovered}
use Rattle.plai_share_laws.proofs.Masks.{by_test}
use Rattle.plai_share_laws.proofs.Order.{sizes_grow}
use Rattle.plai_share_laws.proofs.Tuples.{lower, lower_test}

some_large : (k : ℕ) (ms : List ℕ) → IsSome (too_large_from k ms) → (m : ℕ) × IsIn m ms × (most_groups < m)
some_large k [] h = cc
some_large k (m ∷ ms) h = by_test (nat_lt most_groups m)
    (λ t. (m, inl refl, lower most_groups m t))
    (λ t. let (n, i, l) = some_large (k + 1) ms (rw t at h) in (n, inr i, l))

large_some : (k : ℕ) (ms : List ℕ) (m : ℕ) → IsIn m ms → most_groups < m → IsSome (too_large_from k ms)
large_some k [] m i l = absurd i
large_some k (n ∷ ms) m (inl e) l = rw (lower_test most_groups n (subst (λ z. most_groups < z) (sym e) l)) refl
large_some k (n ∷ ms) m (inr i) l = by_test (nat_lt most_groups n) (λ t. rw t refl) (λ t. rw t (large_some (k + 1) ms m i l))

pub large_grows : (xs ys : List (List ℕ)) → AreCovered xs ys → SomeTooLarge (sizes xs) → SomeTooLarge (sizes ys)
large_grows xs ys f h =
    let (m, i, l) = some_large 1 (sizes xs) h in
    let (n, j, k) = sizes_grow xs ys f most_groups m i l in
    large_some 1 (sizes ys) n j k
