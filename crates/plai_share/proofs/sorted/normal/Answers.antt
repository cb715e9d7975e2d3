use Rattle.std.proofs.Common.{◌∙◌, eqb, rules}
use Rattle.std.proofs.lemmas.List.Filters.{dedup_is}
use Rattle.std.proofs.lemmas.List.Sorted.{IsNonDecreasingBy-from_sort_by_key}
use Rattle.plai_share.proofs.InOrder.{deduplicated}
use Rattle.plai_share.proofs.sorted.normal.Goals as goal

-- the closure gives a mask's bits
pub returns : goal.returns
returns c =
    let up = IsNonDecreasingBy-from_sort_by_key (λ m. m) _ c.sort_unstable_by_key.ensures.sorted (λ a r q k. search rules) in
    dedup_is eqb _ _ c.dedup.ensures.filtered ∙ deduplicated _ _ c.sort_unstable_by_key.ensures.permutation up
