use Rattle.std.proofs.Common.{◌∙◌, rules}
use Rattle.std.proofs.lemmas.List.Sorted.{answers_always, searched}
use Rattle.plai_share.proofs.InOrder.{normal_rises, found}
use Rattle.plai_share.proofs.sorted.has.Goals as goal

-- the closure gives a mask's bits
pub returns : goal.returns
returns c =
    let at = c.binary_search_by_key.ensures.position (λ mask. mask) (answers_always _ _ _ (λ f a r g called. search rules)) in
    let at_mask = rw c.bits.ensures at at in
    c.is_ok.ensures.value ∙ found _ _ _ (searched _ _ _ at_mask (normal_rises _ c.requires))
