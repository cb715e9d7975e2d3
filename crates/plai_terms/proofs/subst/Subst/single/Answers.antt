use Rattle.std.proofs.Common.{arith}
use Rattle.std.proofs.lemmas.Map.Keys.{IsDistinct-from_apart}
use Rattle.plai_terms.proofs.subst.Subst.single.Goals as goal

pub new-requires : goal.new-requires
new-requires c = rw c.in_ok-vec.ensures.items (IsDistinct-from_apart _ _ (λ i j d h k. absurd (omega arith)))
