use Rattle.std.proofs.Common.{ap, not, nat_eq, ◌∙◌}
use Rattle.plai_share_laws.specs.Groups.{meets}
use Rattle.plai_share.proofs.Bits.{zero_test}
use Rattle.plai_share.proofs.masks.meets.Goals as goal

pub returns : goal.returns
unfolding meets
returns c = ap not (zero_test _ _ c.is_empty.ensures ∙ ap (λ m. nat_eq m 0) c.project.ensures)
