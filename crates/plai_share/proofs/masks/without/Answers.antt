use Rattle.plai_share_laws.specs.Groups.{without}
use Rattle.plai_share.proofs.masks.without.Goals as goal

pub returns : goal.returns
unfolding without
returns c = cc
