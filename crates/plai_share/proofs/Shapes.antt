-- What values and states are.
use Rattle.std.proofs.Common.{◌≡◌, ℕ}
use Rattle.plai_share_laws.specs.Groups.{normal}
use Rattle.plai_share_laws.specs.Shares.{Shares}
use Rattle.plai_share_laws.specs.Sharing.{IsShares}
use Rattle.plai_share_laws.proofs.Lists.{normal_same}
use Rattle.plai_share_laws.proofs.Canonical.{is_value}

pub canonical : (n : ℕ) (v : Shares) → IsShares n v → normal v.groups ≡ v.groups
canonical n v h = normal_same v.groups (is_value n v h).ascending
