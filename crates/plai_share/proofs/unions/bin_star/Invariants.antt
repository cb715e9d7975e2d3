use Rattle.std.proofs.Common.{◌≡◌, ◌≤◌, take, length}
use Rattle.plai_domain.specs.Outcomes.{most_groups}
use Rattle.plai_share_laws.specs.Groups.{normal, star, bin}
use Rattle.plai_share.proofs.unions.bin_star.Given as goal

abbrev pub invariant-loop-group : goal.invariant-loop-group
invariant-loop-group l = record {
  all : l.all.items ≡ normal (bin l.masks (star (take l.group-index l.groups)));
  small : length l.all.items ≤ most_groups;
}
