use Rattle.plai_base.specs.Mask.{slots_of}
use Rattle.std.proofs.Common.{map}
use Rattle.plai_terms.proofs.GroupOrder.{sorted_is_ordered}
use Rattle.plai_terms.proofs.groups.sorted_lists.Goals as goal

pub returns : goal.returns
returns c =
    sorted_is_ordered (λ list. list.items) c.in_ok-lists.lists.items c.sort_unstable.new.self.items (map slots_of c.args.groups.now)
    c.in_ok-lists.ensures c.sort_unstable.ensures.permutation c.sort_unstable.ensures.sorted
