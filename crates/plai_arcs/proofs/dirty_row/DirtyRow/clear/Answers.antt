use Rattle.std.proofs.Common.{◌≤◌, ◌<◌, length, ap, ◌∙◌, arith}
use Rattle.plai_arcs.specs.Flags.{flag_at}
use Rattle.plai_arcs.proofs.PlaceLemmas.{flag_unset, unmarked_below, unset_past}
use Rattle.plai_arcs.proofs.dirty_row.DirtyRow.clear.Goals as goal

pub first_marked-self-requires : goal.first_marked-self-requires
first_marked-self-requires c k h =
    let within : c.args.clause < length c.args.self.now.flags.items = omega arith in
    ap (λ fs. flag_at fs k) c.deref.ensures.value
    ∙ unmarked_below c.args.self.now.flags.items c.args.self.now.first c.args.clause c.args.self.now.below within k h

pub returns-then-clause-len : goal.returns-then-clause-len
returns-then-clause-len c k =
    let within : c.args.clause < length c.args.self.now.flags.items = omega arith in
    flag_unset c.args.self.now.flags.items c.args.clause k within

pub returns-else-clause-len : goal.returns-else-clause-len
returns-else-clause-len c k =
    let past : length c.args.self.now.flags.items ≤ c.args.clause = omega arith in
    unset_past c.args.self.now.flags.items c.args.clause past k
