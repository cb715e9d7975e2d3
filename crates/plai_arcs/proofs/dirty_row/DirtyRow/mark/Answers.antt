use Rattle.std.proofs.Common.{◌≤◌, ◌<◌, length, arith}
use Rattle.plai_arcs.proofs.PlaceLemmas.{flag_set, marked_above}
use Rattle.plai_arcs.proofs.dirty_row.DirtyRow.mark.Goals as goal

pub invariant_of-self : goal.invariant_of-self
invariant_of-self c =
    let within : c.args.clause < length c.args.self.now.flags.items = omega arith in
    let low : c.min-self.result ≤ c.args.self.now.first = omega (arith, c.min-self.ensures) in
    let high : c.min-self.result ≤ c.args.clause = omega (arith, c.min-self.ensures) in
    record { below = marked_above c.args.self.now.flags.items c.args.self.now.first c.args.clause c.min-self.result c.args.self.now.below within low high }

pub returns : goal.returns
returns c k =
    let within : c.args.clause < length c.args.self.now.flags.items = omega arith in
    flag_set c.args.self.now.flags.items c.args.clause k within
