use Rattle.std.proofs.Common.{◌≤◌, length, sym, ap, ◌∙◌, arith}
use Rattle.plai_arcs.specs.Flags.{flag_at}
use Rattle.plai_arcs.proofs.PlaceLemmas.{none_at_all}
use Rattle.plai_arcs.proofs.dirty_row.DirtyRow.least.Goals as goal

pub returns-else-first-len-clause-none : goal.returns-else-first-len-clause-none
returns-else-first-len-clause-none c =
    let past : length c.args.self.now.flags.items ≤ c.first_marked-first.result = omega arith in
    none_at_all c.args.self.now.flags.items c.first_marked-first.result
    (λ k h. ap (λ fs. flag_at fs k) (sym c.deref.ensures.value) ∙ c.first_marked-first.ensures.below k h) past
