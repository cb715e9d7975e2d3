use Rattle.std.proofs.Common.{nat_eq, sym, ap, ◌∙◌}
use Rattle.std.specs.List.{count_by}
use Rattle.plai_arcs.proofs.RenameLemmas.{still_caller, renamed_next}
use Rattle.plai_arcs.proofs.renames.rename_clause_callers.Goals as goal

pub change-requires : goal.change-requires
change-requires c =
    still_caller c.args.callers.now c.each.callers c.list-rows.result.now c.args.last c.args.row c.args.clause c.each.index c.each-test.true c.each.invariant
    (λ q. c.requires q ∙ ap (λ xs. count_by (nat_eq q) xs) (sym c.list-rows.ensures))

pub each-preserved : goal.each-preserved
each-preserved c =
    renamed_next c.args.callers.now c.each.callers c.list-rows.result.now c.args.last c.args.row c.args.clause c.each.index c.each-test.true c.each.invariant
    c.change.new.callers c.change.result c.change.ensures.items c.change.ensures.found
