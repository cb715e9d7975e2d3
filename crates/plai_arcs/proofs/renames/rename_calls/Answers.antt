use Rattle.std.proofs.Common.{sym, ap, ◌∙◌}
use Rattle.std.specs.List.{count_by}
use Rattle.plai_arcs.specs.Links.{is_pair}
use Rattle.plai_arcs.proofs.RenameLemmas.{still_named, named_more}
use Rattle.plai_arcs.proofs.renames.rename_calls.Goals as goal

pub change-requires : goal.change-requires
change-requires c =
    still_named c.args.calls.now c.each.calls c.list-pairs.result.now c.args.last c.args.row c.each.place c.each-test.true c.each.invariant
    (λ r k. c.requires r k ∙ ap (λ xs. count_by (is_pair r k) xs) (sym c.list-pairs.ensures))

pub each-preserved : goal.each-preserved
each-preserved c =
    named_more c.args.calls.now c.each.calls c.list-pairs.result.now c.args.last c.args.row c.each.place c.each-test.true c.each.invariant
    c.change.new.rows c.change.result c.change.ensures.items c.change.ensures.found
