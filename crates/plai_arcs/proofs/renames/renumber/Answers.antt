use Rattle.std.proofs.Common.{sym, ◌∙◌}
use Rattle.plai_arcs.specs.Links.{calls_at, callers_at}
use Rattle.plai_arcs.specs.Moves.{swapped}
use Rattle.plai_arcs.proofs.SwapLemmas.{named, none_listed, none_paired, still_old, renumbered, renumber_linked}
use Rattle.plai_arcs.proofs.renames.renumber.Goals as goal

pub rename_calls-requires : goal.rename_calls-requires
rename_calls-requires c r k = sym (c.requires.linked.agree r k c.args.last)

pub swap-requires-clause-none : goal.swap-requires-clause-none
swap-requires-clause-none c k = none_listed (calls_at c.rename_calls.new.calls c.args.row k)
    (λ q. named c.args.calls.now c.rename_calls.new.calls c.args.last c.args.row c.requires.less c.requires.of_none c.rename_calls.ensures c.args.row k q
    ∙ c.requires.by_none k (swapped c.args.row c.args.last q))

pub swap-requires-2-clause-none : goal.swap-requires-2-clause-none
swap-requires-2-clause-none c = none_paired (callers_at c.args.callers.now c.args.row) (λ r k. c.requires.linked.agree r k c.args.row ∙ c.requires.of_none r k)

pub rename_callers-requires : goal.rename_callers-requires
rename_callers-requires c q k = still_old c.args.calls.now c.rename_calls.new.calls c.swap.new.rows c.args.callers.now c.swap-2.new.callers c.args.last
    c.args.row c.requires.less c.requires.linked c.requires.by_none c.requires.of_none c.rename_calls.ensures c.swap.ensures c.swap-2.ensures q k

pub returns-clause-linked : goal.returns-clause-linked
returns-clause-linked c = renumber_linked c.args.calls.now c.rename_calls.new.calls c.swap.new.rows c.args.callers.now c.swap-2.new.callers c.args.last
    c.args.row c.requires.less c.requires.linked c.requires.by_none c.requires.of_none c.rename_calls.ensures c.swap.ensures c.swap-2.ensures
    c.rename_callers.new.callers c.rename_callers.ensures

pub returns-clause-calls : goal.returns-clause-calls
returns-clause-calls c r k q = renumbered c.args.calls.now c.rename_calls.new.calls c.swap.new.rows c.args.callers.now c.swap-2.new.callers c.args.last
    c.args.row c.requires.less c.requires.linked c.requires.by_none c.requires.of_none c.rename_calls.ensures c.swap.ensures c.swap-2.ensures r k q
