use Rattle.std.proofs.Common.{◌&&◌, cond, nat_eq, ap, ◌∙◌}
use Rattle.std.specs.List.{list_any}
use Rattle.plai_arcs.specs.Links.{call_count, one_if}
use Rattle.plai_arcs.proofs.PlaceLemmas.{up_to}
use Rattle.plai_arcs.proofs.CountLemmas.{pair_itself}
use Rattle.plai_arcs.proofs.ArcLemmas.{calls_set, set_counts}
use Rattle.plai_arcs.proofs.links.set.Goals as goal

pub link_all-requires-clause-none : goal.link_all-requires-clause-none
link_all-requires-clause-none c q =
    c.cut_calls.ensures.calls c.args.row c.args.clause q
    ∙ ap (λ b. cond b 0 (call_count c.args.calls.now c.args.row c.args.clause q)) (pair_itself c.args.row c.args.clause)

pub link_all-requires-clause-call_room : goal.link_all-requires-clause-call_room
link_all-requires-clause-call_room c = up_to _ _ _ c.requires.call_room (c.cut_calls.ensures.call_room c.args.row c.args.clause)

pub link_all-requires-clause-caller_room : goal.link_all-requires-clause-caller_room
link_all-requires-clause-caller_room c q h = up_to _ _ _ (c.requires.caller_room q h) (c.cut_calls.ensures.caller_room q)

pub returns-clause-calls : goal.returns-clause-calls
returns-clause-calls c =
    calls_set c.args.calls.now c.link_all.new.calls c.args.row c.args.clause c.args.called.now
    (λ r k q. set_counts (nat_eq r c.args.row && nat_eq k c.args.clause) (call_count c.link_all.new.calls r k q) (call_count c.cut_calls.new.calls r k q)
    (call_count c.args.calls.now r k q) (one_if (list_any (nat_eq q) c.args.called.now))
    (c.link_all.ensures.calls r k q) (c.cut_calls.ensures.calls r k q))
