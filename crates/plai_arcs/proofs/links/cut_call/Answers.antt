use Rattle.plai_arcs.proofs.CutLemmas.{call_cut, takes_none}
use Rattle.plai_arcs.proofs.links.cut_call.Goals as goal

pub returns-clause-calls : goal.returns-clause-calls
returns-clause-calls c = call_cut c.args.calls.now c.change-index.new.rows c.args.arc.row c.args.arc.clause c.args.arc.called c.change-index.result
    c.change-index.ensures.items c.change-index.ensures.found

pub returns-clause-call_room : goal.returns-clause-call_room
returns-clause-call_room c r k = takes_none _ _ _ (c.change-index.ensures.room r k)
