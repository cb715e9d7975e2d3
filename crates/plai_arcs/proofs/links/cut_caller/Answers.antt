use Rattle.plai_arcs.proofs.CutLemmas.{caller_cut, takes_none}
use Rattle.plai_arcs.proofs.links.cut_caller.Goals as goal

pub returns-clause-callers : goal.returns-clause-callers
returns-clause-callers c = caller_cut c.args.callers.now c.change-place.new.callers c.args.arc.row c.args.arc.clause c.args.arc.called c.change-place.result
    c.change-place.ensures.items c.change-place.ensures.found

pub returns-clause-caller_room : goal.returns-clause-caller_room
returns-clause-caller_room c q = takes_none _ _ _ (c.change-place.ensures.room q)
