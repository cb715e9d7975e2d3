use Rattle.std.proofs.Common.{◌∙◌}
use Rattle.plai_arcs.proofs.CutLemmas.{stays, takes_none}
use Rattle.plai_arcs.proofs.links.tell_index.Goals as goal

pub returns-then-index-rows-clause-items : goal.returns-then-index-rows-clause-items
returns-then-index-rows-clause-items c q = c.change.ensures.items q ∙ stays _ _

pub returns-then-index-rows-clause-room : goal.returns-then-index-rows-clause-room
returns-then-index-rows-clause-room c q = takes_none _ _ _ (c.change.ensures.room q)
