use Rattle.std.proofs.Common.{◌∙◌}
use Rattle.plai_arcs.proofs.CutLemmas.{stays, takes_none}
use Rattle.plai_arcs.proofs.links.tell_place.Goals as goal

pub returns-then-place-pairs-clause-items : goal.returns-then-place-pairs-clause-items
returns-then-place-pairs-clause-items c r k = c.change.ensures.items r k ∙ stays _ _

pub returns-then-place-pairs-clause-room : goal.returns-then-place-pairs-clause-room
returns-then-place-pairs-clause-room c r k = takes_none _ _ _ (c.change.ensures.room r k)
