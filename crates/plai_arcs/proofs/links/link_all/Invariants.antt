use Rattle.plai_arcs.proofs.JoinLemmas.{AreJoined}
use Rattle.plai_arcs.proofs.links.link_all.Given as goal

abbrev pub invariant-each : goal.invariant-each
invariant-each l = AreJoined l.initial.calls l.calls l.callers l.row l.clause l.called l.other-index
