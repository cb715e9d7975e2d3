use Rattle.plai_bdd.proofs.Slots.{HasLeft}
use Rattle.plai_bdd.proofs.bdd.Bdd.exists.Given as goal

abbrev pub invariant-loop-k : goal.invariant-loop-k
invariant-loop-k l = HasLeft l.slots l.k l.self l.rest
