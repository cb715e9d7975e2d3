use Rattle.std.proofs.Common.{◌≡◌, take}
use Rattle.plai_clauses.specs.ClauseOf.{widest}
use Rattle.plai_clauses.proofs.from_term.widest.Given as goal

abbrev pub invariant-loop-literal : goal.invariant-loop-literal
invariant-loop-literal l = l.widest ≡ widest (take l.literal-index l.body)
