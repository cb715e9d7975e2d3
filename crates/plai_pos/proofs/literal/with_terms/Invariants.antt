use Rattle.plai_factors.specs.Product.{together}
use Rattle.plai_pos.proofs.Literals.{IsJoining}
use Rattle.plai_pos.proofs.literal.with_terms.Given as goal

abbrev pub invariant-loop-place : goal.invariant-loop-place
invariant-loop-place l = IsJoining l.end l.sets (together l.fn.functions.items) l.place l.all.items
