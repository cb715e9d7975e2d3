use Rattle.std.proofs.Common.{◌≡◌, false}
use Rattle.plai_terms.specs.Shape.{depends, entry}
use Rattle.plai_terms.proofs.shape.depends.Given as goal

abbrev pub invariant-loop-m : goal.invariant-loop-m
invariant-loop-m l = depends l.m (entry l.flags l.first l.step) ≡ false
