use Rattle.std.proofs.Common.{◌≡◌, ◌∷◌, take}
use Rattle.plai_terms.specs.declared.term.Term.{Atom}
use Rattle.plai_builtins.proofs.construct.parts.Given as goal

abbrev pub invariant-loop-arg : goal.invariant-loop-arg
invariant-loop-arg l = l.parts.items ≡ Atom l.name ∷ take l.arg-index l.args
