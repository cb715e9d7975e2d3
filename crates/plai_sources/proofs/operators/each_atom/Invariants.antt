use Rattle.std.proofs.Common.{◌≡◌, take, Some, Bor}
use Rattle.plai_terms.specs.declared.term.Term.{Term}
use Rattle.plai_sources.specs.Shapes.{each, atom_of}
use Rattle.plai_sources.proofs.operators.each_atom.Given as goal

abbrev pub invariant-loop-item : goal.invariant-loop-item
invariant-loop-item l = each (λ (t : Bor Term). atom_of t.now) (take l.item-index l.items) ≡ Some l.names.items
