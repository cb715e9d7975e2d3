use Rattle.std.proofs.Common.{◌≡◌, take, Some, Bor}
use Rattle.plai_terms.specs.declared.term.Term.{Term}
use Rattle.plai_sources.specs.Shapes.{each}
use Rattle.plai_script.specs.Shapes.{single_of}
use Rattle.plai_script.proofs.shape.each_single.Given as goal

abbrev pub invariant-loop-term : goal.invariant-loop-term
invariant-loop-term l = each (λ (t : Bor Term). single_of t.now) (take l.term-index l.terms) ≡ Some l.edits.items
