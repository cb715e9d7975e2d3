use Rattle.std.proofs.Common.{◌≡◌, ◌++◌, reverse, length}
use Rattle.plai_terms.specs.Pieces.{listed, parts_of}
use Rattle.plai_terms.proofs.print.put_listed.Given as goal

abbrev pub invariant-loop-last : goal.invariant-loop-last
invariant-loop-last l = listed l.behind l.left ++ reverse (parts_of l.waiting.items) ≡ listed 41 l.terms ++ reverse (parts_of l.initial.waiting.items)

abbrev pub decreases-loop-last : goal.decreases-loop-last
decreases-loop-last l = length l.left
