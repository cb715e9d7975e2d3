use Rattle.std.proofs.Common.{◌≡◌, ◌++◌, reverse, length}
use Rattle.plai_terms.specs.Preorder.{referred}
use Rattle.plai_terms.proofs.walk.put_all.Given as goal

abbrev pub invariant-loop-last : goal.invariant-loop-last
invariant-loop-last l = referred l.waiting.items ++ reverse l.left ≡ referred l.initial.waiting.items ++ reverse l.terms

abbrev pub decreases-loop-last : goal.decreases-loop-last
decreases-loop-last l = length l.left
