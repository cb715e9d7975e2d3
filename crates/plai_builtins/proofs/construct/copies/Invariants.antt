use Rattle.std.proofs.Common.{◌≡◌, take}
use Rattle.plai_terms.specs.Preorder.{referred}
use Rattle.plai_builtins.proofs.construct.copies.Given as goal

abbrev pub invariant-loop-item : goal.invariant-loop-item
invariant-loop-item l = l.terms.items ≡ referred (take l.item-index l.items)
