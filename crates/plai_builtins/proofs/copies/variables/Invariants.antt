use Rattle.std.proofs.Common.{◌≡◌, take, flat_map}
use Rattle.plai_terms.specs.Preorder.{referred}
use Rattle.plai_builtins.specs.Copies.{each_once}
use Rattle.plai_builtins.proofs.Variables.{own}
use Rattle.plai_builtins.proofs.copies.variables.Given as goal

-- the variables of the subterms so far
abbrev pub invariant-loop-node : goal.invariant-loop-node
invariant-loop-node l = l.found.items ≡ each_once (flat_map own (referred (take l.node-index l.node-items)))
