use Rattle.std.proofs.Common.{◌≡◌, take}
use Rattle.plai_builtins.specs.Copies.{renaming}
use Rattle.plai_builtins.proofs.copies.renaming.Given as goal

abbrev pub invariant-loop-i : goal.invariant-loop-i
invariant-loop-i l = l.pairs.items ≡ renaming l.first (take l.i l.variables)
