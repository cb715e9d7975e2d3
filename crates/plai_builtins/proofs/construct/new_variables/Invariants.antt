use Rattle.std.proofs.Common.{◌≡◌}
use Rattle.plai_builtins.specs.Meaning.{new_variables}
use Rattle.plai_builtins.proofs.construct.new_variables.Given as goal

abbrev pub invariant-loop-i : goal.invariant-loop-i
invariant-loop-i l = l.variables.items ≡ new_variables l.first l.i
