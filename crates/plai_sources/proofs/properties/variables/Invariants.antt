use Rattle.std.proofs.Common.{◌≡◌, ◌≤◌, take, Some, vec_len}
use Rattle.plai_sources.specs.Shapes.{each, variable_of}
use Rattle.plai_sources.proofs.properties.variables.Given as goal

abbrev pub invariant-loop-arg : goal.invariant-loop-arg
invariant-loop-arg l = record {
  numbers : each variable_of (take l.arg-index l.args) ≡ Some l.numbers.items;
  few : vec_len l.numbers ≤ l.arg-index;
}
