use Rattle.std.proofs.Common.{◌≡◌, ◌-◌, ◌^◌, min, take, length}
use Rattle.std.specs.List.{sum_by}
use Rattle.plai_clauses.proofs.definition.count_in.Given as goal

abbrev pub invariant-loop-clauses : goal.invariant-loop-clauses
invariant-loop-clauses l = l.count ≡ min (sum_by length (take l.clauses-index l.lists)) (2 ^ 64 - 1)
