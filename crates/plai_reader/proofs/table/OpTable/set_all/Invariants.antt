use Rattle.std.proofs.Common.{◌≡◌, drop}
use Rattle.plai_reader.specs.Operators.{with_entries}
use Rattle.plai_reader.proofs.table.OpTable.set_all.Given as goal

abbrev pub invariant-loop-priority : goal.invariant-loop-priority
invariant-loop-priority l = with_entries l.self (drop l.priority-index l.entries) ≡ with_entries l.fn.self l.entries
