use Rattle.std.proofs.Common.{◌≡◌, ◌≤◌, ◌+◌, drop}
use Rattle.plai_clauses.specs.Program.{many_of, homes_of_entries}
use Rattle.plai_script.proofs.numbered.count_entries.Given as goal

abbrev pub invariant-loop-entry : goal.invariant-loop-entry
invariant-loop-entry l =
    (l.count ≤ l.entry-index) × (l.count + many_of l.module (homes_of_entries (drop l.entry-index l.entries)) ≡ many_of l.module (homes_of_entries l.entries))
