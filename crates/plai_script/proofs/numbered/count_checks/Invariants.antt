use Rattle.std.proofs.Common.{◌≡◌, ◌≤◌, ◌+◌, drop}
use Rattle.plai_clauses.specs.Program.{many_of, homes_of_checks}
use Rattle.plai_script.proofs.numbered.count_checks.Given as goal

abbrev pub invariant-loop-check : goal.invariant-loop-check
invariant-loop-check l =
    (l.count ≤ l.check-index) × (l.count + many_of l.module (homes_of_checks (drop l.check-index l.checks)) ≡ many_of l.module (homes_of_checks l.checks))
