use Rattle.std.proofs.Common.{◌≤◌, ◌-◌}
use Rattle.plai_fix_laws.specs.Queues.{Awaits}
use Rattle.plai_fix_rows.specs.Solving.{listed}
use Rattle.plai_fix_rows.proofs.waking.await_pairs.Given as goal

-- the clauses so far are pending
abbrev pub invariant-loop-number : goal.invariant-loop-number
invariant-loop-number l = record {
  within : l.number ≤ l.last;
  awaits : Awaits l.row l.number (listed l.initial.pending.items) (listed l.pending.items);
}

abbrev pub decreases-loop-number : goal.decreases-loop-number
decreases-loop-number l = l.last - l.number
