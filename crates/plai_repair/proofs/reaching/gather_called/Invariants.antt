use Rattle.std.proofs.Common.{◌≤◌, ◌-◌}
use Rattle.plai_arcs.specs.Arcs.{is_call}
use Rattle.plai_repair.specs.Gathering.{Gathers, IsCalledTo}
use Rattle.plai_repair.proofs.reaching.gather_called.Given as goal

-- what the clauses so far call is gathered
abbrev pub invariant-loop-clause : goal.invariant-loop-clause
invariant-loop-clause l = record {
  within : l.clause ≤ l.last;
  gathers : Gathers (IsCalledTo (is_call l.arcs l.row) l.clause) l.initial.gathered.marks.items l.initial.gathered.rows.items l.gathered.marks.items
      l.gathered.rows.items;
}

abbrev pub decreases-loop-clause : goal.decreases-loop-clause
decreases-loop-clause l = l.last - l.clause
