use Rattle.std.proofs.Common.{◌≤◌, ◌-◌, length}
use Rattle.plai_theory.specs.Words.{IsIn}
use Rattle.plai_arcs.specs.Arcs.{is_call}
use Rattle.plai_repair.specs.Gathering.{Spreads, turned}
use Rattle.plai_repair.proofs.reaching.spread_called.Given as goal

-- what the first of the gathered rows call is gathered
abbrev pub invariant-loop-index : goal.invariant-loop-index
invariant-loop-index g l = record {
  within : l.index ≤ length l.gathered.rows.items;
  spreads : Spreads (λ j. IsIn j l.initial.gathered.rows.items) (turned (is_call l.arcs)) (length l.initial.gathered.marks.items) l.index
      l.gathered.marks.items l.gathered.rows.items;
}

abbrev pub decreases-loop-index : goal.decreases-loop-index
decreases-loop-index g l = length l.initial.gathered.marks.items - l.index
