use Rattle.std.proofs.Common.{◌≤◌, ◌-◌, length}
use Rattle.plai_theory.specs.Words.{IsIn}
use Rattle.plai_arcs.specs.Arcs.{is_call}
use Rattle.plai_repair.specs.Gathering.{Spreads}
use Rattle.plai_repair.proofs.gathering.spread.Given as goal

-- the callers of the first of the gathered rows are gathered
abbrev pub invariant-loop-index : goal.invariant-loop-index
invariant-loop-index l = record {
  within : l.index ≤ length l.gathered.rows.items;
  spreads : Spreads (λ j. IsIn j l.initial.gathered.rows.items) (is_call l.arcs) (length l.initial.gathered.marks.items) l.index l.gathered.marks.items
      l.gathered.rows.items;
}

abbrev pub decreases-loop-index : goal.decreases-loop-index
decreases-loop-index l = length l.initial.gathered.marks.items - l.index
