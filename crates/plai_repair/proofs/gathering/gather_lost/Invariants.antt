use Rattle.std.proofs.Common.{◌<◌}
use Rattle.plai_repair.specs.Lost.{LosesAt}
use Rattle.plai_repair.specs.Gathering.{Gathers}
use Rattle.plai_repair.proofs.gathering.gather_lost.Given as goal

-- the rows so far whose predicates lost a clause are gathered
abbrev pub invariant-loop-row : goal.invariant-loop-row
invariant-loop-row g l = Gathers (λ j. (j < l.row) × LosesAt l.before l.after l.table.rows j) l.initial.gathered.marks.items l.initial.gathered.rows.items
    l.gathered.marks.items l.gathered.rows.items
