use Rattle.std.proofs.Common.{◌≡◌, ◌<◌, true}
use Rattle.plai_repair.specs.Gathering.{Gathers}
use Rattle.plai_repair.specs.Reached.{entry_at}
use Rattle.plai_repair.proofs.reaching.gather_entries.Given as goal

-- the entries' rows so far are gathered
abbrev pub invariant-loop-row : goal.invariant-loop-row
invariant-loop-row g l = Gathers (λ j. (j < l.row) × (entry_at l.table.rows j ≡ true)) l.initial.gathered.marks.items l.initial.gathered.rows.items
    l.gathered.marks.items l.gathered.rows.items
