use Rattle.std.proofs.Common.{◌-◌, length}
use Rattle.plai_arcs.proofs.RenameLemmas.{AreRenamed}
use Rattle.plai_arcs.proofs.renames.rename_clause_callers.Given as goal

abbrev pub invariant-each : goal.invariant-each
invariant-each l = AreRenamed l.initial.callers l.callers l.rows l.last l.row l.clause l.index

abbrev pub decreases-each : goal.decreases-each
decreases-each l = length l.rows - l.index
