use Rattle.std.proofs.Common.{◌-◌, length}
use Rattle.plai_arcs.proofs.RenameLemmas.{AreNamed}
use Rattle.plai_arcs.proofs.renames.rename_calls.Given as goal

abbrev pub invariant-each : goal.invariant-each
invariant-each l = AreNamed l.initial.calls l.calls l.pairs l.last l.row l.place

abbrev pub decreases-each : goal.decreases-each
decreases-each l = length l.pairs - l.place
