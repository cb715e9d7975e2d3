use Rattle.std.proofs.Common.{◌≡◌, take}
use Rattle.plai_clauses.proofs.definition.copy_definitions.Given as goal

abbrev pub invariant-loop-place : goal.invariant-loop-place
invariant-loop-place l = l.copies.entries ≡ take l.place l.definitions.entries
