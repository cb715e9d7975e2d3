use Rattle.std.proofs.Common.{◌≡◌, ℕ, ◌<◌, false}
use Rattle.plai_arcs.specs.Arcs.{is_dirty}
use Rattle.plai_fix.proofs.solving.has_mark.Given as goal

-- no pair of the rows so far is marked
abbrev pub invariant-loop-row : goal.invariant-loop-row
invariant-loop-row l = (r c : ℕ) → r < l.row → is_dirty l.marks r c ≡ false
