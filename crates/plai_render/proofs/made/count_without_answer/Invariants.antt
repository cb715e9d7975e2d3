use Rattle.std.proofs.Common.{◌≡◌, ◌≤◌, ◌+◌, filter, drop, length}
use Rattle.plai_render.specs.Made.{has_no_answer}
use Rattle.plai_render.proofs.made.count_without_answer.Given as goal

abbrev pub invariant-loop-row : goal.invariant-loop-row
invariant-loop-row l = record {
  counted : l.count + length (filter has_no_answer (drop l.row-index l.rows)) ≡ length (filter has_no_answer l.rows);
  few : l.count ≤ l.row-index;
}
