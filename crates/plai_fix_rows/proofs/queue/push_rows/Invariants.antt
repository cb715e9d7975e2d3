use Rattle.std.proofs.Common.{◌≡◌, ℕ, true, take, heap_items}
use Rattle.std.specs.List.{list_any, Contains}
use Rattle.plai_arcs.specs.Links.{is_pair}
use Rattle.plai_fix_rows.proofs.queue.push_rows.Given as goal

-- the rows of the pairs so far are there
abbrev pub invariant-loop-row : goal.invariant-loop-row
invariant-loop-row l = record {
  rows : (n m : ℕ) → list_any (is_pair n m) (take l.row-index l.pairs) ≡ true → Contains (heap_items l.queue) n;
  others : (n : ℕ) → Contains (heap_items l.initial.queue) n → Contains (heap_items l.queue) n;
}
