use Rattle.std.proofs.Common.{◌+◌, ◌≤◌, ◌++◌, map, vec_len, vec_capacity, All, IsPermutation}
use Rattle.plai_render.specs.Order.{IsNarrow}
use Rattle.plai_render.proofs.order.key_all.Given as goal

abbrev pub invariant-loop-row : goal.invariant-loop-row
invariant-loop-row l = record {
  narrow : All IsNarrow l.rows.items;
  room : vec_len l.keyed + vec_len l.rows ≤ vec_capacity l.keyed;
  back : vec_len l.keyed + vec_len l.rows ≤ vec_capacity l.rows;
  same : IsPermutation (map (λ k. k.row) l.fn.keyed.items ++ l.fn.rows.items) (map (λ k. k.row) l.keyed.items ++ l.rows.items);
}

abbrev pub decreases-loop-row : goal.decreases-loop-row
decreases-loop-row l = vec_len l.rows
