use Rattle.std.proofs.Common.{◌≡◌, ◌+◌, ◌≤◌, ◌++◌, map, reverse, vec_len, vec_capacity}
use Rattle.plai_render.proofs.order.give_back.Given as goal

abbrev pub invariant-loop-key : goal.invariant-loop-key
invariant-loop-key l = record {
  room : vec_len l.keyed + vec_len l.rows ≤ vec_capacity l.rows;
  moved : l.rows.items ++ reverse (map (λ k. k.row) l.keyed.items) ≡ l.fn.rows.items ++ reverse (map (λ k. k.row) l.fn.keyed.items);
}

abbrev pub decreases-loop-key : goal.decreases-loop-key
decreases-loop-key l = vec_len l.keyed
