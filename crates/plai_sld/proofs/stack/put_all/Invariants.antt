use Rattle.std.proofs.Common.{◌≡◌, ◌+◌, ◌≤◌, ◌++◌, reverse, length, vec_len, vec_capacity}
use Rattle.plai_sld.proofs.stack.put_all.Given as goal

abbrev pub invariant-loop-item : goal.invariant-loop-item
invariant-loop-item l = record {
  room : vec_len l.stack + length l.top.items ≤ vec_capacity l.stack;
  moved : l.stack.items ++ reverse l.top.items ≡ l.fn.stack.items ++ reverse l.fn.top.items;
}

abbrev pub decreases-loop-item : goal.decreases-loop-item
decreases-loop-item l = vec_len l.top
