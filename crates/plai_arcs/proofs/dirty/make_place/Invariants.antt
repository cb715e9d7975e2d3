use Rattle.std.proofs.Common.{◌≡◌, ℕ, ◌≤◌, ◌+◌, ◌-◌, vec_len}
use Rattle.plai_arcs.specs.declared.dirty_row.DirtyRow.{DirtyRow}
use Rattle.plai_arcs.specs.Places.{at}
use Rattle.plai_arcs.specs.Dirty.{dirty_at}
use Rattle.plai_arcs.proofs.dirty.make_place.Given as goal

abbrev pub invariant-grow : goal.invariant-grow
invariant-grow l = record {
  same : (r c : ℕ) → dirty_at l.rows.items r c ≡ dirty_at l.initial.rows.items r c;
  more : (r : ℕ) → at (λ (d : DirtyRow). vec_len d.flags) 0 l.initial.rows.items r ≤ at (λ (d : DirtyRow). vec_len d.flags) 0 l.rows.items r;
}

abbrev pub decreases-grow : goal.decreases-grow
decreases-grow l = l.row + 1 - vec_len l.rows
