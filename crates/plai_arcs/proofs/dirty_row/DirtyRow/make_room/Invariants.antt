use Rattle.std.proofs.Common.{◌≡◌, ℕ, ◌≤◌, ◌+◌, ◌-◌, vec_len}
use Rattle.plai_arcs.specs.Flags.{flag_at}
use Rattle.plai_arcs.proofs.dirty_row.DirtyRow.make_room.Given as goal

abbrev pub invariant-loop-self : goal.invariant-loop-self
invariant-loop-self l = record {
  same : (k : ℕ) → flag_at l.self.flags.items k ≡ flag_at l.initial.self.flags.items k;
  longer : vec_len l.initial.self.flags ≤ vec_len l.self.flags;
}

abbrev pub decreases-loop-self : goal.decreases-loop-self
decreases-loop-self l = l.clause + 1 - vec_len l.self.flags
