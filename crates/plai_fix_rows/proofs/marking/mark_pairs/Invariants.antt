use Rattle.std.proofs.Common.{◌≡◌, ℕ, ◌||◌, take}
use Rattle.std.specs.List.{list_any}
use Rattle.plai_arcs.specs.Arcs.{is_dirty, is_call}
use Rattle.plai_arcs.specs.Links.{is_pair}
use Rattle.plai_fix_rows.proofs.marking.mark_pairs.Given as goal

-- the pairs so far are marked
abbrev pub invariant-loop-row : goal.invariant-loop-row
invariant-loop-row l = record {
  marked : (r c : ℕ) → is_dirty l.arcs r c ≡ (list_any (is_pair r c) (take l.row-index l.pairs) || is_dirty l.initial.arcs r c);
  same : (r c q : ℕ) → is_call l.arcs r c q ≡ is_call l.initial.arcs r c q;
}
