use Rattle.std.proofs.Common.{is_ok, ◌∙◌, arith}
use Rattle.plai_arcs.proofs.PlaceLemmas.{flag_pushed}
use Rattle.plai_arcs.proofs.dirty_row.DirtyRow.make_room.Goals as goal

pub invariant_of-self : goal.invariant_of-self
invariant_of-self c = record { below = λ k h. flag_pushed (is_ok c.push.result) _ _ c.push.ensures.items k ∙ c.loop-self.self.below k h }

pub loop-self-preserved : goal.loop-self-preserved
loop-self-preserved c = record {
  same = λ k. flag_pushed (is_ok c.push.result) _ _ c.push.ensures.items k ∙ c.loop-self.invariant.same k;
  longer = omega (arith, c.in_ok-push.ensures.len);
}
