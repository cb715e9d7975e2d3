use Rattle.std.proofs.Common.{◌+◌, ◌*◌, refl, ◌∙◌, arith}
use Rattle.plai_make.proofs.Steps.{first_state, one_further}
use Rattle.plai_make.proofs.draws.behind_twice.Goals as goal

pub loop-init : goal.loop-init
loop-init c = record { few = omega arith; value = first_state c.args.count }

pub loop-preserved : goal.loop-preserved
loop-preserved c = record {
  few = c.following-state.ensures.few;
  value = c.following-state.ensures.value
      ∙ one_further c.args.count (2 * c.loop.counter + 1) _ c.following-next.result
      (c.following-next.ensures.value ∙ one_further c.args.count (2 * c.loop.counter) _ c.loop.state c.loop.invariant.value refl) (omega arith);
}
