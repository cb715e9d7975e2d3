use Rattle.std.proofs.Common.{◌≡◌, ◌+◌, ◌*◌, refl, ap, ◌∙◌, arith}
use Rattle.plai_make.specs.Draws.{state_at, chosen, draw}
use Rattle.plai_make.proofs.Steps.{first_state, one_further, no_preds, one_pred}
use Rattle.plai_make.proofs.program.made_program.Goals as goal

pub loop-number-init : goal.loop-number-init
loop-number-init c = record {
  few = omega arith;
  value = first_state c.args.count;
  program = c.in_ok-program.ensures ∙ no_preds c.args.count;
  home = ap (λ p. p.modules) c.in_ok-program.ensures;
}

pub loop-number-preserved : goal.loop-number-preserved
loop-number-preserved c =
    let n = c.loop-number.number in
    let first : c.following-first.result ≡ state_at c.args.count (2 * n + 1) =
    c.following-first.ensures.value ∙ one_further c.args.count (2 * n) (2 * n + 1) c.loop-number.state c.loop-number.invariant.value refl in
    let second : c.following-second.result ≡ state_at c.args.count (2 * n + 2) =
    c.following-second.ensures.value ∙ one_further c.args.count (2 * n + 1) (2 * n + 2) c.following-first.result first (omega arith) in
    let left : c.chosen.result ≡ draw c.args.count (2 * n + 1) = c.chosen.ensures ∙ ap (λ s. chosen s c.args.count) first in
    let right : c.chosen-in-loop-number.result ≡ draw c.args.count (2 * n + 2) = c.chosen-in-loop-number.ensures ∙ ap (λ s. chosen s c.args.count) second in
    record {
      few = c.following-second.ensures.few;
      value = second ∙ ap (state_at c.args.count) (omega arith);
      program = c.in_ok-add_pred.ensures ∙ one_pred c.args.count n c.chosen.result c.chosen-in-loop-number.result c.loop-number.program
          c.loop-number.invariant.program left right;
      home = ap (λ p. p.modules) c.in_ok-add_pred.ensures ∙ c.loop-number.invariant.home;
    }
