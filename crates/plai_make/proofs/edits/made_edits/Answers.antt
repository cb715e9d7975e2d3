use Rattle.std.proofs.Common.{◌≡◌, ◌+◌, ◌*◌, ◌++◌, ◌∷◌, [], Ok, ap, ◌∙◌, arith}
use Rattle.plai_make.specs.Draws.{state_at, chosen, draw}
use Rattle.plai_make.specs.Programs.{removal, addition, drawn_pair}
use Rattle.plai_make.proofs.Steps.{one_further, more_items}
use Rattle.plai_make.proofs.Readable.{pair_readable}
use Rattle.plai_make.proofs.edits.made_edits.Goals as goal

pub loop-preserved : goal.loop-preserved
loop-preserved c =
    let n = c.args.count in
    let i = c.loop.counter in
    let drawn : c.following-drawn.result ≡ state_at n (2 * n + (2 * i + 1)) =
    c.following-drawn.ensures.value ∙ one_further n (2 * n + 2 * i) (2 * n + (2 * i + 1)) c.loop.state c.loop.invariant.value (omega arith) in
    let number : c.chosen.result ≡ draw n (2 * n + (2 * i + 1)) = c.chosen.ensures ∙ ap (λ s. chosen s n) drawn in
    record {
      few = c.following-state.ensures.few;
      value = c.following-state.ensures.value ∙ one_further n (2 * n + (2 * i + 1)) (2 * n + 2 * (i + 1)) c.following-drawn.result drawn (omega arith);
      edits = more_items (drawn_pair n) [] c.loop.edits.items c.push_pair.new.edits.items i c.loop.invariant.edits
          (c.in_ok-push_pair.ensures ∙ ap (λ k. c.loop.edits.items ++ Ok (removal k) ∷ Ok (addition k) ∷ []) number);
      readable = rw c.in_ok-push_pair.ensures (pair_readable c.loop.edits.items c.chosen.result c.loop.invariant.readable);
    }
