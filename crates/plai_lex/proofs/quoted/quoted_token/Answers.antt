use Rattle.std.proofs.Common.{arith, length-drop}
use Rattle.std.proofs.lemmas.List.{take_rest}
use Rattle.plai_lex.proofs.QuotedItems.{reads_code, reads_nothing}
use Rattle.plai_lex.proofs.quoted.quoted_token.Goals as goal

pub loop-codes-preserved-in-Continuation : goal.loop-codes-preserved-in-Continuation
loop-codes-preserved-in-Continuation c =
    let rest = take_rest c.args.text.now c.loop-codes.at in
    let fits = rw rest at c.in-Continuation.ensures.within in
    record {
      inside = omega (arith, fits, length-drop c.loop-codes.at c.args.text.now);
      items = reads_nothing _ c.loop-codes.at c.args.text.now _ _ (rw rest at c.in-Continuation.ensures.value) c.loop-codes.invariant.items;
    }

pub loop-codes-preserved : goal.loop-codes-preserved
loop-codes-preserved c =
    let rest = take_rest c.args.text.now c.loop-codes.at in
    let fits = rw rest at c.in-Code.ensures.within in
    record {
      inside = omega (arith, fits, length-drop c.loop-codes.at c.args.text.now);
      items = reads_code _ c.loop-codes.at c.args.text.now _ _ c.in-Code.character _ (rw rest at c.in-Code.ensures.value)
          c.in_ok-push-in-Code.ensures.items c.loop-codes.invariant.items;
    }
