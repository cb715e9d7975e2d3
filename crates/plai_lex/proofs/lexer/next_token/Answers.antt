use Rattle.std.proofs.Common.{arith, length-drop}
use Rattle.std.proofs.lemmas.List.{take_rest}
use Rattle.plai_lex.proofs.TokenPieces.{skips, gives, writes}
use Rattle.plai_lex.proofs.lexer.next_token.Goals as goal

pub loop-len-preserved : goal.loop-len-preserved
loop-len-preserved c =
    let rest = take_rest c.args.text.now c.loop-len.at in
    let fits = rw (rest, c.in-Gap.is) at c.in_ok-piece_at.ensures.within in
    record {
      inside = omega (arith, fits, length-drop c.loop-len.at c.args.text.now);
      same = skips c.loop-len.at c.in-Gap.len _ c.args.text.now _ _ (rw rest at c.in_ok-piece_at.ensures.value) c.in-Gap.is c.loop-len.invariant.same;
    }

pub returns-in-Found-clause-next : goal.returns-in-Found-clause-next
returns-in-Found-clause-next c =
    let rest = take_rest c.args.text.now c.loop-len.at in
    let fits = rw (rest, c.in-Found.is) at c.in_ok-piece_at.ensures.within in (
      omega (arith, fits, length-drop c.loop-len.at c.args.text.now),
      gives c.loop-len.at c.in-Found.len _ c.in-Found.kind c.args.text.now _ _ (rw rest at c.in_ok-piece_at.ensures.value) c.in-Found.is
          c.loop-len.invariant.same,
    )

pub returns-in-Found-clause-written : goal.returns-in-Found-clause-written
returns-in-Found-clause-written c =
    writes c.loop-len.at c.in-Found.len c.in-Found.kind c.args.text.now _
    (rw (take_rest c.args.text.now c.loop-len.at) at c.in_ok-piece_at.ensures.value) c.in-Found.is
