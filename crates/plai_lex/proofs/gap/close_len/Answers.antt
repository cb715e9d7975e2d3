use Rattle.std.proofs.lemmas.List.{take_rest}
use Rattle.plai_lex.proofs.Comments.{search_goes_on}
use Rattle.plai_lex.proofs.gap.close_len.Goals as goal

pub loop-i-preserved : goal.loop-i-preserved
loop-i-preserved c =
    search_goes_on c.args.text.now c.loop-i.i c.loop-i-test.true (rw (take_rest c.args.text.now c.loop-i.i) at c.if-starts_with.ensures.value)
    c.loop-i.invariant
