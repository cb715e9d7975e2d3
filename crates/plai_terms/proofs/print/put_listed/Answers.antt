use Rattle.std.proofs.Common.{refl}
use Rattle.plai_terms.proofs.Pieces.{puts_last}
use Rattle.plai_terms.proofs.print.put_listed.Goals as goal

pub loop-last-preserved : goal.loop-last-preserved
loop-last-preserved c =
    puts_last c.loop-last.behind c.loop-last.left.now c.in-Some.before.now c.in-Some.last.now c.loop-last.waiting.items c.push.new.self.items
    c.push-in-Some.new.self.items
    _ _ _ c.in-Some.ensures.cases.0 refl refl c.in_ok-push.ensures.items c.in_ok-push-2.ensures.items c.loop-last.invariant
