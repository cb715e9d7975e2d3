use Rattle.plai_terms.proofs.Preorder.{walk_on, walk_shorter}
use Rattle.plai_terms.proofs.term.Term.nodes.Goals as goal

pub loop-term-smaller : goal.loop-term-smaller
loop-term-smaller c = walk_shorter _ _ _ _ _ c.in-Some.ensures.items c.arguments.ensures c.in_ok-put_all.ensures

pub loop-term-preserved : goal.loop-term-preserved
loop-term-preserved c = walk_on _ _ _ _ _ _ _ _ c.in-Some.ensures.items c.in_ok-push.ensures.items c.arguments.ensures c.in_ok-put_all.ensures
    c.loop-term.invariant
