use Rattle.std.proofs.Common.{arith}
use Rattle.plai_bdd.specs.Nodes.{holds}
use Rattle.plai_bdd.proofs.Slots.{left_start, left_kept, left_none, some_meaning, some_free}
use Rattle.plai_bdd.proofs.bdd.Bdd.exists.Goals as goal

pub loop-k-init : goal.loop-k-init
loop-k-init c = left_start c.args.slots c.args.self.now _ c.in_ok-rest.ensures.same c.in_ok-rest.ensures.canonical

pub loop-k-preserved : goal.loop-k-preserved
loop-k-preserved c = left_kept c.args.slots _ c.loop-k.k c.args.self.now c.loop-k.rest _ (omega arith) c.loop-k.invariant c.in_ok-rest-2.ensures

pub returns-clause-function : goal.returns-clause-function
returns-clause-function c = left_none c.args.slots c.loop-k.k c.args.self.now c.loop-k.rest (omega arith) c.loop-k.invariant

pub returns-clause-meaning : goal.returns-clause-meaning
returns-clause-meaning c =
    some_meaning c.args.slots (holds c.args.self.now) c.loop-k.rest
    (left_none c.args.slots c.loop-k.k c.args.self.now c.loop-k.rest (omega arith) c.loop-k.invariant)

pub returns-clause-free : goal.returns-clause-free
returns-clause-free c =
    some_free c.args.slots (holds c.args.self.now) c.loop-k.rest
    (left_none c.args.slots c.loop-k.k c.args.self.now c.loop-k.rest (omega arith) c.loop-k.invariant)
