use Rattle.std.proofs.Common.{◌≡◌, length, arith}
use Rattle.plai_bdd.proofs.Canonical.{rooted}
use Rattle.plai_bdd.proofs.Replaced.{replacing_none, replacing_more, replaced_last, children_made}
use Rattle.plai_bdd.proofs.replace.replaced_root.Goals as goal

pub loop-node-init : goal.loop-node-init
loop-node-init c = replacing_none c.args.nodes.now c.args.sets.now c.in_ok-made.made.items c.in_ok-made.ensures.items

pub replaced_function-requires : goal.replaced_function-requires
replaced_function-requires c =
    children_made c.args.nodes.now c.args.sets.now c.loop-node.node-index c.loop-node.made.items c.as_slice.result.now _
    (rooted c.args.nodes.now c.requires).table c.loop-node-test.true c.as_slice.ensures.value c.loop-node.invariant

pub loop-node-preserved : goal.loop-node-preserved
loop-node-preserved c =
    replacing_more c.args.nodes.now c.args.sets.now c.loop-node.node-index c.loop-node.made.items c.as_slice.result.now c.push.new.self.items
    c.in_ok-next.next _ (rooted c.args.nodes.now c.requires).table c.loop-node-test.true c.in_ok-push.ensures.items c.as_slice.ensures.value
    c.in_ok-next.ensures c.loop-node.invariant

pub returns-in-Some : goal.returns-in-Some
returns-in-Some c =
    let all : c.loop-node.node-index ≡ length c.args.nodes.now = omega (arith, c.loop-node-test.false, c.loop-node.auto.node-index-end) in
    replaced_last c.args.nodes.now c.args.sets.now c.loop-node.node-index c.loop-node.made.items c.pop.new.self.items c.in-Some.root all
    c.loop-node.invariant c.in-Some.ensures.items

pub returns : goal.returns
returns c =
    let all : c.loop-node.node-index ≡ length c.args.nodes.now = omega (arith, c.loop-node-test.false, c.loop-node.auto.node-index-end) in
    absurd (omega (arith, all, (rooted c.args.nodes.now c.requires).some, c.loop-node.invariant.size, c.in-None.ensures.cases.0))
