use Rattle.std.proofs.Common.{◌≡◌, [], arith}
use Rattle.std.proofs.lemmas.Grind.{common_steps}
use Rattle.plai_terms.proofs.Renewed.{enough, starts, copied, one_is_left, last_is}
use Rattle.plai_terms.proofs.Preorder.{back_pop}
use Rattle.plai_terms.proofs.term.Term.copy.Goals as goal

pub loop-node-init : goal.loop-node-init
loop-node-init c = starts _ _ _ _ c.in_ok-nodes.ensures c.new-done.ensures.items

pub renewed-requires : goal.renewed-requires
renewed-requires c = enough _ _ _ _ c.loop-node.done.items (back_pop _ _ _ _ _ _ c.in-Some.ensures.items c.loop-node.invariant)

pub loop-node-preserved : goal.loop-node-preserved
loop-node-preserved c =
    copied _ _ _ c.loop-node.done.items (back_pop _ _ _ _ _ _ c.in-Some.ensures.items c.loop-node.invariant) _ _ _
    c.in_ok-term.ensures.term c.in_ok-term.ensures.others c.in_ok-push.ensures.items

pub take_last-requires : goal.take_last-requires
take_last-requires c =
    let cases = c.in_default.ensures.cases in
    let empty : c.loop-node.nodes.items ≡ [] = grind (arith, common_steps, cases, c.in_default.ensures.items) in
    one_is_left (λ t. t) c.args.self.now _ _ empty c.loop-node.invariant

pub returns : goal.returns
returns c =
    let cases = c.in_default.ensures.cases in
    let empty : c.loop-node.nodes.items ≡ [] = grind (arith, common_steps, cases, c.in_default.ensures.items) in
    last_is (λ t. t) c.args.self.now _ _ _ _ empty c.loop-node.invariant c.take_last.ensures
