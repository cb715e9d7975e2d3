use Rattle.std.proofs.Common.{◌≡◌, [], arith}
use Rattle.std.proofs.lemmas.Grind.{common_steps}
use Rattle.plai_terms.proofs.Renewed.{enough, terms_there, starts, goes_behind, one_is_left, last_is}
use Rattle.plai_terms.specs.Subst.{apply_of}
use Rattle.plai_terms.proofs.Preorder.{back_pop}
use Rattle.plai_terms.proofs.subst.Subst.apply.Goals as goal

pub loop-node-init : goal.loop-node-init
loop-node-init c = starts _ _ _ _ c.in_ok-nodes.ensures c.new-done.ensures.items

pub replaced-requires : goal.replaced-requires
replaced-requires c =
    let b = back_pop _ _ _ _ _ _ c.in-Some.ensures.items c.loop-node.invariant in
    record { enough = enough _ _ _ _ c.loop-node.done.items b; replaced = terms_there _ _ _ _ c.loop-node.done.items b }

pub loop-node-preserved : goal.loop-node-preserved
loop-node-preserved c =
    goes_behind _ _ _ _ c.loop-node.done.items (back_pop _ _ _ _ _ _ c.in-Some.ensures.items c.loop-node.invariant) _ _ _
    c.in_ok-changed.ensures.term c.in_ok-changed.ensures.others c.in_ok-push.ensures.items

pub take_last-requires : goal.take_last-requires
take_last-requires c =
    let cases = c.in_default.ensures.cases in
    let empty : c.loop-node.nodes.items ≡ [] = grind (arith, common_steps, cases, c.in_default.ensures.items) in
    one_is_left (apply_of c.args.self.now) c.args.term.now _ _ empty c.loop-node.invariant

pub returns : goal.returns
returns c =
    let cases = c.in_default.ensures.cases in
    let empty : c.loop-node.nodes.items ≡ [] = grind (arith, common_steps, cases, c.in_default.ensures.items) in
    last_is (apply_of c.args.self.now) c.args.term.now _ _ _ _ empty c.loop-node.invariant c.take_last.ensures
