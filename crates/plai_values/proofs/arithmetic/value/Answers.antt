use Rattle.std.proofs.lemmas.Grind.{common_steps}
use Rattle.std.proofs.Common.{◌≡◌, [], arith, vec_len, reverse, sym, subst}
use Rattle.plai_terms.specs.Preorder.{referred}
use Rattle.plai_terms.proofs.Preorder.{IsBack, back_pop}
use Rattle.plai_values.specs.Values.{value_of}
use Rattle.plai_values.proofs.Evaluation.{at_end}
use Rattle.plai_values.proofs.arithmetic.value.Goals as goal

pub loop-node-preserved : goal.loop-node-preserved
loop-node-preserved c =
    let n = back_pop value_of c.args.term.now c.loop-node.nodes.items c.pop.new.self.items c.in-Some.node (reverse c.loop-node.values.items)
    c.in-Some.ensures.items c.loop-node.invariant in
    subst (λ d. IsBack value_of c.args.term.now (referred c.pop.new.self.items) d) (sym (c.in_ok-put_value.ensures n.others n.split)) n.next

pub returns : goal.returns
returns c =
    let cases = c.in_default.ensures.cases in
    let empty : c.loop-node.nodes.items ≡ [] = grind (arith, common_steps, cases, c.in_default.ensures.items) in
    at_end c.args.term.now c.loop-node.nodes.items c.loop-node.values.items (vec_len c.loop-node.values) c.pop-2.result c.flatten.result
    c.loop-node.invariant empty c.loop-node.values.ok.0 c.pop-2.ensures.value c.flatten.ensures
