use Rattle.plai_bdd.proofs.Steps.{ok_then}
use Rattle.plai_bdd.proofs.Slots.{all_meaning}
use Rattle.plai_bdd.proofs.Chains.{empty_is, single_is}
use Rattle.plai_bdd.proofs.bdd.Bdd.all_of.Goals as goal

pub returns-in-None-clause-function : goal.returns-in-None-clause-function
returns-in-None-clause-function c = ok_then _ _ (λ b f. empty_is c.args.all b c.in-None.ensures f) c.constant.result c.constant.ensures

pub returns-in-None-clause-meaning : goal.returns-in-None-clause-meaning
returns-in-None-clause-meaning c = ok_then _ _ (λ b f. all_meaning c.args.all b (empty_is c.args.all b c.in-None.ensures f)) c.constant.result
    c.constant.ensures

pub returns-in_ok-nodes-in-Some-clause-meaning : goal.returns-in_ok-nodes-in-Some-clause-meaning
returns-in_ok-nodes-in-Some-clause-meaning c = all_meaning c.args.all c.in_ok-nodes-in-Some.nodes.items c.in_ok-nodes-in-Some.ensures

pub returns-then-is_single-clause-function : goal.returns-then-is_single-clause-function
returns-then-is_single-clause-function c =
    ok_then _ _ (λ b f. single_is c.args.all c.in-Some.slot b c.in-Some.ensures.1 (c.is_single.ensures c.if-is_single.true) f) c.variable.result
    c.variable.ensures

pub returns-then-is_single-clause-meaning : goal.returns-then-is_single-clause-meaning
returns-then-is_single-clause-meaning c =
    ok_then _ _
    (λ b f. all_meaning c.args.all b (single_is c.args.all c.in-Some.slot b c.in-Some.ensures.1 (c.is_single.ensures c.if-is_single.true) f))
    c.variable.result c.variable.ensures
