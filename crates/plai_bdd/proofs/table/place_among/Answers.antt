use Rattle.std.proofs.Common.{sym, ap, ◌∙◌, arith}
use Rattle.std.specs.List.{position}
use Rattle.plai_bdd.specs.Nodes.{same_node}
use Rattle.plai_bdd.proofs.Lists.{put_found, put_new}
use Rattle.plai_bdd.proofs.table.place_among.Goals as goal

pub returns-in-Some-clause-nodes : goal.returns-in-Some-clause-nodes
returns-in-Some-clause-nodes c = put_found c.args.node c.args.nodes.now.items c.in-Some.place
    (sym (ap (position (same_node c.args.node)) c.as_slice.ensures.value) ∙ sym c.find.ensures ∙ c.in-Some.is)

pub returns-in_ok-push-in-None-clause-place : goal.returns-in_ok-push-in-None-clause-place
returns-in_ok-push-in-None-clause-place c =
    let none = sym (ap (position (same_node c.args.node)) c.as_slice.ensures.value) ∙ sym c.find.ensures ∙ c.in-None.is in
    let last = (put_new c.args.node c.args.nodes.now.items none).0 in
    omega (arith, last)

pub returns-in_ok-push-in-None-clause-nodes : goal.returns-in_ok-push-in-None-clause-nodes
returns-in_ok-push-in-None-clause-nodes c = c.in_ok-push-in-None.ensures.items ∙ (put_new c.args.node c.args.nodes.now.items
    (sym (ap (position (same_node c.args.node)) c.as_slice.ensures.value) ∙ sym c.find.ensures ∙ c.in-None.is)).1
