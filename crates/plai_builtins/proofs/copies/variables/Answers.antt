use Rattle.std.proofs.Common.{◌∙◌, flat_map, sym, ap}
use Rattle.std.proofs.lemmas.List.{take_all}
use Rattle.plai_terms.specs.Preorder.{referred}
use Rattle.plai_builtins.specs.Copies.{each_once}
use Rattle.plai_builtins.proofs.Variables.{own, occurrences_owned, walk_notes}
use Rattle.plai_builtins.proofs.copies.variables.Goals as goal

pub loop-node-preserved : goal.loop-node-preserved
loop-node-preserved c =
    walk_notes c.as_slice-node-items.result.now c.loop-node.node-index c.node-item.result c.loop-node.found.items c.note.new.found.items
    c.loop-node-test.true c.node-item.is c.loop-node.invariant c.in_ok-note.ensures

pub returns : goal.returns
returns c =
    c.loop-node.invariant
    ∙ ap (λ ts. each_once (flat_map own (referred ts)))
    (take_all c.loop-node.node-index c.as_slice-node-items.result.now c.loop-node-test.false ∙ c.as_slice-node-items.ensures.value)
    ∙ ap (λ ts. each_once (flat_map own ts)) c.in_ok-nodes.ensures
    ∙ ap each_once (sym (occurrences_owned c.args.term.now))
