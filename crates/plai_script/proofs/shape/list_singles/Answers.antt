use Rattle.plai_sources.specs.Shapes.{list_items}
use Rattle.plai_sources.proofs.Each.{each-now}
use Rattle.plai_script.specs.Shapes.{single_of}
use Rattle.plai_script.proofs.Parts.{items_now}
use Rattle.plai_script.proofs.shape.list_singles.Goals as goal

pub each_single-requires-clause-parts : goal.each_single-requires-clause-parts
each_single-requires-clause-parts c =
    items_now c.args.limit c.args.term.now c.in_ok-items.items.items c.as_slice.result.now c.requires.part c.in_ok-items.ensures c.as_slice.ensures.value

pub returns : goal.returns
returns c =
    each-now single_of (list_items c.args.term.now) c.in_ok-items.items.items c.as_slice.result.now c.each_single.result
    c.in_ok-items.ensures c.as_slice.ensures.value c.each_single.ensures
