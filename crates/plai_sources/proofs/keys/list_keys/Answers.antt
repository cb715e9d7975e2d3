use Rattle.plai_sources.specs.Shapes.{list_items}
use Rattle.plai_sources.specs.Keys.{key_of}
use Rattle.plai_sources.proofs.Each.{each-now}
use Rattle.plai_sources.proofs.keys.list_keys.Goals as goal

pub returns : goal.returns
returns c =
    each-now key_of (list_items c.args.term.now) c.in_ok-items.items.items c.as_slice.result.now c.each_key.result
    c.in_ok-items.ensures c.as_slice.ensures.value c.each_key.ensures
