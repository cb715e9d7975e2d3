use Rattle.plai_sources.specs.Shapes.{list_items, atom_of}
use Rattle.plai_sources.proofs.Each.{each-now}
use Rattle.plai_sources.proofs.operators.list_atoms.Goals as goal

pub returns : goal.returns
returns c =
    each-now atom_of (list_items c.args.term.now) c.in_ok-items.items.items c.as_slice.result.now c.each_atom.result
    c.in_ok-items.ensures c.as_slice.ensures.value c.each_atom.ensures
