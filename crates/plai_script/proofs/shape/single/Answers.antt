use Rattle.plai_script.proofs.Parts.{parts_of}
use Rattle.plai_script.proofs.shape.single.Goals as goal

pub single_at-requires-clause-parts : goal.single_at-requires-clause-parts
single_at-requires-clause-parts c =
    parts_of c.args.limit c.args.term.now c.in-Compound.name c.in-Compound.args c.as_slice.result.now c.in-Compound.is c.as_slice.ensures.items c.requires.part
