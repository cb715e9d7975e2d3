use Rattle.std.proofs.Common.{ap}
use Rattle.plai_terms.specs.declared.abs.Abs.TheVariants.{Pos}
use Rattle.plai_pos.proofs.domain.Ground.describe.Goals as goal

pub invariant_of-result : goal.invariant_of-result
invariant_of-result c =
    let d = c.in_ok-diagram.ensures.diagram in
    record { small = c.requires.small; canonical = d.canonical; over = d.over; top = d.top }

pub returns : goal.returns
returns c = ap (Pos c.args.arity) c.in_ok-diagram.ensures.models
