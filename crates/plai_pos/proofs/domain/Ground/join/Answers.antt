use Rattle.std.proofs.Common.{ap}
use Rattle.plai_terms.specs.declared.abs.Abs.TheVariants.{Pos}
use Rattle.plai_pos.proofs.Equal.{joined}
use Rattle.plai_pos.proofs.domain.Ground.join.Goals as goal

pub invariant_of-result : goal.invariant_of-result
invariant_of-result c =
    let d = joined c.args.a.now c.args.b.now c.in_ok-diagram.diagram c.requires c.in_ok-diagram.ensures in
    record { small = c.args.a.now.small; canonical = d.diagram.canonical; over = d.diagram.over; top = d.diagram.top }

pub returns : goal.returns
returns c = ap (Pos c.args.a.now.arity) (joined c.args.a.now c.args.b.now c.in_ok-diagram.diagram c.requires c.in_ok-diagram.ensures).models
