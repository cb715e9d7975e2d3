use Rattle.std.proofs.Common.{◌<◌, ◌-◌, length, ap, ◌∙◌, arith}
use Rattle.plai_terms.specs.Term.{has_variables_below}
use Rattle.plai_share_laws.specs.Sides.{side_of}
use Rattle.plai_share.proofs.Arguments.{below_at, side_here}
use Rattle.plai_share.proofs.refine.side_at.Goals as goal

pub of-requires-clause-term : goal.of-requires-clause-term
of-requires-clause-term c =
    let l : c.args.argument - 1 < length c.args.args.now = omega arith in
    ap (has_variables_below c.args.state.now.variables) c.index-args-argument.is
    ∙ below_at c.args.state.now.variables c.args.args.now (c.args.argument - 1) c.index-args-argument.result c.requires.below l

pub returns-clause-side : goal.returns-clause-side
returns-clause-side c =
    let l : c.args.argument - 1 < length c.args.args.now = omega arith in
    c.of.ensures.side ∙ ap (side_of c.args.state.now.arity) c.index-args-argument.is
    ∙ side_here c.args.state.now.arity c.args.args.now (c.args.argument - 1) c.index-args-argument.result l
