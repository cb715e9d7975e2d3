use Rattle.std.proofs.Common.{◌-◌, Some, refl, sym, ap, ◌∙◌, arith}
use Rattle.plai_pos.proofs.Refined.{is_variable, no_variable}
use Rattle.plai_pos.proofs.Terms.{term_below}
use Rattle.plai_pos.proofs.refine.kept_variable.Goals as goal

pub may_be_variable-requires : goal.may_be_variable-requires
may_be_variable-requires c = term_below c.args.state.now.variables c.args.args.now (c.args.argument - 1) c.index-args-argument.result c.requires.below
    c.index-args-argument.is (omega (arith, c.requires.argument.0, c.requires.argument.1))

pub returns-in_ok-copy : goal.returns-in_ok-copy
returns-in_ok-copy c =
    ap Some c.in_ok-copy.ensures
    ∙ is_variable c.args.state.now.arity c.args.state.now.variables c.args.args.now (c.args.argument - 1)
    (omega (arith, c.requires.argument.0, c.requires.argument.1))
    _ c.index-args-argument.result c.index-args-argument.is _ refl (sym c.if-branch.true ∙ c.in_ok-may_be_variable.ensures)

pub returns-else-branch : goal.returns-else-branch
returns-else-branch c =
    no_variable c.args.state.now.arity c.args.state.now.variables c.args.args.now (c.args.argument - 1)
    (omega (arith, c.requires.argument.0, c.requires.argument.1))
    _ c.index-args-argument.result c.index-args-argument.is (sym c.if-branch.false ∙ c.in_ok-may_be_variable.ensures)
