use Rattle.plai_pos.specs.Values.{state_of}
use Rattle.plai_pos.proofs.Refined.{unified, grounded}
use Rattle.plai_pos.proofs.refine.refine.Goals as goal

pub returns-in_ok-agreed-in-Unify : goal.returns-in_ok-agreed-in-Unify
returns-in_ok-agreed-in-Unify c = unified c.args.state.now.arity c.args.state.now.variables c.args.args.now _ c.args.action.now
    (state_of c.in_ok-agreed-in-Unify.field-0) c.in-Unify.left c.in-Unify.right c.in-Unify.is c.in_ok-agreed-in-Unify.ensures

pub returns-in_ok-satisfied-in-Ground : goal.returns-in_ok-satisfied-in-Ground
returns-in_ok-satisfied-in-Ground c = grounded c.args.state.now.arity c.args.state.now.variables c.args.args.now _ c.args.action.now
    (state_of c.in_ok-satisfied-in-Ground.field-0) c.in-Ground.argument c.in-Ground.is c.in_ok-satisfied-in-Ground.ensures
