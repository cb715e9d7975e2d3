use Rattle.plai_pos.proofs.Terms.{var_added, var_within}
use Rattle.plai_pos.proofs.slots.+with_variables.Goals as goal

pub returns-in-Var-clause-below : goal.returns-in-Var-clause-below
returns-in-Var-clause-below t c = var_within _ _ c.args.variables c.in-Var.number _ c.in-Var.is c.requires.term c.insert.ensures c.requires.slots

pub returns-in-Var-clause-truth : goal.returns-in-Var-clause-truth
returns-in-Var-clause-truth t c = var_added _ _ c.args.variables c.in-Var.number _ c.in-Var.is c.requires.term c.requires.room c.insert.ensures
