use Rattle.plai_bdd.proofs.Steps.{ok_then}
use Rattle.plai_bdd.proofs.Functions.{IsFunction-as}
use Rattle.plai_pos.proofs.Terms.{alone, none_below}
use Rattle.plai_pos.proofs.refine.truth.Goals as goal

pub with_variables-requires-clause-slots : goal.with_variables-requires-clause-slots
with_variables-requires-clause-slots c = none_below c.args.variables _ c.empty.ensures

pub returns : goal.returns
returns c = ok_then _ _ (λ b h. IsFunction-as (alone _ _ _ c.empty.ensures c.with_variables.ensures.truth) h) c.all_of.result c.all_of.ensures.function
