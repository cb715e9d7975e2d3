use Rattle.std.proofs.Common.{subst, ◌∙◌}
use Rattle.plai_bdd.specs.Nodes.{IsCanonical}
use Rattle.plai_bdd.proofs.Models.{same_models}
use Rattle.plai_bdd.proofs.Same.{lists_decided, functions_decided, same_function}
use Rattle.plai_bdd.proofs.bdd.BddPartialEq.eq.Goals as goal

pub returns-clause-lists : goal.returns-clause-lists
returns-clause-lists c =
    lists_decided c.eq.result c.args.self.now c.args.other.now c.as_slice.result.now c.as_slice-2.result.now c.eq.ensures
    (c.as_slice.ensures.value ∙ c.self.view_is) (c.as_slice-2.ensures.value ∙ c.other.view_is)

pub returns-clause-functions : goal.returns-clause-functions
returns-clause-functions c =
    functions_decided c.eq.result c.args.self.now c.args.other.now
    (lists_decided c.eq.result c.args.self.now c.args.other.now c.as_slice.result.now c.as_slice-2.result.now c.eq.ensures
    (c.as_slice.ensures.value ∙ c.self.view_is) (c.as_slice-2.ensures.value ∙ c.other.view_is))
    (subst IsCanonical c.self.view_is c.self.invariant) (subst IsCanonical c.other.view_is c.other.invariant)

pub returns-clause-equal_functions_have_equal_lists : goal.returns-clause-equal_functions_have_equal_lists
returns-clause-equal_functions_have_equal_lists c =
    same_function c.args.self.now c.args.other.now (subst IsCanonical c.self.view_is c.self.invariant) (subst IsCanonical c.other.view_is c.other.invariant)

pub returns-clause-models : goal.returns-clause-models
returns-clause-models c bound over_left over_right =
    same_models c.args.self.now c.args.other.now bound (subst IsCanonical c.self.view_is c.self.invariant)
    (subst IsCanonical c.other.view_is c.other.invariant) over_left over_right
