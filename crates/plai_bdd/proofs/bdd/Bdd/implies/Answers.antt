use Rattle.std.proofs.Common.{arith, subst, ◌∙◌}
use Rattle.plai_bdd.specs.Nodes.{IsCanonical}
use Rattle.plai_bdd.proofs.Models.{implies_models}
use Rattle.plai_bdd.proofs.Same.{roots_decide}
use Rattle.plai_bdd.proofs.Functions.{some_of, kept_source}
use Rattle.plai_bdd.proofs.bdd.Bdd.implies.Goals as goal

pub overflow_sub-roots : goal.overflow_sub-roots
overflow_sub-roots c = let h = some_of _ _ c.self.invariant c.as_slice-left.ensures.value in omega arith

pub overflow_sub-roots-2 : goal.overflow_sub-roots-2
overflow_sub-roots-2 c = let h = some_of _ _ c.other.invariant c.as_slice-right.ensures.value in omega arith

pub implies_at-requires-clause-left_is : goal.implies_at-requires-clause-left_is
implies_at-requires-clause-left_is c = kept_source _ _ _ c.self.invariant c.self.view_is c.as_slice-left.ensures.value

pub implies_at-requires-clause-right_is : goal.implies_at-requires-clause-right_is
implies_at-requires-clause-right_is c = kept_source _ _ _ c.other.invariant c.other.view_is c.as_slice-right.ensures.value

pub returns-clause-models : goal.returns-clause-models
returns-clause-models c bound over_left over_right =
    implies_models c.args.self.now c.args.other.now bound (subst IsCanonical c.self.view_is c.self.invariant)
    (subst IsCanonical c.other.view_is c.other.invariant) over_left over_right c.implies_at.result
    (roots_decide c.implies_at.result _ _ c.args.self.now c.args.other.now (c.as_slice-left.ensures.value ∙ c.self.view_is)
    (c.as_slice-right.ensures.value ∙ c.other.view_is) c.implies_at.ensures)

pub returns-clause-function : goal.returns-clause-function
returns-clause-function c =
    roots_decide c.implies_at.result _ _ c.args.self.now c.args.other.now (c.as_slice-left.ensures.value ∙ c.self.view_is)
    (c.as_slice-right.ensures.value ∙ c.other.view_is) c.implies_at.ensures
