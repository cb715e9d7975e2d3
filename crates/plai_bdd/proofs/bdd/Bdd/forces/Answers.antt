use Rattle.std.proofs.Common.{arith, subst, ◌∙◌}
use Rattle.plai_bdd.specs.Nodes.{IsCanonical}
use Rattle.plai_bdd.proofs.Models.{forces_models}
use Rattle.plai_bdd.proofs.Same.{either_at, forces_decided}
use Rattle.plai_bdd.proofs.Functions.{some_of, kept_source}
use Rattle.plai_bdd.proofs.bdd.Bdd.forces.Goals as goal

pub overflow_sub-roots : goal.overflow_sub-roots
overflow_sub-roots c = let h = some_of _ _ c.self.invariant c.as_slice-left.ensures.value in omega arith

pub implies_at-requires-clause-left_is : goal.implies_at-requires-clause-left_is
implies_at-requires-clause-left_is c = kept_source _ _ _ c.self.invariant c.self.view_is c.as_slice-left.ensures.value

pub implies_at-requires-clause-right_is : goal.implies_at-requires-clause-right_is
implies_at-requires-clause-right_is c = (either_at c.args.a c.args.b _ _ _ _ c.requires.a_fits c.requires.b_fits c.min.ensures c.max.ensures
    c.either-right.ensures c.root_of_either.ensures).source

pub returns-clause-function : goal.returns-clause-function
returns-clause-function c =
    forces_decided c.implies_at.result c.args.self.now c.as_slice-left.result.now c.either-right.result c.root_of_either.result c.args.a c.args.b
    (c.as_slice-left.ensures.value ∙ c.self.view_is)
    (either_at c.args.a c.args.b _ _ _ _ c.requires.a_fits c.requires.b_fits c.min.ensures c.max.ensures c.either-right.ensures c.root_of_either.ensures)
    c.implies_at.ensures

pub returns-clause-models : goal.returns-clause-models
returns-clause-models c bound lt_a lt_b over =
    forces_models c.args.self.now bound c.args.a c.args.b (subst IsCanonical c.self.view_is c.self.invariant) lt_a lt_b over c.implies_at.result
    (forces_decided c.implies_at.result c.args.self.now c.as_slice-left.result.now c.either-right.result c.root_of_either.result c.args.a c.args.b
    (c.as_slice-left.ensures.value ∙ c.self.view_is)
    (either_at c.args.a c.args.b _ _ _ _ c.requires.a_fits c.requires.b_fits c.min.ensures c.max.ensures c.either-right.ensures c.root_of_either.ensures)
    c.implies_at.ensures)
