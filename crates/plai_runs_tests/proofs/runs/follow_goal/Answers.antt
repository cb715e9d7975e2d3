use Rattle.std.proofs.Common.{sym, ap, ◌∙◌}
use Rattle.plai_terms.specs.Term.{occurs}
use Rattle.plai_terms.specs.Substitution.{occurs_in}
use Rattle.plai_terms.proofs.Under.{occurs-args}
use Rattle.plai_runs_tests.proofs.runs.follow_goal.Goals as goal

pub follow_all-requires-clause-below : goal.follow_all-requires-clause-below
follow_all-requires-clause-below c v o =
    c.in_ok-has_variables_below.ensures.below c.if-not-branch.false v
    (ap (occurs v) c.in-Compound.is ∙ occurs-args v c.in-Compound.name c.in-Compound.args ∙ ap (occurs_in v) (sym c.as_slice-args.ensures.items) ∙ o)
