use Rattle.std.proofs.Common.{sym, ap, ◌∙◌}
use Rattle.plai_terms.specs.Substitution.{occurs_in}
use Rattle.plai_terms.proofs.Preorder.{arguments_of-Compound}
use Rattle.plai_terms.proofs.Under.{occurs-args}
use Rattle.plai_run_times.proofs.run_of.Goals as goal

pub start-requires-clause-below : goal.start-requires-clause-below
start-requires-clause-below c v o =
    let args = c.arguments-args.ensures ∙ arguments_of-Compound c.in_ok-name-3.field-0 c.new.result in
    c.in_ok-has_variables_below.ensures.below c.if-not-branch.false v
    (occurs-args v c.in_ok-name-3.field-0 c.new.result ∙ ap (occurs_in v) (sym args) ∙ o)
