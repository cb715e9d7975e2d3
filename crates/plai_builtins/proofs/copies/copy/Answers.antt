use Rattle.std.proofs.Common.{◌≡◌, ◌∙◌, ◌≤◌, length, nat_eq, sym, ap, subst, arith}
use Rattle.std.specs.List.{IsDistinct}
use Rattle.plai_builtins.specs.Copies.{occurrences, variables_of}
use Rattle.plai_builtins.proofs.Variables.{once_distinct, few_variables}
use Rattle.plai_builtins.proofs.copies.copy.Goals as goal

pub renaming-requires-clause-distinct : goal.renaming-requires-clause-distinct
renaming-requires-clause-distinct c =
    subst (λ us. IsDistinct nat_eq us) (sym (c.deref.ensures.value ∙ c.in_ok-found.ensures)) (once_distinct (occurrences c.args.term.now))

pub renaming-requires-clause-few : goal.renaming-requires-clause-few
renaming-requires-clause-few c =
    let few : length (variables_of c.args.term.now) ≤ c.args.first = few_variables c.args.term.now c.args.first c.requires.below in
    let same : length c.deref.result.now ≡ length (variables_of c.args.term.now) = ap length (c.deref.ensures.value ∙ c.in_ok-found.ensures) in
    omega arith
