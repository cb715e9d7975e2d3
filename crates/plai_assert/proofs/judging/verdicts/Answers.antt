use Rattle.std.proofs.Common.{◌≡◌, ◌∙◌, List, map, sym, ap, subst}
use Rattle.plai_theory.specs.Words.{IsIn}
use Rattle.plai_clauses.specs.declared.check.Check.{Check}
use Rattle.plai_assert.specs.Groups.{verdict_among}
use Rattle.plai_assert.proofs.Grouping.{group_fits}
use Rattle.plai_assert.proofs.Tested.{verdicts_found}
use Rattle.plai_assert.proofs.judging.verdicts.Goals as goal

pub all_verdicts-requires-clause-rows : goal.all_verdicts-requires-clause-rows
all_verdicts-requires-clause-rows g c = λ check i.
    group_fits g.D.Domain.value_of (g.D.Domain.plain c.args.domain.now) c.in_ok-groups.groups.entries c.args.rows.now c.in_ok-groups.ensures
    c.requires check.pred

pub all_verdicts-requires-clause-checks : goal.all_verdicts-requires-clause-checks
all_verdicts-requires-clause-checks g c = λ check i.
    c.is_program.ensures.well_formed.checks check (subst (IsIn check) c.checks.ensures i)

pub returns : goal.returns
returns g c =
    let value_of = g.D.Domain.value_of in
    let p = g.D.Domain.plain c.args.domain.now in
    c.in_ok-found.ensures
    ∙ ap (λ (checks : List Check). map (verdict_among value_of p c.in_ok-groups.groups.entries) checks) c.checks.ensures
    ∙ verdicts_found value_of p c.in_ok-groups.groups.entries c.args.rows.now c.in_ok-groups.ensures c.args.program.now.checks
