use Rattle.std.proofs.Common.{◌≡◌, ◌∙◌, [], List, All, map, unwrap_or, sym, ap, subst}
use Rattle.plai_assert.specs.declared.row.Row.{Row}
use Rattle.plai_assert.specs.Groups.{group_of}
use Rattle.plai_assert.specs.Rows.{plain, IsRowOf}
use Rattle.plai_assert.specs.Verdicts.{verdict_of_kind}
use Rattle.plai_assert.proofs.Tested.{verdict_none}
use Rattle.plai_assert.proofs.judging.verdict_in.Goals as goal

pub verdict_at-requires-clause-rows : goal.verdict_at-requires-clause-rows
verdict_at-requires-clause-rows g c =
    let e : c.as_slice.result.now ≡ group_of c.args.groups.now.entries c.args.check.now.pred =
    c.as_slice.ensures ∙ ap (λ o. unwrap_or o []) c.in-Some.ensures.value in
    subst (λ (rows : List (Row g.row.D-Value.Denot)). All (IsRowOf g.D.Domain.value_of (g.D.Domain.plain c.args.domain.now) c.args.check.now.pred.arity) rows)
    (sym e) c.requires.rows

pub returns-in-Some : goal.returns-in-Some
returns-in-Some g c =
    let e : c.as_slice.result.now ≡ group_of c.args.groups.now.entries c.args.check.now.pred =
    c.as_slice.ensures ∙ ap (λ o. unwrap_or o []) c.in-Some.ensures.value in
    c.verdict_at.ensures
    ∙ ap (λ (rows : List (Row g.row.D-Value.Denot)). verdict_of_kind c.args.check.now.kind (g.D.Domain.plain c.args.domain.now) c.args.check.now
    (map (plain g.D.Domain.value_of) rows)) e

pub returns-in-None : goal.returns-in-None
returns-in-None g c =
    let p = g.D.Domain.plain c.args.domain.now in
    let e : [] ≡ group_of c.args.groups.now.entries c.args.check.now.pred = ap (λ o. unwrap_or o []) c.in-None.ensures.value in
    sym (verdict_none c.args.check.now.kind p c.args.check.now)
    ∙ ap (λ (rows : List (Row g.row.D-Value.Denot)). verdict_of_kind c.args.check.now.kind p c.args.check.now (map (plain g.D.Domain.value_of) rows)) e
