use Rattle.std.proofs.Common.{◌≡◌, ◌∙◌, [], ◌∷◌, List, None, ap, sym}
use Rattle.std.specs.Map.{lookup, set_value}
use Rattle.std.proofs.lemmas.Result.{on_ok_weaker, on_err_weaker}
use Rattle.std.proofs.lemmas.Map.Steps.{set_value_same}
use Rattle.plai_clauses.specs.declared.clause.Clause.{Clause}
use Rattle.plai_clauses.specs.Program.{same_pred}
use Rattle.plai_clauses.specs.Keyed.{definitions_in}
use Rattle.plai_clauses.proofs.Keyed.{with_found, with_absent}
use Rattle.plai_clauses.proofs.definition.push_clause.Goals as goal

pub returns-in-Some-clause-ok : goal.returns-in-Some-clause-ok
returns-in-Some-clause-ok c =
    let es = c.args.definitions.now.entries in
    let w = c.push.new.self in
    on_ok_weaker c.push.result
    (λ f. ap definitions_in (c.get_mut.follows.holds w).0 ∙ ap (λ (cs : List Clause). definitions_in (set_value (same_pred c.args.pred) es cs)) f
    ∙ with_found es c.args.pred c.args.clause c.in-Some.clauses.now (sym c.in-Some.ensures.value))
    c.push.ensures.ok

pub returns-in-Some-clause-err : goal.returns-in-Some-clause-err
returns-in-Some-clause-err c =
    let es = c.args.definitions.now.entries in
    let w = c.push.new.self in
    on_err_weaker c.push.result
    (λ f. (c.get_mut.follows.holds w).0 ∙ ap (λ (cs : List Clause). set_value (same_pred c.args.pred) es cs) f
    ∙ set_value_same (same_pred c.args.pred) es c.in-Some.clauses.now (sym c.in-Some.ensures.value))
    c.push.ensures.err

pub returns-in-None-clause-ok : goal.returns-in-None-clause-ok
returns-in-None-clause-ok c =
    let es = c.args.definitions.now.entries in
    let f = rw c.get_mut.follows.holds-at-none at c.push_new.ensures.ok in
    let none : lookup (same_pred c.args.pred) es ≡ None = sym c.in-None.ensures.value in
    on_ok_weaker c.push_new.result (λ h. ap definitions_in h ∙ with_absent es c.args.pred c.args.clause none) f
