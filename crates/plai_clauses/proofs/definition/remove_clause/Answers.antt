use Rattle.std.proofs.Common.{◌≡◌, ◌∙◌, None, [], ◌<◌, List, ap, sym, subst, length}
use Rattle.std.specs.List.{remove}
use Rattle.std.specs.Map.{lookup, set_value}
use Rattle.std.specs.Prelude.{unwrap_or}
use Rattle.std.proofs.lemmas.Result.{on_ok_weaker, on_err_weaker}
use Rattle.std.proofs.lemmas.Map.Steps.{set_value_same}
use Rattle.plai_clauses.specs.declared.clause.Clause.{Clause}
use Rattle.plai_clauses.specs.Program.{same_pred}
use Rattle.plai_clauses.specs.Keyed.{definitions_in}
use Rattle.plai_clauses.proofs.Keyed.{found_clauses, set_changed, not_changed}
use Rattle.plai_clauses.proofs.definition.remove_clause.Goals as goal

pub remove-requires : goal.remove-requires
remove-requires c =
    let es = c.args.definitions.now.entries in
    subst (λ (cs : List Clause). c.args.number < length cs)
    (found_clauses es c.args.pred.now ∙ ap (λ o. unwrap_or o []) (sym c.in-Some.ensures.value)) c.requires

pub returns-in-Some-clause-ok : goal.returns-in-Some-clause-ok
returns-in-Some-clause-ok c =
    let es = c.args.definitions.now.entries in
    let w = c.remove.new.self in
    on_ok_weaker c.remove.result
    (λ f. ap definitions_in (c.get_mut.follows.holds w).0 ∙ ap (λ (cs : List Clause). definitions_in (set_value (same_pred c.args.pred.now) es cs)) f
    ∙ set_changed (λ cs. remove cs c.args.number) es c.args.pred.now c.in-Some.clauses.now (sym c.in-Some.ensures.value))
    c.remove.ensures.ok

pub returns-in-Some-clause-err : goal.returns-in-Some-clause-err
returns-in-Some-clause-err c =
    let es = c.args.definitions.now.entries in
    let w = c.remove.new.self in
    on_err_weaker c.remove.result
    (λ f. (c.get_mut.follows.holds w).0 ∙ ap (λ (cs : List Clause). set_value (same_pred c.args.pred.now) es cs) f
    ∙ set_value_same (same_pred c.args.pred.now) es c.in-Some.clauses.now (sym c.in-Some.ensures.value))
    c.remove.ensures.err

pub returns-in-None-clause-ok : goal.returns-in-None-clause-ok
returns-in-None-clause-ok c =
    let es = c.args.definitions.now.entries in
    let none : lookup (same_pred c.args.pred.now) es ≡ None = sym c.in-None.ensures.value in
    rw c.get_mut.follows.holds-at-none (not_changed (λ cs. remove cs c.args.number) es c.args.pred.now none)
