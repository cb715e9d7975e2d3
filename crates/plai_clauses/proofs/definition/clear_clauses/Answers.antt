use Rattle.std.proofs.Common.{◌≡◌, ◌∙◌, None, [], List, ap, sym}
use Rattle.std.specs.Map.{lookup, set_value}
use Rattle.plai_clauses.specs.declared.clause.Clause.{Clause}
use Rattle.plai_clauses.specs.Program.{same_pred}
use Rattle.plai_clauses.specs.Keyed.{definitions_in}
use Rattle.plai_clauses.proofs.Keyed.{set_changed, not_changed}
use Rattle.plai_clauses.proofs.definition.clear_clauses.Goals as goal

pub returns-in-Some : goal.returns-in-Some
returns-in-Some c =
    let es = c.args.definitions.now.entries in
    let w = c.clear.new.self in
    ap definitions_in (c.get_mut.follows.holds w).0 ∙ ap (λ (cs : List Clause). definitions_in (set_value (same_pred c.args.pred.now) es cs)) c.clear.ensures
    ∙ set_changed (λ _. []) es c.args.pred.now c.in-Some.clauses.now (sym c.in-Some.ensures.value)

pub returns-in-None : goal.returns-in-None
returns-in-None c =
    let es = c.args.definitions.now.entries in
    let none : lookup (same_pred c.args.pred.now) es ≡ None = sym c.in-None.ensures.value in
    rw c.get_mut.follows.holds-at-none (not_changed (λ _. []) es c.args.pred.now none)
