use Rattle.std.proofs.Common.{◌∙◌, [], ap, sym}
use Rattle.std.specs.Prelude.{unwrap_or}
use Rattle.plai_clauses.proofs.Keyed.{found_clauses}
use Rattle.plai_clauses.proofs.definition.clauses_in.Goals as goal

pub returns-in-Some : goal.returns-in-Some
returns-in-Some c =
    c.as_slice.ensures ∙ ap (λ o. unwrap_or o []) c.in-Some.ensures.value ∙ sym (found_clauses c.args.definitions.now.entries c.args.pred.now)

pub returns-in-None : goal.returns-in-None
returns-in-None c = ap (λ o. unwrap_or o []) c.in-None.ensures.value ∙ sym (found_clauses c.args.definitions.now.entries c.args.pred.now)
