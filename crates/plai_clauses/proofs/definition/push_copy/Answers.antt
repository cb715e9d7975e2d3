use Rattle.std.proofs.Common.{◌≡◌, ◌∙◌, ℕ, List, take, Some, ap, sym}
use Rattle.std.proofs.Math.Numerals.{add-one}
use Rattle.std.specs.Prelude.{option_map, slice_get}
use Rattle.std.specs.Map.Iter.{deref_pair}
use Rattle.indexmap.specs.IndexMap.{insert_entry}
use Rattle.plai_terms.specs.declared.pred_key.PredKey.{PredKey}
use Rattle.plai_clauses.specs.declared.clause.Clause.{Clause}
use Rattle.plai_clauses.specs.Program.{same_pred}
use Rattle.plai_clauses.proofs.Keyed.{copied}
use Rattle.plai_clauses.proofs.definition.push_copy.Goals as goal

pub returns : goal.returns
returns c =
    let es = c.args.definitions.now.entries in
    let pred = c.unwrap.result.0.now in
    let clauses = c.unwrap.result.1.now in
    let there : slice_get es c.args.place ≡ Some (pred, clauses) = sym c.get_index.ensures.entry ∙ ap (option_map deref_pair) c.unwrap.ensures in
    c.in_ok-insert.ensures.entries ∙ ap (λ (xs : List (PredKey × List Clause)). insert_entry same_pred xs c.in_ok-copy.field-0 c.in_ok-share.field-0)
    c.requires.first
    ∙ ap (λ (k : PredKey). insert_entry same_pred (take c.args.place es) k c.in_ok-share.field-0) c.in_ok-copy.ensures
    ∙ ap (λ (cs : List Clause). insert_entry same_pred (take c.args.place es) pred cs) c.in_ok-share.ensures
    ∙ copied es c.args.place pred clauses c.requires.unique there ∙ ap (λ (n : ℕ). take n es) (sym (add-one c.args.place))
