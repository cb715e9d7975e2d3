use Rattle.std.proofs.Common.{◌≡◌, ◌∙◌, [], ◌∷◌, List, None, ap, sym}
use Rattle.std.specs.Map.{lookup, set_value}
use Rattle.std.proofs.lemmas.Result.{on_ok_weaker}
use Rattle.plai_terms.specs.declared.pred_key.PredKey.{PredKey}
use Rattle.plai_clauses.specs.Program.{same_pred}
use Rattle.plai_assert.specs.declared.row.Row.{Row}
use Rattle.plai_assert.specs.Groups.{group_of}
use Rattle.plai_assert.proofs.Grouping.{found, absent}
use Rattle.plai_assert.proofs.groups.push_row.Goals as goal

pub returns-in-Some : goal.returns-in-Some
returns-in-Some g c =
    let es = c.args.groups.now.entries in
    let row = c.args.row.now in
    let k : PredKey = row.name.now.pred in
    on_ok_weaker c.push.result
    (λ f pred. ap (λ (m : List (PredKey × List (Row g.row.V.Denot))). group_of m pred) (c.get_mut.follows.holds c.push.new.self).0
    ∙ ap (λ (rows : List (Row g.row.V.Denot)). group_of (set_value (same_pred k) es rows) pred) f
    ∙ found es k row c.in-Some.rows.now (sym c.in-Some.ensures.value) pred)
    c.push.ensures

pub returns-in-None : goal.returns-in-None
returns-in-None g c =
    let es = c.args.groups.now.entries in
    let row = c.args.row.now in
    let k : PredKey = row.name.now.pred in
    let f = rw c.get_mut.follows.holds-at-none at c.push_first.ensures in
    let none : lookup (same_pred k) es ≡ None = sym c.in-None.ensures.value in
    on_ok_weaker c.push_first.result (λ h pred. ap (λ (m : List (PredKey × List (Row g.row.V.Denot))). group_of m pred) h ∙ absent es k row none pred) f
