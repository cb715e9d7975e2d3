use Rattle.std.proofs.Common.{◌≡◌, ◌++◌, [], ◌∷◌, None, true, false, length, refl, sym, ap, ◌∙◌, rules}
use Rattle.plai_table.specs.declared.contents.Contents.{Contents}
use Rattle.plai_table.specs.Contents.{rows_in}
use Rattle.plai_table.specs.Rows.{TableView, new_row, live_count}
use Rattle.plai_table.proofs.RowLemmas.{added, live_added, length_in}
use Rattle.plai_table.proofs.table.Table.add.Goals as goal

pub invariant_of-self-2 : goal.invariant_of-self-2
invariant_of-self-2 g c =
    let w : Contents g.row.V.Denot = record { answer = None; live = true; entry = false } in
    let e : rows_in c.insert.new.self.entries ≡ c.args.self.now.rows ++ new_row c.args.name ∷ [] =
    added g.V.PartialEq.eq c.self.inside.rows c.args.self.now c.args.name w c.insert.new.self.entries c.self.view_is c.requires
    (search (rules, c.insert.ensures.entries)) in
    let n : c.self.inside.live ≡ live_count c.args.self.now.rows = c.self.invariant ∙ ap (λ (v : TableView g.row.V.Denot). live_count v.rows) c.self.view_is in
    live_added c.args.self.now.rows (rows_in c.insert.new.self.entries) (new_row c.args.name) c.self.inside.live refl e n

pub returns-clause-ok : goal.returns-clause-ok
returns-clause-ok g c =
    let w : Contents g.row.V.Denot = record { answer = None; live = true; entry = false } in
    let e : rows_in c.insert.new.self.entries ≡ c.args.self.now.rows ++ new_row c.args.name ∷ [] =
    added g.V.PartialEq.eq c.self.inside.rows c.args.self.now c.args.name w c.insert.new.self.entries c.self.view_is c.requires
    (search (rules, c.insert.ensures.entries)) in
    (c.len-row.ensures.len ∙ sym (length_in c.self.inside.rows.entries) ∙ ap (λ (v : TableView g.row.V.Denot). length v.rows) c.self.view_is, e)
