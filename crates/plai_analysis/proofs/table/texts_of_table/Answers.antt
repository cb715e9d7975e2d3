use Rattle.std.proofs.Common.{◌≡◌, ◌∙◌, List, sym, ap, subst, map}
use Rattle.plai_terms.specs.declared.plain_row.PlainRow.{PlainRow}
use Rattle.plai_assert.specs.Rows.{plain}
use Rattle.plai_assert.specs.Verdicts.{verdicts_of}
use Rattle.plai_render.specs.Texts.{AreTextsOf, AreTextsInOrder}
use Rattle.plai_render.specs.declared.text_table.TextTable.{TextTable}
use Rattle.plai_analysis.specs.Output.{plain_row}
use Rattle.plai_analysis.proofs.LeastRows.{text_table, are_fit}
use Rattle.plai_analysis.proofs.table.texts_of_table.Goals as goal

pub rows_of-requires : goal.rows_of-requires
rows_of-requires g c =
    are_fit g.D.Domain.value_of (g.D.Domain.plain c.args.domain.now) (g.met.D.Domain.lawful c.args.domain.now) (g.met.D.Domain.printed c.args.domain.now)
    c.args.program.now c.is_program.ensures.well_formed c.args._limit c.args.table.now.rows c.requires.0 c.requires.1

pub returns : goal.returns
returns g c =
    let p = g.D.Domain.plain c.args.domain.now in
    let value_of = g.D.Domain.value_of in
    let program = c.args.program.now in
    let plains = map (plain_row value_of) c.args.table.now.rows in
    let seen : map (plain value_of) c.in_ok-rows.rows.items ≡ plains = c.in_ok-rows.ensures.rows in
    let shown : map (plain value_of) c.as_slice.result.now ≡ plains = ap (map (plain value_of)) c.as_slice.ensures.value ∙ seen in
    let judged : map (plain value_of) c.as_slice-2.result.now ≡ plains = ap (map (plain value_of)) c.as_slice-2.ensures.value ∙ seen in
    let texts : AreTextsOf plains c.in_ok-texts.texts.items = subst
    (λ (l : List PlainRow). AreTextsOf l c.in_ok-texts.texts.items) shown c.in_ok-texts.ensures in
    let told : TextTable = record { rows = c.new.result; verdicts = c.new-2.result } in
    text_table value_of p (g.met.D.Domain.lawful c.args.domain.now) (g.met.D.Domain.printed c.args.domain.now) program c.is_program.ensures.well_formed
    c.args._limit c.args.table.now.rows c.requires.0 c.requires.1 told
    (subst (AreTextsInOrder plains) (sym c.new.ensures) (c.sort_texts.ensures.in_order plains texts))
    (λ sorted moved.
    c.new-2.ensures ∙ c.in_ok-found.ensures ∙ ap (λ (l : List PlainRow). verdicts_of p l program.checks) judged
    ∙ c.verdicts_need_no_order.ensures c.args.domain.now plains sorted program.checks moved)
