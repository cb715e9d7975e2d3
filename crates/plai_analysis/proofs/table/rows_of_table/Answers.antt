use Rattle.std.proofs.Common.{◌≡◌, ◌∙◌, All, List, sym, ap, subst, map}
use Rattle.std.specs.List.Sorted.{IsPermutation}
use Rattle.plai_terms.specs.declared.plain_row.PlainRow.{PlainRow}
use Rattle.plai_terms.specs.Rows.{AreInOrder}
use Rattle.plai_assert.specs.Rows.{plain}
use Rattle.plai_render.specs.Order.{AreApart, IsNarrow}
use Rattle.plai_analysis.specs.Output.{plain_row}
use Rattle.plai_analysis.proofs.LeastRows.{plain_table, rows_narrow, are_fit}
use Rattle.plai_analysis.proofs.table.rows_of_table.Goals as goal

pub rows_of-requires : goal.rows_of-requires
rows_of-requires g c =
    are_fit g.D.Domain.value_of (g.D.Domain.plain c.args.domain.now) (g.met.D.Domain.lawful c.args.domain.now) (g.met.D.Domain.printed c.args.domain.now)
    c.args.program.now c.is_program.ensures.well_formed c.args._limit c.args.table.now.rows c.requires.0 c.requires.1

pub sort_rows-requires : goal.sort_rows-requires
sort_rows-requires g c =
    let value_of = g.D.Domain.value_of in
    let seen : c.in_ok-patterns.patterns.items ≡ map (plain_row value_of) c.args.table.now.rows = c.in_ok-patterns.ensures
    ∙ ap (map (plain value_of)) c.as_slice.ensures.value ∙ c.in_ok-rows.ensures.rows in
    subst (All IsNarrow) (sym seen)
    (rows_narrow value_of (g.D.Domain.plain c.args.domain.now) (g.met.D.Domain.lawful c.args.domain.now) (g.met.D.Domain.printed c.args.domain.now)
    c.args.program.now c.is_program.ensures.well_formed c.args._limit c.args.table.now.rows c.requires.0 c.requires.1)

pub returns : goal.returns
returns g c =
    let value_of = g.D.Domain.value_of in
    let plains = map (plain_row value_of) c.args.table.now.rows in
    let seen : c.in_ok-patterns.patterns.items ≡ plains = c.in_ok-patterns.ensures
    ∙ ap (map (plain value_of)) c.as_slice.ensures.value ∙ c.in_ok-rows.ensures.rows in
    let sorted = c.sort_rows.new.rows.items in
    plain_table value_of (g.D.Domain.plain c.args.domain.now) (g.met.D.Domain.lawful c.args.domain.now) (g.met.D.Domain.printed c.args.domain.now)
    c.args.program.now c.is_program.ensures.well_formed c.args._limit c.args.table.now.rows c.requires.0 c.requires.1 sorted
    (subst (λ (l : List PlainRow). IsPermutation l sorted) seen c.sort_rows.ensures.permutation)
    (subst (λ (l : List PlainRow). AreApart l → AreInOrder sorted) seen c.in_ok-sort_rows.ensures.in_order)
