use Rattle.std.proofs.Common.{◌≡◌, false, length, slice_get, Some, ap, subst, ◌∙◌, arith}
use Rattle.plai_fix_rows.specs.Tables.{kept_rows}
use Rattle.plai_fix_rows.proofs.EntryMarks.{entry_kept, entry_length, cleared_more, cleared_all}
use Rattle.plai_fix_rows.proofs.entries.clear_marks.Goals as goal

pub loop-row-preserved : goal.loop-row-preserved
loop-row-preserved g c =
    let p = g.D.Domain.plain c.args._domain.now in
    let value_of = g.D.Domain.value_of in
    let rows = c.loop-row.table.rows in
    record {
      same = ap (kept_rows value_of p) c.set_entry.ensures.rows ∙ entry_kept _ value_of p rows c.loop-row.row false ∙ c.loop-row.invariant.same;
      length = ap length c.set_entry.ensures.rows ∙ entry_length _ value_of p rows c.loop-row.row false ∙ c.loop-row.invariant.length;
      cleared = λ m r l e. cleared_more _ value_of p rows c.loop-row.row c.loop-row.invariant.cleared m r l
          (subst (λ rs. slice_get rs m ≡ Some r) c.set_entry.ensures.rows e);
    }

pub returns-clause-marked : goal.returns-clause-marked
returns-clause-marked g c =
    let p = g.D.Domain.plain c.args._domain.now in
    let value_of = g.D.Domain.value_of in
    let long = c.loop-row.invariant.length in
    let within : c.loop-row.row ≡ length c.loop-row.table.rows = omega (arith, c.loop-row-test.false, c.loop-row.auto.row-end) in
    cleared_all _ value_of p c.loop-row.table.rows c.loop-row.row within c.loop-row.invariant.cleared
