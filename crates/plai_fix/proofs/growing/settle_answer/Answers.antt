use Rattle.std.proofs.Common.{Some, refl, sym, subst, Bor}
use Rattle.std.specs.Option.{option_map, option_copied}
use Rattle.plai_table.specs.Rows.{TableRow}
use Rattle.plai_eval.specs.Meaning.{as_domain, as_program}
use Rattle.plai_fix_rows.specs.Tables.{kept_row, state_of}
use Rattle.plai_fix_rows.specs.Moves.{Shifts}
use Rattle.plai_fix.proofs.Evaluated.{copied_map}
use Rattle.plai_fix_laws.proofs.Extended.{extends_answers}
use Rattle.plai_fix_rows.proofs.Parts.{name_at}
use Rattle.plai_fix_rows.proofs.TableRows.{kept_at}
use Rattle.plai_fix.proofs.GrownPairs.{settles_told, grows_told, grown_shifts}
use Rattle.plai_fix.proofs.growing.settle_answer.Goals as goal

pub growth-requires : goal.growth-requires
growth-requires g c = λ a b e f. c.requires.alike _ a b c.row.ensures e f

pub returns-in-None-clause-settled : goal.returns-in-None-clause-settled
returns-in-None-clause-settled g c =
    let p = g.D.Domain.plain c.args.task.now.domain.now in
    let value_of = g.D.Domain.value_of in
    let rows = c.args.table.now.rows in
    let laws = g.met.D.Domain.lawful c.args.task.now.domain.now in
    let r : TableRow g.row.D-Value.Denot = record {
      name = c.row.result.name.now;
      answer = option_copied c.row.result.answer;
      live = c.row.result.live;
      entry = c.row.result.entry;
    } in
    λ begun cost unmet i called past. (
      settles_told p laws c.args.task.now.program.now c.requires.well_formed c.args.task.now.limit begun (g.W.Work.entries c.args.work.now) cost
          (state_of value_of p rows c.args.arcs.now) unmet c.args.row i
          called (option_map value_of c.args.answer) past (kept_row value_of p r) (kept_at _ value_of p rows c.args.row r c.row.ensures)
          (rw c.in-None.is at c.in_ok-growth.ensures.kept),
      (refl, refl, refl),
    )

pub returns-in_ok-grow_row-in-Some-clause-settled : goal.returns-in_ok-grow_row-in-Some-clause-settled
returns-in_ok-grow_row-in-Some-clause-settled g c =
    let p = g.D.Domain.plain c.args.task.now.domain.now in
    let value_of = g.D.Domain.value_of in
    let rows = c.args.table.now.rows in
    let laws = g.met.D.Domain.lawful c.args.task.now.domain.now in
    let r : TableRow g.row.D-Value.Denot = record {
      name = c.row.result.name.now;
      answer = option_copied c.row.result.answer;
      live = c.row.result.live;
      entry = c.row.result.entry;
    } in
    let grown = rw c.in-Some.is at c.in_ok-growth.ensures.grown in
    let old = state_of value_of p rows c.args.arcs.now in
    let new = state_of value_of p c.grow_row.new.table.rows c.grow_row.new.arcs in
    λ begun cost unmet i called past. (
      grows_told p laws c.args.task.now.program.now c.requires.well_formed c.args.task.now.limit begun
          (g.W.Work.entries c.args.work.now) cost old unmet c.args.row i
          called (option_map value_of c.args.answer) past (kept_row value_of p r) (kept_at _ value_of p rows c.args.row r c.row.ensures) new
          (value_of c.in-Some.value) grown.0 grown.1
          c.in_ok-grow_row-in-Some.ensures.answers (g.W.Work.entries c.grow_row.new.work)
          (c.in_ok-grow_row-in-Some.ensures.noted c.row.result.name.now (name_at rows c.args.row r c.row.ensures)),
      subst (Shifts (as_domain p) (as_program p c.args.task.now.program.now) c.args.task.now.limit (λ pred. p.rank) old new) (sym c.of_growth.ensures)
          (grown_shifts p laws c.args.task.now.program.now c.requires.well_formed c.args.task.now.limit begun
          (g.W.Work.entries c.args.work.now) cost old unmet c.args.row i
          called (option_map value_of c.args.answer) past (kept_row value_of p r) (kept_at _ value_of p rows c.args.row r c.row.ensures) new
          (value_of c.in-Some.value) grown.0 grown.1
          c.in_ok-grow_row-in-Some.ensures.answers (λ (b : Bor g.row.D-Value.Denot). value_of b.now) c.row.result.answer c.is_none-is_first.result
          c.is_none-is_first.ensures
          (sym (copied_map value_of c.row.result.answer))),
    )

pub returns-in_ok-grow_row-in-Some-clause-extends : goal.returns-in_ok-grow_row-in-Some-clause-extends
returns-in_ok-grow_row-in-Some-clause-extends g c =
    let p = g.D.Domain.plain c.args.task.now.domain.now in
    let value_of = g.D.Domain.value_of in
    extends_answers (as_domain p) (state_of value_of p c.args.table.now.rows c.args.arcs.now)
    (state_of value_of p c.grow_row.new.table.rows c.grow_row.new.arcs) c.args.row (Some (value_of c.in-Some.value))
    c.in_ok-grow_row-in-Some.ensures.answers
