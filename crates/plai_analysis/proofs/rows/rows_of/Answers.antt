use Rattle.std.proofs.Common.{All, List, sym, subst}
use Rattle.std.proofs.lemmas.List.Elements.{All-push}
use Rattle.plai_assert.specs.declared.row.Row.{Row}
use Rattle.plai_analysis.specs.Output.{IsShown}
use Rattle.plai_analysis.proofs.Shown.{seen_more, shown_at}
use Rattle.plai_analysis.proofs.rows.rows_of.Goals as goal

pub loop-number-preserved : goal.loop-number-preserved
loop-number-preserved g c =
    let value_of = g.D.Domain.value_of in
    let p = g.D.Domain.plain c.args._domain.now in
    let number = c.loop-number.number in
    let row : Row g.row.D-Value.Denot = record { name = c.row-row.result.name; answer = c.row-row.result.answer } in
    record {
      rows = seen_more value_of p c.args.table.now.rows number row c.row-row.result.live c.row-row.result.entry
          c.loop-number.rows.items c.push.new.self.items c.row-row.ensures c.loop-number.invariant.rows c.in_ok-push.ensures.items;
      shown = subst (λ (rows : List (Row g.row.D-Value.Denot)). All (IsShown value_of p) rows) (sym c.in_ok-push.ensures.items)
          (All-push (IsShown value_of p) c.loop-number.rows.items row c.loop-number.invariant.shown
          (shown_at value_of p c.args.table.now.rows c.requires number row c.row-row.result.live c.row-row.result.entry c.row-row.ensures));
    }
