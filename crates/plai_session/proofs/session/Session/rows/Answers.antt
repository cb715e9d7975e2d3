use Rattle.std.proofs.Common.{Option, IfSome, ap, subst}
use Rattle.plai_analysis.specs.declared.analysed.Analysed.{Analysed}
use Rattle.plai_analysis.specs.Kept.{IsKeptTable}
use Rattle.plai_session.specs.Sessions.{IsTableOf, texts_in}
use Rattle.plai_session.proofs.Rows.{rows_behind}
use Rattle.plai_session.proofs.session.Session.rows.Goals as goal

pub returns-in_ok-rows-in-Some : goal.returns-in_ok-rows-in-Some
returns-in_ok-rows-in-Some g c =
    let s = c.self.inside in
    let p = g.D.Domain.plain s.domain in
    let own : IsTableOf p s.limit s.program c.in-Some.analysed.texts = subst
    (λ (o : Option (Analysed g.row.D-Value.Denot)). IfSome o (λ a. IsTableOf p s.limit s.program a.texts)) c.in-Some.is c.self.invariant.own in
    rw (← c.self.view_is) (
      c.in-Some.analysed.texts,
      ap texts_in c.in-Some.is,
      rows_behind p s.limit s.program c.in-Some.analysed.texts own.least c.in_ok-rows-in-Some.rows.items c.in_ok-rows-in-Some.ensures,
    )

pub rows_of_table-requires : goal.rows_of_table-requires
rows_of_table-requires g c =
    let s = c.self.inside in
    let p = g.D.Domain.plain s.domain in
    let own : IsKeptTable g.D.Domain.value_of p s.program s.limit c.in-Some.analysed.table.rows c.in-Some.analysed.arcs = subst
    (λ (o : Option (Analysed g.row.D-Value.Denot)). IfSome o (λ a. IsKeptTable g.D.Domain.value_of p s.program s.limit a.table.rows a.arcs))
    c.in-Some.is c.self.invariant.worked in
    (c.in-Some.analysed.arcs, own)
