use Rattle.std.proofs.Common.{◌∙◌, Option, IfSome, subst}
use Rattle.plai_analysis.specs.declared.analysed.Analysed.{Analysed}
use Rattle.plai_session.specs.Sessions.{IsTableOf}
use Rattle.plai_session.proofs.Rows.{verdicts_behind}
use Rattle.plai_session.proofs.session.Session.verdicts.Goals as goal

pub returns-in_ok-verdicts-in-Some-clause-said : goal.returns-in_ok-verdicts-in-Some-clause-said
returns-in_ok-verdicts-in-Some-clause-said g c =
    let s = c.self.inside in
    let p = g.D.Domain.plain s.domain in
    let own : IsTableOf p s.limit s.program c.in-Some.analysed.texts = subst
    (λ (o : Option (Analysed g.row.D-Value.Denot)). IfSome o (λ a. IsTableOf p s.limit s.program a.texts)) c.in-Some.is c.self.invariant.own in
    rw (← c.self.view_is)
    (λ rows least. c.in_ok-verdicts-in-Some.ensures.items ∙ c.as_slice.ensures
    ∙ verdicts_behind p s.limit s.program c.in-Some.analysed.texts own.least rows least)
