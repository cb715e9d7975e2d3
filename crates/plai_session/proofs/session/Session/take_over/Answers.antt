use Rattle.std.proofs.Common.{◌-◌, refl, subst}
use Rattle.plai_session.specs.Work.{IsWorkOf, IsCutOff}
use Rattle.plai_session.proofs.Keeping.{kept_taken}
use Rattle.plai_session.proofs.session.Session.take_over.Goals as goal

pub returns-in-Ok-clause-answer : goal.returns-in-Ok-clause-answer
returns-in-Ok-clause-answer g c = rw (← c.self.view_is) (refl, refl, refl, rw (← c.self.view_is) at c.requires.found, c.in-Ok.ensures.answer)

pub returns-in-Ok-clause-work : goal.returns-in-Ok-clause-work
returns-in-Ok-clause-work g c =
    let s = c.self.inside in
    rw (← c.self.view_is)
    (subst
    (λ was. IsWorkOf (g.D.Domain.plain s.domain) s.limit was c.args.program c.args.number (g.W.Work.entries c.args.work.now)
    (g.W.Work.entries c.analyse_edit.new.work) (c.analyse_edit.new.steps - c.args.steps.now) c.in-Ok.field-0.answer)
    (kept_taken s.program c.take-kept.result s.analysed c.take-kept.ensures.value) c.in-Ok.ensures.work)

pub returns-in-Err-clause-cut_off : goal.returns-in-Err-clause-cut_off
returns-in-Err-clause-cut_off g c =
    let s = c.self.inside in
    rw (← c.self.view_is)
    (subst
    (λ was. IsCutOff (g.D.Domain.plain s.domain) s.limit was c.args.program c.args.number (g.W.Work.entries c.args.work.now)
    (g.W.Work.entries c.analyse_edit.new.work))
    (kept_taken s.program c.take-kept.result s.analysed c.take-kept.ensures.value) c.in-Err.ensures.cut_off)
