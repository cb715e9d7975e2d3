use Rattle.std.proofs.Common.{refl, arith}
use Rattle.plai_script.specs.Edits.{edited}
use Rattle.plai_session.specs.Sessions.{kept_program}
use Rattle.plai_top.specs.Working.{between}
use Rattle.plai_top.proofs.Answering.{edit_shown, item_block, cut_block, refused_written}
use Rattle.plai_top.proofs.blocks.write_item.Goals as goal

pub returns-in-Ok-edit-clause-block : goal.returns-in-Ok-edit-clause-block
returns-in-Ok-edit-clause-block g c =
    let old = c.args.session.now in
    let told = c.in-Ok-edit.ensures in
    let span = between (g.W.Work.entries c.args.work.now) (g.W.Work.entries c.edit.new.work) c.args.steps.now c.edit.new.steps in
    rw c.in-Ok.is (item_block c.args.form g.D.Domain.plain old c.edit.new.self c.args.number c.in-Ok-edit.answer span (g.K.Sink.taken c.args.sink.now)
    (g.K.Sink.taken c.write_answer.new.sink) c.write_answer.result
    (edited old.program c.in-Ok.edit) told.answer
    (record { done = told.work; idle = λ refused. record { nothing = told.noted refused; none = omega (arith, told.steps refused) } })
    c.write_answer.ensures.block)

pub returns-in-Ok-edit-clause-keeps : goal.returns-in-Ok-edit-clause-keeps
returns-in-Ok-edit-clause-keeps g c =
    let old = c.args.session.now in
    rw c.in-Ok.is (edit_shown (g.D.Domain.plain old.domain) old c.edit.new.self c.in-Ok-edit.answer (edited old.program c.in-Ok.edit)
    c.in-Ok-edit.ensures.answer c.write_answer.result c.write_answer.ensures.shows)

pub returns-in-Err-edit-clause-block : goal.returns-in-Err-edit-clause-block
returns-in-Err-edit-clause-block g c =
    let old = c.args.session.now in
    let span = between (g.W.Work.entries c.args.work.now) (g.W.Work.entries c.edit.new.work) c.args.steps.now c.edit.new.steps in
    rw c.in-Ok.is (cut_block c.args.form (g.D.Domain.plain old.domain) old.limit (kept_program old) c.args.number span (edited old.program c.in-Ok.edit)
    (g.K.Sink.taken c.args.sink.now) c.in-Err-edit.ensures.cut_off)

pub returns-in-Err-clause-block : goal.returns-in-Err-clause-block
returns-in-Err-clause-block g c =
    let old = c.args.session.now in
    let span = between (g.W.Work.entries c.args.work.now) (g.W.Work.entries c.args.work.now) c.args.steps.now c.args.steps.now in
    rw c.in-Err.is (refused_written c.args.form (g.D.Domain.plain old.domain) old.limit (kept_program old) c.args.number span (record { nothing = refl; none = omega arith })
    (g.K.Sink.taken c.args.sink.now) (g.K.Sink.taken c.write_refused.new.sink) c.in-Err.cause c.write_refused.result c.write_refused.ensures.block)
