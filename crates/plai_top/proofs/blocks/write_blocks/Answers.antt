use Rattle.plai_session.specs.Programs.{behind}
use Rattle.plai_top.specs.Working.{between}
use Rattle.plai_top.proofs.Opened.{opened_blocks, opened_stops, none_opened}
use Rattle.plai_top.proofs.blocks.write_blocks.Goals as goal

pub returns-in-Ok-write_answer-clause-blocks : goal.returns-in-Ok-write_answer-clause-blocks
returns-in-Ok-write_answer-clause-blocks g c =
    let (own, most, has, kept) = c.in-Ok.ensures.begun in
    (opened_blocks c.args.form g.D.Domain.plain c.in-Ok.session c.in-Ok.answer c.args.items.now (g.K.Sink.taken c.args.sink.now)
    (g.K.Sink.taken c.write_answer.new.sink) (g.W.Work.entries c.args.work.now) (g.W.Work.entries c.open.new.work) c.args.steps.now c.open.new.steps
    c.args.domain c.args.limit c.args.program own most has c.in-Ok.ensures.answer c.in-Ok.ensures.work c.is_program.ensures.well_formed
    (g.K.Sink.taken c.write_items.new.sink) (g.W.Work.entries c.write_items.new.work) c.write_items.new.steps
    c.in-Ok-write_answer.is_table c.write_items.result c.in-Ok-write_answer.ensures.block c.in-Ok-write_answer.ensures.shows
    c.write_items.ensures.blocks).0

pub returns-in-Err-write_answer-clause-blocks : goal.returns-in-Err-write_answer-clause-blocks
returns-in-Err-write_answer-clause-blocks g c =
    let (own, most, has, kept) = c.in-Ok.ensures.begun in
    (opened_stops c.args.form g.D.Domain.plain c.in-Ok.session c.in-Ok.answer c.args.items.now (g.K.Sink.taken c.args.sink.now)
    (g.K.Sink.taken c.write_answer.new.sink) (g.W.Work.entries c.args.work.now) (g.W.Work.entries c.open.new.work) c.args.steps.now c.open.new.steps
    c.args.domain c.args.limit c.args.program own most has c.in-Ok.ensures.answer c.in-Ok.ensures.work c.in-Err-write_answer.stop
    c.in-Err-write_answer.ensures.block).0

pub returns-in-Err-clause-blocks : goal.returns-in-Err-clause-blocks
returns-in-Err-clause-blocks g c =
    (none_opened c.args.form (g.D.Domain.plain c.args.domain) c.args.limit c.args.program (behind c.args.program c.args.items.now)
    (g.K.Sink.taken c.args.sink.now)
    (between (g.W.Work.entries c.args.work.now) (g.W.Work.entries c.open.new.work) c.args.steps.now c.open.new.steps) c.in-Err.ensures.cut_off).0

pub returns-in-Ok-write_answer-clause-worked : goal.returns-in-Ok-write_answer-clause-worked
returns-in-Ok-write_answer-clause-worked g c =
    let (own, most, has, kept) = c.in-Ok.ensures.begun in
    (opened_blocks c.args.form g.D.Domain.plain c.in-Ok.session c.in-Ok.answer c.args.items.now (g.K.Sink.taken c.args.sink.now)
    (g.K.Sink.taken c.write_answer.new.sink) (g.W.Work.entries c.args.work.now) (g.W.Work.entries c.open.new.work) c.args.steps.now c.open.new.steps
    c.args.domain c.args.limit c.args.program own most has c.in-Ok.ensures.answer c.in-Ok.ensures.work c.is_program.ensures.well_formed
    (g.K.Sink.taken c.write_items.new.sink) (g.W.Work.entries c.write_items.new.work) c.write_items.new.steps
    c.in-Ok-write_answer.is_table c.write_items.result c.in-Ok-write_answer.ensures.block c.in-Ok-write_answer.ensures.shows
    c.write_items.ensures.blocks).1

pub returns-in-Err-write_answer-clause-worked : goal.returns-in-Err-write_answer-clause-worked
returns-in-Err-write_answer-clause-worked g c =
    let (own, most, has, kept) = c.in-Ok.ensures.begun in
    (opened_stops c.args.form g.D.Domain.plain c.in-Ok.session c.in-Ok.answer c.args.items.now (g.K.Sink.taken c.args.sink.now)
    (g.K.Sink.taken c.write_answer.new.sink) (g.W.Work.entries c.args.work.now) (g.W.Work.entries c.open.new.work) c.args.steps.now c.open.new.steps
    c.args.domain c.args.limit c.args.program own most has c.in-Ok.ensures.answer c.in-Ok.ensures.work c.in-Err-write_answer.stop
    c.in-Err-write_answer.ensures.block).1

pub returns-in-Err-clause-worked : goal.returns-in-Err-clause-worked
returns-in-Err-clause-worked g c =
    (none_opened c.args.form (g.D.Domain.plain c.args.domain) c.args.limit c.args.program (behind c.args.program c.args.items.now)
    (g.K.Sink.taken c.args.sink.now)
    (between (g.W.Work.entries c.args.work.now) (g.W.Work.entries c.open.new.work) c.args.steps.now c.open.new.steps) c.in-Err.ensures.cut_off).1
