use Rattle.std.proofs.Common.{Ok, Err, ◌∙◌, ◌+◌, ap, arith}
use Rattle.plai_session.specs.Programs.{judged}
use Rattle.plai_session.specs.Sessions.{kept_program}
use Rattle.plai_top.specs.Working.{between}
use Rattle.plai_top.proofs.Items.{item_more, item_stops, items_end, block_for}
use Rattle.plai_top.proofs.Spans.{joined}
use Rattle.plai_top.proofs.blocks.write_items.Goals as goal

pub returns-in-Err-clause-blocks : goal.returns-in-Err-clause-blocks
returns-in-Err-clause-blocks g c = λ givens before begun counted wrote.
    let own = c.args.session in
    let at = c.loop-item in
    let now = g.K.Sink.taken at.sink in
    let next = g.K.Sink.taken c.write_item.new.sink in
    let told = g.W.Work.entries at.work in
    let then = g.W.Work.entries c.write_item.new.work in
    let later = c.write_item.new.steps in
    let last = between told then at.steps later in
    let plain = g.D.Domain.plain in
    item_stops c.args.form (plain own.domain) own.limit givens before now (between begun told counted at.steps) at.session.program c.args.items.now
    at.item-index
    c.item-item.result (kept_program at.session) at.number at.are_tables c.loop-item-test.true c.item-item.is (at.invariant.wrote givens before begun counted wrote)
    next last (between begun then counted later) c.in-Err.stop (joined begun told then counted at.steps later)
    (block_for c.args.form plain at.session.domain own.domain at.session.limit own.limit (kept_program at.session) at.number
    (judged at.session.program c.item-item.result) last now next
    (Err c.in-Err.stop) at.invariant.domain at.invariant.limit c.in-Err.ensures.block)

pub loop-item-preserved : goal.loop-item-preserved
loop-item-preserved g c =
    let own = c.args.session in
    let at = c.loop-item in
    let now = g.K.Sink.taken at.sink in
    let next = g.K.Sink.taken c.write_item.new.sink in
    let told = g.W.Work.entries at.work in
    let then = g.W.Work.entries c.write_item.new.work in
    let later = c.write_item.new.steps in
    let last = between told then at.steps later in
    let plain = g.D.Domain.plain in
    record {
      wrote = λ givens before begun counted wrote.
          rw c.both-are_tables.ensures
          (item_more c.args.form (plain own.domain) own.limit givens before now (between begun told counted at.steps) at.session.program c.args.items.now
          at.item-index c.item-item.result (kept_program at.session) at.number at.are_tables c.loop-item-test.true c.item-item.is (at.invariant.wrote givens before begun counted wrote)
          next last (between begun then counted later) c.in-Ok.shows_table c.write_item.new.session.program (joined begun told then counted at.steps later)
          (block_for c.args.form plain at.session.domain own.domain at.session.limit own.limit (kept_program at.session) at.number
          (judged at.session.program c.item-item.result) last now
          next (Ok c.in-Ok.shows_table) at.invariant.domain at.invariant.limit c.in-Ok.ensures.block)
          c.in-Ok.ensures.program c.in-Ok.ensures.formed (kept_program c.write_item.new.session) c.in-Ok.ensures.keeps);
      domain = c.in-Ok.ensures.same.0 ∙ at.invariant.domain;
      limit = c.in-Ok.ensures.same.1 ∙ at.invariant.limit;
      count = ap (λ n. n + 1) at.invariant.count;
      later = omega (arith, c.in-Ok.ensures.later, at.invariant.later);
    }

pub returns-clause-blocks : goal.returns-clause-blocks
returns-clause-blocks g c = λ givens before begun counted wrote.
    let own = c.args.session in
    let at = c.loop-item in
    rw c.status.ensures
    (items_end c.args.form (g.D.Domain.plain own.domain) own.limit givens before (g.K.Sink.taken at.sink)
    (between begun (g.W.Work.entries at.work) counted at.steps) at.session.program c.args.items.now at.item-index (kept_program at.session)
    at.number at.are_tables
    (at.invariant.wrote givens before begun counted wrote) c.loop-item-test.false)
