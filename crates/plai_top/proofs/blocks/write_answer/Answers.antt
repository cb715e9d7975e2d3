use Rattle.plai_top.proofs.Answering.{answer_unwritten}
use Rattle.plai_top.proofs.blocks.write_answer.Goals as goal

pub returns-clause-block : goal.returns-clause-block
returns-clause-block g c = λ was given span is.
    let own = c.args.session.now in
    answer_unwritten (g.D.Domain.plain own.domain) own.limit was c.args.number own.program own.table span c.args.form c.args.answer.now given
    (g.K.Sink.taken c.args.sink.now) is
