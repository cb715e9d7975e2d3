use Rattle.std.proofs.Common.{sym, arith}
use Rattle.plai_terms.specs.Shape.{entry}
use Rattle.plai_terms.proofs.Tables.{depends_none, depends_next, depends_from}
use Rattle.plai_terms.proofs.shape.depends.Goals as goal

pub loop-m-init : goal.loop-m-init
loop-m-init c = depends_none (entry c.args.flags.now c.args.first c.args.step)

pub returns-then-differs : goal.returns-then-differs
returns-then-differs c =
    sym (depends_from c.args.half c.loop-m.m (entry c.args.flags.now c.args.first c.args.step) (omega arith) c.if-differs.ensures)

pub loop-m-preserved : goal.loop-m-preserved
loop-m-preserved c = depends_next c.loop-m.m (entry c.args.flags.now c.args.first c.args.step) c.loop-m.invariant c.if-differs.ensures
