use Rattle.std.proofs.Common.{◌||◌, ap, ◌∙◌, arith}
use Rattle.plai_arcs.specs.Arcs.{is_dirty}
use Rattle.plai_repair.proofs.Gains.{below_more, below_all}
use Rattle.plai_repair.proofs.gaining.mark_gained.Goals as goal

pub loop-row-preserved : goal.loop-row-preserved
loop-row-preserved g c = record {
  marked = λ r k. below_more c.args.before.now c.args.after.now c.args.table.now.rows c.loop-row.row r k _ _ _
      (c.in_ok-mark_gained_of.ensures.dirty r k) (c.loop-row.invariant.marked r k);
  same = λ r k q. c.in_ok-mark_gained_of.ensures.calls r k q ∙ c.loop-row.invariant.same r k q;
}

pub returns-clause-dirty : goal.returns-clause-dirty
returns-clause-dirty g c =
    λ r k. c.loop-row.invariant.marked r k ∙ ap (λ t. t || is_dirty c.args.arcs.now r k)
    (below_all c.args.before.now c.args.after.now c.args.table.now.rows c.loop-row.row r k
    (omega (arith, c.loop-row-test.false, c.len-row-end.ensures.len)))
