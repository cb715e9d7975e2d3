use Rattle.std.proofs.Common.{◌≡◌, ◌+◌, ◌-◌, ℕ, false, get_or, refl, sym, subst, arith}
use Rattle.plai_repair.specs.Removal.{Removes}
use Rattle.plai_repair.proofs.Removed.{removes_none, removes_next, removes_there}
use Rattle.plai_repair.proofs.removal.remove_rows.Goals as goal

pub loop-row-init : goal.loop-row-init
loop-row-init g c =
    let e = c.len-row.ensures.len in record {
      within = omega (arith, e);
      removes =
          subst (λ (n : ℕ). Removes c.args.marks.now n c.args.table.now.rows c.args.arcs.now c.args.table.now.rows c.args.arcs.now) (sym e)
          (removes_none c.args.marks.now c.args.table.now.rows c.args.arcs.now c.requires.dirty c.requires.callers c.requires.called);
    }

pub take_out_marked-requires : goal.take_out_marked-requires
take_out_marked-requires g c =
    let i = c.loop-row.row - 1 in
    let n : i + 1 ≡ c.loop-row.row = omega (arith, c.loop-row-test.true) in
    removes_there c.args.marks.now i c.args.table.now.rows c.loop-row.table.rows c.args.arcs.now c.loop-row.arcs
    (subst (λ (m : ℕ). Removes c.args.marks.now m c.args.table.now.rows c.args.arcs.now c.loop-row.table.rows c.loop-row.arcs) (sym n)
    c.loop-row.invariant.removes) (omega (arith, c.loop-row-test.true, c.loop-row.invariant.within))

pub loop-row-preserved : goal.loop-row-preserved
loop-row-preserved g c =
    let i = c.loop-row.row - 1 in
    let n : i + 1 ≡ c.loop-row.row = omega (arith, c.loop-row-test.true) in record {
      within = omega (arith, c.loop-row-test.true, c.loop-row.invariant.within);
      removes =
          removes_next c.args.marks.now i c.loop-row.row (get_or c.args.marks.now i false) c.args.table.now.rows c.loop-row.table.rows
          c.take_out_marked.new.table.rows c.args.arcs.now c.loop-row.arcs c.take_out_marked.new.arcs n c.loop-row.invariant.removes refl
          c.take_out_marked.ensures.taken c.take_out_marked.ensures.rows c.take_out_marked.ensures.dirty c.take_out_marked.ensures.calls;
    }
