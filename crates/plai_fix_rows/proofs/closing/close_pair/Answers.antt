use Rattle.std.proofs.Common.{◌≡◌, ℕ, suc, ◌-◌, nat_eq, subst, arith}
use Rattle.std.specs.List.{list_any}
use Rattle.plai_arcs.specs.Arcs.{is_dirty}
use Rattle.plai_fix_laws.specs.WorkStates.{no_pair, with_pair}
use Rattle.plai_fix_rows.specs.Solving.{IsAtWaking}
use Rattle.plai_fix_rows.specs.Tables.{state_of}
use Rattle.plai_fix_rows.proofs.Parts.{ok_more}
use Rattle.plai_fix_rows.proofs.Closes.{closes_free, closes_marked}
use Rattle.plai_fix_rows.proofs.closing.close_pair.Goals as goal

pub returns-then-full-clause-closed : goal.returns-then-full-clause-closed
returns-then-full-clause-closed g c =
    let p = g.D.Domain.plain c.args.task.now.domain.now in
    let value_of = g.D.Domain.value_of in
    let laws = g.met.D.Domain.lawful c.args.task.now.domain.now in
    let rows = c.args.table.now.rows in
    let one = c.requires.number in
    let same : suc (c.args.number - 1) ≡ c.args.number = omega arith in
    ok_more _ _ c.mark_dirty.result c.mark_dirty.ensures.ok
    (λ marks begun told cost called placing.
    subst (λ (z : ℕ). IsAtWaking p c.args.task.now.program.now c.args.task.now.limit begun told cost (state_of value_of p rows c.set_pair_calls.new.arcs)
    (with_pair c.args.row z no_pair) (is_dirty c.mark_dirty.new.self)) same
    (closes_marked p laws c.args.task.now.program.now c.requires.well_formed c.args.task.now.limit begun told cost (state_of value_of p rows c.args.arcs.now)
    (is_dirty c.args.unmet.now) c.args.row (c.args.number - 1)
    called (λ j. list_any (nat_eq j) c.args.rows.now) c.args.full placing (state_of value_of p rows c.set_pair_calls.new.arcs) c.in_ok-set_pair_calls.ensures
    c.if-full.true c.args.number (omega arith)
    (is_dirty c.mark_dirty.new.self) marks))

pub returns-clause-closed : goal.returns-clause-closed
returns-clause-closed g c =
    let p = g.D.Domain.plain c.args.task.now.domain.now in
    let value_of = g.D.Domain.value_of in
    let laws = g.met.D.Domain.lawful c.args.task.now.domain.now in
    let rows = c.args.table.now.rows in
    let one = c.requires.number in
    let same : suc (c.args.number - 1) ≡ c.args.number = omega arith in
    λ begun told cost called placing.
    subst (λ (z : ℕ). IsAtWaking p c.args.task.now.program.now c.args.task.now.limit begun told cost (state_of value_of p rows c.set_pair_calls.new.arcs)
    (with_pair c.args.row z no_pair) (is_dirty c.args.unmet.now)) same
    (closes_free p laws c.args.task.now.program.now c.requires.well_formed c.args.task.now.limit begun told cost (state_of value_of p rows c.args.arcs.now)
    (is_dirty c.args.unmet.now) c.args.row (c.args.number - 1)
    called (λ j. list_any (nat_eq j) c.args.rows.now) c.args.full placing (state_of value_of p rows c.set_pair_calls.new.arcs) c.in_ok-set_pair_calls.ensures
    c.if-full.false)
