use Rattle.std.proofs.Common.{◌≡◌, ◌<◌, length, ℕ, subst, sym, arith}
use Rattle.plai_theory.specs.Words.{IsIn}
use Rattle.plai_arcs.specs.Arcs.{is_call}
use Rattle.plai_repair.specs.Gathering.{IsRowOf, Spreads}
use Rattle.plai_repair.proofs.Members.{item_read, place_within}
use Rattle.plai_repair.proofs.Gathered.{row_calls, call_rows}
use Rattle.plai_repair.proofs.Spread.{spreads_first, spreads_more, few}
use Rattle.plai_repair.proofs.gathering.spread.Goals as goal

pub loop-index-init : goal.loop-index-init
loop-index-init c = record { within = omega arith; spreads = spreads_first (is_call c.args.arcs.now) _ _ c.requires.marked }

pub gather_callers-requires-clause-there : goal.gather_callers-requires-clause-there
gather_callers-requires-clause-there c =
    λ j e. let (k, t) = row_calls (λ r k. is_call c.args.arcs.now r k c.index-row.result.now) c.callers.result.now c.callers.ensures j e in
    subst (λ (n : ℕ). j < n) (sym c.loop-index.invariant.spreads.long) (c.requires.within j k c.index-row.result.now t)

pub gather_callers-requires-clause-marked : goal.gather_callers-requires-clause-marked
gather_callers-requires-clause-marked c = c.loop-index.invariant.spreads.marked

pub loop-index-preserved : goal.loop-index-preserved
loop-index-preserved c =
    let rows = c.loop-index.gathered.rows.items in
    let row = c.index-row.result.now in
    let at = item_read rows c.loop-index.index row (omega (arith, c.loop-index-test.true, c.len.ensures)) c.index-row.ensures in
    let h = place_within c.gather_callers.new.gathered.rows.items c.loop-index.index row (c.in_ok-gather_callers.ensures.keeps c.loop-index.index row at) in
    let calls = λ (r k : ℕ). is_call c.args.arcs.now r k row in
    record {
      within = omega (arith, h);
      spreads =
          spreads_more (is_call c.args.arcs.now) c.loop-index.index row (IsRowOf c.callers.result.now (length c.callers.result.now))
          c.loop-index.invariant.spreads at c.in_ok-gather_callers.ensures
          (λ j e. row_calls calls c.callers.result.now c.callers.ensures j e)
          (λ j k t. call_rows calls c.callers.result.now c.callers.ensures j k t);
    }

pub loop-index-smaller : goal.loop-index-smaller
loop-index-smaller c =
    let f = few c.loop-index.gathered.marks.items c.loop-index.gathered.rows.items c.loop-index.invariant.spreads.marked in
    let l = c.loop-index.invariant.spreads.long in omega (arith, f, l, c.loop-index-test.true, c.len.ensures)

pub returns : goal.returns
returns c =
    let e : c.loop-index.index ≡ length c.loop-index.gathered.rows.items = omega
    (arith, c.loop-index.invariant.within, c.loop-index-test.false, c.len.ensures) in
    subst
    (λ (n : ℕ). Spreads (λ j. IsIn j c.args.gathered.now.rows.items) (is_call c.args.arcs.now) (length c.args.gathered.now.marks.items) n
    c.loop-index.gathered.marks.items c.loop-index.gathered.rows.items) e c.loop-index.invariant.spreads
