use Rattle.std.proofs.Common.{◌≡◌, length, ℕ, true, false, get_or, subst, arith}
use Rattle.plai_theory.specs.Words.{IsIn}
use Rattle.plai_arcs.specs.Arcs.{is_call}
use Rattle.plai_repair.specs.Gathering.{Spreads, IsCalledTo, turned}
use Rattle.plai_repair.proofs.Members.{item_read, in_place, place_within}
use Rattle.plai_repair.proofs.Reaches.{marked_within, called_within}
use Rattle.plai_repair.proofs.Spread.{spreads_first, spreads_more, few}
use Rattle.plai_repair.proofs.reaching.spread_called.Goals as goal

pub loop-index-init : goal.loop-index-init
loop-index-init g c = record { within = omega arith; spreads = spreads_first (turned (is_call c.args.arcs.now)) _ _ c.requires.marked }

pub row-requires : goal.row-requires
row-requires g c =
    let rows = c.loop-index.gathered.rows.items in
    let row = c.index-row.result.now in
    let at = item_read rows c.loop-index.index row (omega (arith, c.loop-index-test.true, c.len.ensures)) c.index-row.ensures in
    let t : get_or c.loop-index.gathered.marks.items row false ≡ true = (c.loop-index.invariant.spreads.marked.agree row).1
    (in_place rows c.loop-index.index row at) in
    let h = marked_within c.loop-index.gathered.marks.items row t in
    omega (arith, h, c.loop-index.invariant.spreads.long, c.requires.long)

pub gather_called-requires-clause-there : goal.gather_called-requires-clause-there
gather_called-requires-clause-there g c =
    λ k j t. let h = c.requires.within.called c.index-row.result.now k j t in
    omega (arith, h, c.loop-index.invariant.spreads.long, c.requires.long)

pub gather_called-requires-clause-marked : goal.gather_called-requires-clause-marked
gather_called-requires-clause-marked g c = c.loop-index.invariant.spreads.marked

pub loop-index-preserved : goal.loop-index-preserved
loop-index-preserved g c =
    let rows = c.loop-index.gathered.rows.items in
    let row = c.index-row.result.now in
    let clauses = c.clauses_of-clauses.result.now in
    let at = item_read rows c.loop-index.index row (omega (arith, c.loop-index-test.true, c.len.ensures)) c.index-row.ensures in
    let h = place_within c.gather_called.new.gathered.rows.items c.loop-index.index row (c.in_ok-gather_called.ensures.keeps c.loop-index.index row at) in
    record {
      within = omega (arith, h);
      spreads =
          spreads_more (turned (is_call c.args.arcs.now)) c.loop-index.index row (IsCalledTo (is_call c.args.arcs.now row) (length clauses))
          c.loop-index.invariant.spreads at c.in_ok-gather_called.ensures
          (λ j e. let (k, b, l, t) = e in (k, t))
          (λ j k t. called_within c.args.program.now c.args.table.now.rows (is_call c.args.arcs.now) row k j _ clauses c.requires.within
          c.row.ensures c.clauses_of-clauses.ensures t);
    }

pub loop-index-smaller : goal.loop-index-smaller
loop-index-smaller g c =
    let f = few c.loop-index.gathered.marks.items c.loop-index.gathered.rows.items c.loop-index.invariant.spreads.marked in
    let l = c.loop-index.invariant.spreads.long in omega (arith, f, l, c.loop-index-test.true, c.len.ensures)

pub returns : goal.returns
returns g c =
    let e : c.loop-index.index ≡ length c.loop-index.gathered.rows.items = omega
    (arith, c.loop-index.invariant.within, c.loop-index-test.false, c.len.ensures) in
    subst
    (λ (n : ℕ). Spreads (λ j. IsIn j c.args.gathered.now.rows.items) (turned (is_call c.args.arcs.now)) (length c.args.gathered.now.marks.items) n
    c.loop-index.gathered.marks.items c.loop-index.gathered.rows.items) e c.loop-index.invariant.spreads
