use Rattle.std.proofs.Common.{◌<◌, ℕ, get_or, sym, subst, arith}
use Rattle.std.proofs.lemmas.Option.{slice_get-get_or}
use Rattle.plai_repair.proofs.Reaches.{among_first, among_more, among_all}
use Rattle.plai_repair.proofs.reaching.gather_rows.Goals as goal

pub loop-place-init : goal.loop-place-init
loop-place-init c = record { within = omega arith; gathers = among_first c.args.rows.now _ _ c.requires.marked }

pub gather-requires-clause-there : goal.gather-requires-clause-there
gather-requires-clause-there c =
    let i = c.loop-place.place in
    let x = get_or c.args.rows.now i 0 in
    subst (λ (n : ℕ). x < n) (sym c.loop-place.invariant.gathers.long)
    (c.requires.there x (i, c.loop-place-test.true, slice_get-get_or c.args.rows.now i 0 c.loop-place-test.true))

pub loop-place-preserved : goal.loop-place-preserved
loop-place-preserved c =
    let i = c.loop-place.place in record {
      within = omega (arith, c.loop-place-test.true);
      gathers =
          among_more c.args.rows.now i (get_or c.args.rows.now i 0)
          (slice_get-get_or c.args.rows.now i 0 c.loop-place-test.true) c.loop-place.invariant.gathers c.in_ok-gather.ensures;
    }

pub returns : goal.returns
returns c =
    among_all c.args.rows.now c.loop-place.place (omega (arith, c.loop-place.invariant.within, c.loop-place-test.false)) c.loop-place.invariant.gathers
