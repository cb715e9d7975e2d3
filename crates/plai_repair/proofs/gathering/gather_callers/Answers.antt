use Rattle.std.proofs.Common.{◌<◌, ℕ, get_or, sym, subst, arith}
use Rattle.std.proofs.lemmas.Option.{slice_get-get_or}
use Rattle.plai_repair.proofs.Gathered.{gathers_first, gathers_more, gathers_all}
use Rattle.plai_repair.proofs.gathering.gather_callers.Goals as goal

pub loop-place-init : goal.loop-place-init
loop-place-init c = record { within = omega arith; gathers = gathers_first c.args.pairs.now _ _ c.requires.marked }

pub gather-requires-clause-there : goal.gather-requires-clause-there
gather-requires-clause-there c =
    let i = c.loop-place.place in
    let p = get_or c.args.pairs.now i (0, 0) in
    subst (λ (n : ℕ). p.0 < n) (sym c.loop-place.invariant.gathers.long)
    (c.requires.there p.0 (i, p.1, c.loop-place-test.true, slice_get-get_or c.args.pairs.now i (0, 0) c.loop-place-test.true))

pub loop-place-preserved : goal.loop-place-preserved
loop-place-preserved c =
    let i = c.loop-place.place in record {
      within = omega (arith, c.loop-place-test.true);
      gathers =
          gathers_more c.args.pairs.now i (get_or c.args.pairs.now i (0, 0))
          (slice_get-get_or c.args.pairs.now i (0, 0) c.loop-place-test.true) c.loop-place.invariant.gathers c.in_ok-gather.ensures;
    }

pub returns : goal.returns
returns c =
    gathers_all c.args.pairs.now c.loop-place.place (omega (arith, c.loop-place.invariant.within, c.loop-place-test.false)) c.loop-place.invariant.gathers
