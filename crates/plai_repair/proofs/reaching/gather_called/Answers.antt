use Rattle.std.proofs.Common.{◌<◌, ◌+◌, ℕ, sym, subst, arith}
use Rattle.plai_arcs.specs.Arcs.{is_call}
use Rattle.plai_repair.proofs.Reaches.{among_call, called_first, called_more, called_all}
use Rattle.plai_repair.proofs.reaching.gather_called.Goals as goal

pub loop-clause-init : goal.loop-clause-init
loop-clause-init c = record { within = omega arith; gathers = called_first (is_call c.args.arcs.now c.args.row) _ _ c.requires.marked }

pub gather_rows-requires-clause-there : goal.gather_rows-requires-clause-there
gather_rows-requires-clause-there c =
    λ j e. subst (λ (n : ℕ). j < n) (sym c.loop-clause.invariant.gathers.long)
    (c.requires.there (c.loop-clause.clause + 1) j
    (among_call (is_call c.args.arcs.now c.args.row (c.loop-clause.clause + 1)) c.calls_of.result.now c.calls_of.ensures j e))

pub gather_rows-requires-clause-marked : goal.gather_rows-requires-clause-marked
gather_rows-requires-clause-marked c = c.loop-clause.invariant.gathers.marked

pub loop-clause-preserved : goal.loop-clause-preserved
loop-clause-preserved c = record {
  within = omega (arith, c.loop-clause-test.true);
  gathers =
      called_more (is_call c.args.arcs.now c.args.row) c.loop-clause.clause c.calls_of.result.now c.calls_of.ensures c.loop-clause.invariant.gathers
      c.in_ok-gather_rows.ensures;
}

pub returns : goal.returns
returns c =
    called_all (is_call c.args.arcs.now c.args.row) c.loop-clause.clause c.args.last
    (omega (arith, c.loop-clause.invariant.within, c.loop-clause-test.false)) c.loop-clause.invariant.gathers
