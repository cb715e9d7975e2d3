use Rattle.std.proofs.Common.{◌≡◌, ◌≤◌, arith, subst}
use Rattle.plai_fix_laws.specs.Queues.{Awaits}
use Rattle.plai_fix_rows.specs.Solving.{listed}
use Rattle.plai_fix_rows.proofs.Awaited.{awaits_none, awaits_more}
use Rattle.plai_fix_rows.proofs.waking.await_pairs.Goals as goal

pub loop-number-init : goal.loop-number-init
loop-number-init c = record { within = omega arith; awaits = awaits_none c.args.row (listed c.args.pending.now.items) }

pub loop-number-preserved : goal.loop-number-preserved
loop-number-preserved c = record {
  within = omega (arith, c.loop-number-test.true);
  awaits = awaits_more c.args.row c.loop-number.number (listed c.args.pending.now.items) c.loop-number.pending.items c.push.new.self.items
      c.loop-number.invariant.awaits c.in_ok-push.ensures.items;
}

pub returns : goal.returns
returns c =
    let within : c.loop-number.number ≤ c.args.last = c.loop-number.invariant.within in
    let same : c.loop-number.number ≡ c.args.last = omega (arith, c.loop-number-test.false) in
    subst (λ n. Awaits c.args.row n (listed c.args.pending.now.items) (listed c.loop-number.pending.items)) same c.loop-number.invariant.awaits
