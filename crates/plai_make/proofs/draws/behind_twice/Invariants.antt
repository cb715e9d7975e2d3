use Rattle.std.proofs.Common.{◌≡◌, ◌<◌, ◌*◌, ◌^◌}
use Rattle.plai_make.specs.Draws.{state_at}
use Rattle.plai_make.proofs.draws.behind_twice.Given as goal

abbrev pub invariant-loop : goal.invariant-loop
invariant-loop l = record {
  few : l.state < 2 ^ 31;
  value : l.state ≡ state_at l.count (2 * l.counter);
}
