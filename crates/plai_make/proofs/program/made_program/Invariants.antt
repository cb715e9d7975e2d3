use Rattle.std.proofs.Common.{◌≡◌, ◌<◌, ◌*◌, ◌^◌}
use Rattle.plai_make.specs.Draws.{state_at}
use Rattle.plai_make.specs.Programs.{HasHome, with_preds}
use Rattle.plai_make.proofs.program.made_program.Given as goal

abbrev pub invariant-loop-number : goal.invariant-loop-number
invariant-loop-number l = record {
  few : l.state < 2 ^ 31;
  value : l.state ≡ state_at l.count (2 * l.number);
  program : l.program ≡ with_preds l.count l.number;
  home : HasHome l.program;
}
