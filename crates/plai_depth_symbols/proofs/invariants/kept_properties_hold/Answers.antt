use Rattle.plai_depth_symbols.proofs.Kept.{answer_kept, calls_kept, stage_kept, reach_kept, made_kept, asked_kept}
use Rattle.plai_depth_symbols.proofs.invariants.kept_properties_hold.Goals as goal

pub returns : goal.returns
returns g c = record {
  answers = λ program kept s answers p clause i v a. answer_kept _ program _ _ _ kept s answers p clause i v a;
  calls = λ program kept s answers p clause i v. calls_kept _ program _ _ _ kept s answers p clause i v;
  rows = λ program kept tells rows made. made_kept _ program _ _ _ kept tells made;
  asked = λ program kept tells rows made x. asked_kept _ program _ _ _ kept tells rows (made_kept _ program _ _ _ kept tells made) x;
  stages = λ program kept n. stage_kept _ program _ _ _ kept n;
  reached = λ program kept s answers n x r. reach_kept _ program _ _ _ kept s answers r;
}
