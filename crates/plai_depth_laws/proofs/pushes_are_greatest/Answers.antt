use Rattle.plai_depth_laws.proofs.Moves.{pushes_lower, pushes_greatest}
use Rattle.plai_depth_laws.proofs.pushes_are_greatest.Goals as goal

pub returns : goal.returns
returns c = record {
  below = λ limit terms pushed before after w l len e. pushes_lower limit terms w pushed l before after len e;
  greatest = λ terms pushed before lower p q. pushes_greatest lower terms pushed before p q;
}
