use Rattle.plai_depth_laws.proofs.Printed.{depth_k_printed}
use Rattle.plai_depth_laws.proofs.depth_k_is_printed.Goals as goal

pub returns : goal.returns
returns c = λ k few. depth_k_printed k
