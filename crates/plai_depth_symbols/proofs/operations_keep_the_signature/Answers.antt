use Rattle.plai_depth_symbols.proofs.Program.{operations_over}
use Rattle.plai_depth_symbols.proofs.operations_keep_the_signature.Goals as goal

pub returns : goal.returns
returns c = operations_over
