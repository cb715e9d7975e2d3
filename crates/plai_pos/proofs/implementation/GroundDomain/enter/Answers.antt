use Rattle.plai_pos.proofs.Shapes.{arity_is}
use Rattle.plai_pos.proofs.implementation.GroundDomain.enter.Goals as goal

pub enter-requires-clause-arity : goal.enter-requires-clause-arity
enter-requires-clause-arity g c = arity_is _ _ _ c.requires.call
