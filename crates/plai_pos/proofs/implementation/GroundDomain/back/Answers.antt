use Rattle.plai_pos.proofs.Shapes.{arity_is}
use Rattle.plai_pos.proofs.implementation.GroundDomain.back.Goals as goal

pub back-requires-clause-answer : goal.back-requires-clause-answer
back-requires-clause-answer g c = arity_is _ _ _ c.requires.answer
