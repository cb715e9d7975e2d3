use Rattle.plai_pos.proofs.Allowed.{property_added}
use Rattle.plai_pos.proofs.properties.with_property.Goals as goal

pub returns-in-Ground : goal.returns-in-Ground
returns-in-Ground c = property_added _ _ c.args.arity c.in-Ground.argument _ c.in-Ground.is c.requires.within c.requires.small c.insert.ensures
