use Rattle.plai_pos.proofs.Allowed.{forced}
use Rattle.plai_pos.proofs.properties.forces.Goals as goal

pub returns : goal.returns
returns c = forced _ _ _ _ _ c.requires.first c.requires.second c.args.value.now.over c.forces.ensures.models
