use Rattle.plai_pos_laws.proofs.Lawful.{groundness_lawful}
use Rattle.plai_pos_laws.proofs.groundness_is_lawful.Goals as goal

pub returns : goal.returns
returns c = groundness_lawful
