use Rattle.plai_pos.proofs.Equal.{within_value}
use Rattle.plai_pos.proofs.domain.Ground.leq.Goals as goal

pub returns : goal.returns
returns c = within_value c.args.a.now c.args.b.now c.implies.result c.requires c.implies.ensures.models
