use Rattle.plai_pos.specs.Equality.{same_value}
use Rattle.plai_pos.proofs.domain.Ground.same.Goals as goal

pub returns : goal.returns
returns c = same_value c.args.a.now c.args.b.now c.eq.result c.eq.ensures
