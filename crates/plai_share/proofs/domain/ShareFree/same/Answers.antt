use Rattle.plai_share.specs.Equality.{same_value}
use Rattle.plai_share.proofs.domain.ShareFree.same.Goals as goal

pub returns : goal.returns
returns c = same_value c.args.a.now c.args.b.now c.eq.result c.eq.ensures
