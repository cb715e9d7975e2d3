use Rattle.plai_share_laws.proofs.Lawful.{sharing_lawful}
use Rattle.plai_share_laws.proofs.sharing_is_lawful.Goals as goal

pub returns : goal.returns
returns c = sharing_lawful
