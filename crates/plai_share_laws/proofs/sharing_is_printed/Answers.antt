use Rattle.plai_share_laws.proofs.Printed.{sharing_printed}
use Rattle.plai_share_laws.proofs.sharing_is_printed.Goals as goal

pub returns : goal.returns
returns c = sharing_printed
