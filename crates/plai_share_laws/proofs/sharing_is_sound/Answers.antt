use Rattle.plai_share_laws.proofs.Sound.{sharing_sound}
use Rattle.plai_share_laws.proofs.sharing_is_sound.Goals as goal

pub returns : goal.returns
returns c = sharing_sound
