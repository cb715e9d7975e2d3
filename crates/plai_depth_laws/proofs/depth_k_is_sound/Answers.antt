use Rattle.plai_depth_laws.proofs.Acts.{sound_from_one}
use Rattle.plai_depth_laws.proofs.depth_k_is_sound.Goals as goal

pub returns : goal.returns
returns c = sound_from_one
