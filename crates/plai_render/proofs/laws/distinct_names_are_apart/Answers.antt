use Rattle.plai_render.proofs.Apart.{apart}
use Rattle.plai_render.proofs.laws.distinct_names_are_apart.Goals as goal

pub returns : goal.returns
returns c = apart
