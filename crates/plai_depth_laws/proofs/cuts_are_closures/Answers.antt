use Rattle.plai_depth_laws.proofs.Cuts.{cut_up, cut_keeps, cut_twice}
use Rattle.plai_depth_laws.proofs.cuts_are_closures.Goals as goal

pub returns : goal.returns
returns c = record { up = cut_up; monotone = cut_keeps; twice = cut_twice }
