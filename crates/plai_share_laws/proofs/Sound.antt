-- Sharing and freeness meet the laws of soundness.
use Rattle.plai_domain.specs.Soundness.{ActsTruly, IsSound}
use Rattle.plai_share_laws.specs.Sharing.{sharing}
use Rattle.plai_share_laws.proofs.Acts.{acts_call, acts_back, acts_refine, acts_exit}
use Rattle.plai_share_laws.proofs.Begun.{acts_enter}
use Rattle.plai_share_laws.proofs.Tells.{sharing_tells}

sharing_acts : ActsTruly sharing
sharing_acts = record {
  enter = λ head variables h call ts n s len d b u. acts_enter head variables h call ts n s len d b u;
  call = λ head variables st i args h a d. acts_call head variables st i args h a d;
  back = λ head variables st i args h a n f answer d from l k. acts_back head variables st i args h a d n f from answer l k;
  refine = λ head variables st i args h a n f action w d from k. acts_refine head variables st i args h a d n f from action w k;
  exit = acts_exit;
}

pub sharing_sound : IsSound sharing
sharing_sound = record { tells_truly = sharing_tells; acts_truly = sharing_acts }
