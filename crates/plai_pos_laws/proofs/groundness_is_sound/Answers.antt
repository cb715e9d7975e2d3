use Rattle.plai_pos_laws.proofs.Acts.{groundness_sound}
use Rattle.plai_pos_laws.proofs.Soundness.{enter_describes, call_describes, back_describes, refine_describes, exit_describes}
use Rattle.plai_pos_laws.proofs.groundness_is_sound.Goals as goal

pub returns : goal.returns
returns c = record {
  tells_truly = groundness_sound.tells_truly;
  acts_truly = groundness_sound.acts_truly;
  enter = enter_describes;
  call = λ s hs ts args d. call_describes s hs ts d args;
  back = λ s hs ts args r answer d below. back_describes s hs ts d args below r answer;
  refine = λ s hs ts args r action d below. refine_describes s hs ts d args below r action;
  exit = λ s hs ts head d. exit_describes s hs ts d head;
}
