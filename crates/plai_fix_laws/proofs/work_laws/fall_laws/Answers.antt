-- Each clause is a theorem of proofs/.
use Rattle.plai_fix_laws.proofs.Lowering.{made_room, evaluated_dirties, set_dirties, first_answer, later_room, later_ranks}
use Rattle.plai_fix_laws.proofs.Places.{there}
use Rattle.plai_fix_laws.proofs.Wakings.{wakes_room}
use Rattle.plai_fix_laws.proofs.work_laws.fall_laws.Goals as goal

pub returns : goal.returns
returns g c = record {
  made = λ p laws k new open_pair next rows keeps limit x after few. made_room _ p laws k new open_pair next rows keeps limit x after few;
  woken = λ p limit k new n kept e asleep room wakes. wakes_room _ k new n wakes (there _ kept e) asleep limit room;
  evaluated = λ p laws k new open_pair next rows keeps n r at live i b s dirty names after. evaluated_dirties _ p laws k new open_pair next rows keeps n r at
      live i b s dirty names after;
  set = λ p k new n i called set. set_dirties _ p k new n i called set;
  first = λ p laws k new open_pair next rows keeps n r at live v after limit none. first_answer _ p laws k new open_pair next rows keeps n r at live v
      after limit none;
  room = λ p laws k new open_pair next rows keeps n r at live v after limit u had. later_room _ p laws k new open_pair next rows keeps n r at live v after
      limit u had;
  ranks = λ p laws k new open_pair next rows keeps n r at live v after rank is u had up other. later_ranks _ p laws k new open_pair next rows keeps n r at
      live v after rank is u had up other;
}
