use Rattle.plai_bdd.proofs.walk.+answer_at.Given as goal

abbrev pub decreases-answer_at : goal.decreases-answer_at
decreases-answer_at l = l.place
