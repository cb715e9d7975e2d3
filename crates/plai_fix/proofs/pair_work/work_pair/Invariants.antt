use Rattle.plai_fix.proofs.pair_work.work_pair.Given as goal

-- what was told and counted at the start
abbrev pub ghost-evaluate_due : goal.ghost-evaluate_due
ghost-evaluate_due g a = g.begun
