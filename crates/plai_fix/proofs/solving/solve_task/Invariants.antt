use Rattle.plai_fix.proofs.solving.solve_task.Given as goal

-- what was told and counted at the start
abbrev pub ghost-settle : goal.ghost-settle
ghost-settle g a = g.begun
