use Rattle.plai_fix.proofs.solving.solve.Given as goal

-- where work begins, and what was told and counted before the call
abbrev pub ghost-solve_task : goal.ghost-solve_task
ghost-solve_task g a = record { origin = record { rows = g.start; told = g.W.Work.entries a.work.now }; steps = a.steps.now }
