use Rattle.plai_base_tests.proofs.base.counted_steps.Given as goal

-- the counter stands over the ledger that the blank opens
abbrev pub ghosts-tick_twice : goal.ghosts-tick_twice
ghosts-tick_twice a = record { name = a.blank.name; parts = a.blank.parts }
