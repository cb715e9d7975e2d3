use Rattle.plai_ground_tests.proofs.tests.check.Given as goal

-- the ledger is the blank's
abbrev pub ghosts-evaluated : goal.ghosts-evaluated
ghosts-evaluated g a = record { name = a.blank.name; parts = a.blank.parts }
