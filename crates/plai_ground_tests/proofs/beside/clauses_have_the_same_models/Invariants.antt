use Rattle.plai_ground_tests.proofs.beside.clauses_have_the_same_models.Given as goal

-- the ledger is the blank's
abbrev pub ghosts-compare_clauses : goal.ghosts-compare_clauses
ghosts-compare_clauses g a = record { name = a.blank.name; parts = a.blank.parts }
