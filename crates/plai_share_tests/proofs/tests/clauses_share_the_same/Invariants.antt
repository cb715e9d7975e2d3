use Rattle.plai_share_tests.proofs.tests.clauses_share_the_same.Given as goal

-- the ledger is the blank's
abbrev pub ghosts-compare_clauses : goal.ghosts-compare_clauses
ghosts-compare_clauses g a = record { name = a.blank.name; parts = a.blank.parts }
