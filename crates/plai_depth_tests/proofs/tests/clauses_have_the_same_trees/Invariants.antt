use Rattle.plai_depth_tests.proofs.tests.clauses_have_the_same_trees.Given as goal

-- the ledger is the blank's
abbrev pub ghosts-compare_clauses : goal.ghosts-compare_clauses
ghosts-compare_clauses g a = record { name = a.blank.name; parts = a.blank.parts }
