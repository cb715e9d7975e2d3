use Rattle.plai_share_tests.proofs.tests.heads_stop_where_a_set_is_too_large.Given as goal

-- the ledger is the blank's
abbrev pub ghosts-begins : goal.ghosts-begins
ghosts-begins g a = record { name = a.blank.name; parts = a.blank.parts }
