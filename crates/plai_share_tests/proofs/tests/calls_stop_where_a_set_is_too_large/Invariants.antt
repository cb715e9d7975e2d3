use Rattle.plai_share_tests.proofs.tests.calls_stop_where_a_set_is_too_large.Given as goal

-- the ledger is the blank's
abbrev pub ghosts-calls : goal.ghosts-calls
ghosts-calls g a = record { name = a.blank.name; parts = a.blank.parts }
