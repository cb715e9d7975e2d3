use Rattle.plai_analysis_tests.proofs.sessions.blocks.Given as goal

-- the ledger is the blank's
abbrev pub ghosts-blocks_counted : goal.ghosts-blocks_counted
ghosts-blocks_counted g a = record { name = a.blank.name; parts = a.blank.parts }
