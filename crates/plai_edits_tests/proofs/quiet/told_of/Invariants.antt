use Rattle.plai_edits_tests.proofs.quiet.told_of.Given as goal

-- the ledger is the blank's
abbrev pub ghosts-told_counted : goal.ghosts-told_counted
ghosts-told_counted a = record { name = a.blank.name; parts = a.blank.parts }
