use Rattle.plai_edits_tests.proofs.edits.script.Given as goal

-- the ledger is the blank's
abbrev pub ghosts-script_counted : goal.ghosts-script_counted
ghosts-script_counted g a = record { name = a.blank.name; parts = a.blank.parts }
