-- A made program of so many predicates, and a script of edits on it (the edits after Hermenegildo, Puebla, Marriott and
-- Stuckey 2000: clauses are taken away and added).
use Rattle.std.specs.Prelude.{◌≡◌, ℕ, ℤ, pos, zero, suc, ◌+◌, ◌*◌, List, [], ◌∷◌, flat_map, Result, Ok}
use Rattle.std.specs.List.{range_with_len}
use Rattle.plai_terms.specs.declared.read_term.ReadTerm.{ReadTerm}
use Rattle.plai_terms.specs.declared.term.Term.{Compound}
use Rattle.plai_clauses.specs.Program.{ProgramView, empty, with_module, with_entry, with_clause_of}
use Rattle.plai_clauses.specs.declared.edit_cause.EditCause.{EditCause}
use Rattle.plai_script.specs.declared.edit.Edit.{Edit, Add, Del}
use Rattle.plai_make.specs.Clauses.{home_name, home, pred_name, fact_args, fact, rule, entry}
use Rattle.plai_make.specs.Draws.{draw}

-- the module and its entry
abbrev pub beginning : ProgramView
beginning = with_entry (with_module empty home) entry

-- a program with that module
abbrev pub HasHome : ProgramView → Type 0
HasHome program = program.modules ≡ home ∷ []

-- the program with a predicate's fact, and with its rule
abbrev pub with_fact : ProgramView → ℕ → ProgramView
with_fact program number = with_clause_of program home_name (fact number)

abbrev pub with_rule : ProgramView → ℕ → ℕ → ℕ → ProgramView
with_rule program number first second = with_clause_of program home_name (rule number first second)

abbrev pub with_clauses : ProgramView → ℕ → ℕ → ℕ → ProgramView
with_clauses program number first second = with_rule (with_fact program number) number first second

-- the program with the clauses of one predicate more: the goals of its rule are two draws
abbrev pub with_pred : ℕ → ProgramView → ℕ → ProgramView
with_pred count program number = with_clauses program number (draw count (2 * number + 1)) (draw count (2 * number + 2))

-- the program with the clauses of the first predicates
unfoldable pub with_preds : ℕ → ℕ → ProgramView
with_preds count zero = beginning
with_preds count (suc number) = with_pred count (with_preds count number) number

-- a program of so many predicates
abbrev pub made_program : ℕ → ProgramView
made_program count = with_preds count count

-- the first clause of a predicate is taken away
abbrev pub removal : ℕ → Edit
removal number = Del home_name (pred_name number) 2 (pos 1)

-- a predicate's fact becomes its last clause
abbrev pub addition : ℕ → Edit
addition number = Add home_name (record { term = Compound (pred_name number) fact_args; variables = 1 })

-- The edits of numbers 2 * i + 1 and 2 * i + 2, from 1, are of a predicate that is drawn behind those of the program.
abbrev pub drawn_pair : ℕ → ℕ → List (Result Edit EditCause)
drawn_pair count i =
    Ok (removal (draw count (2 * count + (2 * i + 1)))) ∷ Ok (addition (draw count (2 * count + (2 * i + 1)))) ∷ []

-- 50 edits
abbrev pub made_edits : ℕ → List (Result Edit EditCause)
made_edits count = flat_map (drawn_pair count) (range_with_len 0 25)
