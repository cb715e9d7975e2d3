-- What an edit makes of a program, or the first cause why it is refused (the changes after Hermenegildo, Puebla, Marriott and
-- Stuckey 2000; the edits and their causes are this project's). In this order an edit is refused: its module isn't there; its
-- term says no clause, entry or assertion; the clause's predicate is imported; the item of the number isn't there; there are
-- as many items as a program may have.
use Rattle.std.specs.Prelude.{ℕ, ℤ, pos, Bool, ◌&&◌, ◌||◌, nat_lt, nat_le, is_some, Option, Some, None, Result, Ok, Err, List, [], ◌∷◌, length, codes, if◌then◌else◌}
use Rattle.plai_terms.specs.declared.term.Term.{Term}
use Rattle.plai_terms.specs.declared.pred_key.PredKey.{PredKey}
use Rattle.plai_terms.specs.declared.read_term.ReadTerm.{ReadTerm}
use Rattle.plai_clauses.specs.declared.clause.Clause.{Clause}
use Rattle.plai_clauses.specs.declared.entry.Entry.{Entry}
use Rattle.plai_clauses.specs.declared.check.Check.{Check}
use Rattle.plai_clauses.specs.declared.modules.Module.{Module}
use Rattle.plai_clauses.specs.declared.cause.ClauseCause.{ClauseCause}
use Rattle.plai_clauses.specs.declared.cause.ClauseCause.TheVariants.{NotAClause}
use Rattle.plai_clauses.specs.declared.edit_cause.EditCause.{EditCause}
use Rattle.plai_clauses.specs.declared.edit_cause.EditCause.TheVariants as cause
use Rattle.plai_clauses.specs.ClauseOf.{clause_of, exporter, spoken_of}
use Rattle.plai_clauses.specs.Program.{ProgramView, module_in, items_of, clauses_of, many_of, homes_of_entries, homes_of_checks, with_clause_of, without_clause, without_clauses, with_entry, without_entry, with_check, without_check}
use Rattle.plai_sources.specs.declared.items.EntryItem.{EntryItem}
use Rattle.plai_sources.specs.declared.items.CheckItem.{CheckItem}
use Rattle.plai_sources.specs.Shapes.{one_argument}
use Rattle.plai_sources.specs.Items.{most_items}
use Rattle.plai_sources.specs.Properties.{entry_of, check_of}
use Rattle.plai_script.specs.declared.edit.Edit.{Edit, fold-Edit}
use Rattle.plai_script.specs.declared.edit.Edit.TheOpen.{Edit-F}

abbrev pub and_then : {A B : Type 0} → Result A EditCause → (A → Result B EditCause) → Result B EditCause
and_then (Ok x) next = next x
and_then (Err e) next = Err e

-- what is made by the imports of a module that is there
abbrev pub in_module : {A : Type 0} → Option Module → (List (List ℕ × ℕ × List ℕ) → Result A EditCause) → Result A EditCause
in_module None make = Err cause.UnknownModule
in_module (Some home) make = make home.imports

-- the predicate that a module with these imports speaks of
abbrev pub pred_spoken_of : List ℕ → List (List ℕ × ℕ × List ℕ) → List ℕ → ℕ → PredKey
pred_spoken_of m imports name arity = record { «module» = spoken_of m imports name arity; name = name; arity = arity }

-- a directive is no clause
abbrev pub is_directive : Term → Bool
is_directive t = is_some (one_argument (codes ":-") t) || is_some (one_argument (codes "?-") t)

abbrev pub clause_said : List ℕ → List (List ℕ × ℕ × List ℕ) → ReadTerm → Result Clause ClauseCause
clause_said m imports read = if is_directive read.term then Err NotAClause else clause_of m imports read

-- a predicate that is imported has no clauses
abbrev pub unless_imported : List (List ℕ × ℕ × List ℕ) → Result Clause ClauseCause → Result Clause EditCause
unless_imported imports (Err c) = Err (cause.Clause c)
unless_imported imports (Ok c) = if is_some (exporter imports c.name (length c.head)) then Err cause.ImportClash else Ok c

abbrev pub entry_said : List ℕ → List (List ℕ × ℕ × List ℕ) → Option EntryItem → Result Entry EditCause
entry_said m imports None = Err cause.BadProperty
entry_said m imports (Some e) = Ok (record { «module» = m; pred = pred_spoken_of m imports e.name e.arity; pre = e.pre })

abbrev pub check_said : List ℕ → List (List ℕ × ℕ × List ℕ) → Option CheckItem → Result Check EditCause
check_said m imports None = Err cause.BadProperty
check_said m imports (Some c) = Ok (record { «module» = m; kind = c.kind; pred = pred_spoken_of m imports c.name c.arity; pre = c.pre; post = c.post })

-- the clause, the entry and the assertion that a term says in a module
abbrev pub clause_in : List Module → List ℕ → ReadTerm → Result Clause EditCause
clause_in modules m read = in_module (module_in modules m) (λ imports. unless_imported imports (clause_said m imports read))

abbrev pub entry_in : List Module → List ℕ → ReadTerm → Result Entry EditCause
entry_in modules m read = in_module (module_in modules m) (λ imports. entry_said m imports (entry_of read.term))

abbrev pub check_in : List Module → List ℕ → ReadTerm → Result Check EditCause
check_in modules m read = in_module (module_in modules m) (λ imports. check_said m imports (check_of read.term))

-- the program with one clause, entry or assertion more, if there may be more
abbrev pub with_room : ProgramView → ProgramView → Result ProgramView EditCause
with_room program after = if nat_lt (items_of program) most_items then Ok after else Err cause.TooManyItems

-- the number, where it is one from 1 up to how many there are
abbrev pub number_among : ℕ → ℤ → Option ℕ
number_among there (pos n) = if nat_le 1 n && nat_le n there then Some n else None
number_among there _ = None

abbrev pub unless_missing : Option ℕ → EditCause → (ℕ → ProgramView) → Result ProgramView EditCause
unless_missing None missing after = Err missing
unless_missing (Some number) missing after = Ok (after number)

abbrev pub own_pred : List ℕ → List ℕ → ℕ → PredKey
own_pred m name arity = record { «module» = m; name = name; arity = arity }

-- the program without the item of that number
abbrev pub delete : ProgramView → PredKey → ℤ → Result ProgramView EditCause
delete program pred number =
    unless_missing (number_among (length (clauses_of program pred)) number) (cause.NoSuchClause number (length (clauses_of program pred)))
    (without_clause program pred)

abbrev pub delete_entry : ProgramView → List ℕ → ℤ → Result ProgramView EditCause
delete_entry program m number =
    unless_missing (number_among (many_of m (homes_of_entries program.entries)) number)
    (cause.NoSuchEntry number (many_of m (homes_of_entries program.entries)))
    (without_entry program m)

abbrev pub delete_check : ProgramView → List ℕ → ℤ → Result ProgramView EditCause
delete_check program m number =
    unless_missing (number_among (many_of m (homes_of_checks program.checks)) number)
    (cause.NoSuchCheck number (many_of m (homes_of_checks program.checks)))
    (without_check program m)

-- edits in order, each on what the ones before left; the first that is refused refuses all
abbrev pub in_order : ProgramView → List (ProgramView → Result ProgramView EditCause) → Result ProgramView EditCause
in_order program [] = Ok program
in_order program (edit ∷ edits) = and_then (edit program) (λ after. in_order after edits)

-- one level: the edits of an `all` are given as what they make of programs
abbrev pub edit_step : Edit-F (ProgramView → Result ProgramView EditCause) → ProgramView → Result ProgramView EditCause
edit_step (Edit-F.Add m read) program = and_then (clause_in program.modules m read) (λ c. with_room program (with_clause_of program m c))
edit_step (Edit-F.Del m name arity number) program = in_module (module_in program.modules m) (λ _. delete program (own_pred m name arity) number)
edit_step (Edit-F.Drop m name arity) program = in_module (module_in program.modules m) (λ _. Ok (without_clauses program (own_pred m name arity)))
edit_step (Edit-F.Entry m read) program = and_then (entry_in program.modules m read) (λ e. with_room program (with_entry program e))
edit_step (Edit-F.Unentry m number) program = in_module (module_in program.modules m) (λ _. delete_entry program m number)
edit_step (Edit-F.Check m read) program = and_then (check_in program.modules m read) (λ c. with_room program (with_check program c))
edit_step (Edit-F.Uncheck m number) program = in_module (module_in program.modules m) (λ _. delete_check program m number)
edit_step (Edit-F.All edits) program = in_order program edits

abbrev pub done : Edit → ProgramView → Result ProgramView EditCause
done = fold-Edit (ProgramView → Result ProgramView EditCause) edit_step

-- what an edit makes of a program, or why it is refused
abbrev pub edited : ProgramView → Edit → Result ProgramView EditCause
edited program edit = done edit program

-- the same of several edits in order
abbrev pub edited_by : ProgramView → List Edit → Result ProgramView EditCause
edited_by program [] = Ok program
edited_by program (edit ∷ edits) = and_then (edited program edit) (λ after. edited_by after edits)
