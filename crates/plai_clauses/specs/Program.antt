-- A program as contracts see it: its modules, the clauses of each predicate, and the entries and checks
-- (ISO/IEC 13211-1:1995, 7.4), with what each change makes of it.
use Rattle.std.specs.Prelude.{ℕ, ◌+◌, ◌-◌, ◌≤◌, suc, Bool, ◌&&◌, nat_eq, nat_le, if◌then◌else◌, Option, Some, None, List, [], ◌∷◌, ◌++◌, filter, fold, map, length}
use Rattle.std.specs.List.{insert, remove, sum_by}
use Rattle.std.specs.Ordering.{nat_cmp, is_lt}
use Rattle.std.specs.Cmp.Lexicographic.{pointwise, slice_cmp}
use Rattle.plai_terms.specs.declared.pred_key.PredKey.{PredKey}
use Rattle.plai_clauses.specs.declared.clause.Clause.{Clause}
use Rattle.plai_clauses.specs.declared.entry.Entry.{Entry}
use Rattle.plai_clauses.specs.declared.check.Check.{Check}
use Rattle.plai_clauses.specs.declared.modules.Module.{Module}
use Rattle.plai_clauses.specs.declared.definition.Definition.{Definition}
use Rattle.plai_clauses.specs.ClauseOf.{spoken_of}
use Rattle.plai_clauses.specs.Builtins.{is_builtin_key}

-- The modules, in the order in which they came; the predicates with their clauses in order; and the entries and the
-- checks of all modules, by module name, within a module in order.
pub record ProgramView : Type 0 where
  pub modules : List Module
  pub definitions : List Definition
  pub entries : List Entry
  pub checks : List Check

-- the test for equal predicates
abbrev pub same_pred : PredKey → PredKey → Bool
same_pred a b = pointwise nat_eq a.module b.module && (pointwise nat_eq a.name b.name && nat_eq a.arity b.arity)

-- the clauses of the predicate in these definitions, none where it has no definition
abbrev pub clauses_in : List Definition → PredKey → List Clause
clauses_in [] pred = []
clauses_in (d ∷ ds) pred = if same_pred d.pred pred then d.clauses else clauses_in ds pred

-- the clauses of a predicate in order, none for an undefined one
abbrev pub clauses_of : ProgramView → PredKey → List Clause
clauses_of program pred = clauses_in program.definitions pred

-- the entries of all modules, by module name, within a module in order
abbrev pub entries_of : ProgramView → List Entry
entries_of program = program.entries

-- the module of this name
abbrev pub module_in : List Module → List ℕ → Option Module
module_in [] name = None
module_in (m ∷ modules) name = if pointwise nat_eq m.name name then Some m else module_in modules name

-- how many clauses, entries and checks there are
abbrev pub items_of : ProgramView → ℕ
items_of program = sum_by (λ d. length d.clauses) program.definitions + length program.entries + length program.checks

-- the module that answers for a name in a module, none where the module isn't there or the key is a builtin's
abbrev pub resolved_in : Option Module → List ℕ → ℕ → Option (List ℕ)
resolved_in None name arity = None
resolved_in (Some m) name arity = if is_builtin_key name arity then None else Some (spoken_of m.name m.imports name arity)

abbrev pub resolved : ProgramView → List ℕ → List ℕ → ℕ → Option (List ℕ)
resolved program module_name name arity = resolved_in (module_in program.modules module_name) name arity

-- the predicate that a clause of a module belongs to
abbrev pub pred_of : List ℕ → Clause → PredKey
pred_of module_name clause = record { «module» = module_name; name = clause.name; arity = length clause.head }

-- the definitions with one more clause, the last of its predicate
abbrev pub with_clause : List Definition → PredKey → Clause → List Definition
with_clause [] pred clause = record { pred = pred; clauses = clause ∷ [] } ∷ []
with_clause (d ∷ ds) pred clause =
    if same_pred d.pred pred then record { pred = d.pred; clauses = d.clauses ++ clause ∷ [] } ∷ ds else d ∷ with_clause ds pred clause

-- the definitions with other clauses of one predicate
abbrev pub changed_in : (List Clause → List Clause) → List Definition → PredKey → List Definition
changed_in change [] pred = []
changed_in change (d ∷ ds) pred =
    if same_pred d.pred pred then record { pred = d.pred; clauses = change d.clauses } ∷ ds else d ∷ changed_in change ds pred

-- behind how many items, given by their modules' names, an item of a module of this name stands that comes last in its
-- module: all before the first item of a later module
abbrev pub place_behind : List ℕ → List (List ℕ) → ℕ
place_behind name [] = 0
place_behind name (m ∷ names) = if is_lt (slice_cmp nat_cmp name m) then 0 else suc (place_behind name names)

-- the place of the module's item of this number, from 1; the end, where it has no such item
abbrev pub place_of : List ℕ → ℕ → List (List ℕ) → ℕ
place_of name number [] = 0
place_of name number (m ∷ names) =
    if pointwise nat_eq m name then (if nat_le number 1 then 0 else suc (place_of name (number - 1) names)) else suc (place_of name number names)

-- the items of one module, by their modules' names
abbrev pub many_of : List ℕ → List (List ℕ) → ℕ
many_of name names = length (filter (λ m. pointwise nat_eq m name) names)

-- a number of an item of the module, from 1
pub record IsNumber (name : List ℕ) (names : List (List ℕ)) (number : ℕ) : Type 0 where
  pub some : 1 ≤ number
  pub there : number ≤ many_of name names

-- the modules' names of entries and of checks
abbrev pub homes_of_entries : List Entry → List (List ℕ)
homes_of_entries = map (λ e. e.module)

abbrev pub homes_of_checks : List Check → List (List ℕ)
homes_of_checks = map (λ c. c.module)

-- the changes

abbrev pub empty : ProgramView
empty = record { modules = []; definitions = []; entries = []; checks = [] }

abbrev pub with_module : ProgramView → Module → ProgramView
with_module program m = record program { modules = program.modules ++ m ∷ [] }

-- the clause comes last in its predicate of the module
abbrev pub with_clause_of : ProgramView → List ℕ → Clause → ProgramView
with_clause_of program name clause = record program { definitions = with_clause program.definitions (pred_of name clause) clause }

-- the clause of this number, from 1, is taken away
abbrev pub without_clause : ProgramView → PredKey → ℕ → ProgramView
without_clause program pred number = record program { definitions = changed_in (λ clauses. remove clauses (number - 1)) program.definitions pred }

abbrev pub without_clauses : ProgramView → PredKey → ProgramView
without_clauses program pred = record program { definitions = changed_in (λ _. []) program.definitions pred }

abbrev pub with_entry : ProgramView → Entry → ProgramView
with_entry program e = record program { entries = insert program.entries (place_behind e.module (homes_of_entries program.entries)) e }

abbrev pub with_check : ProgramView → Check → ProgramView
with_check program c = record program { checks = insert program.checks (place_behind c.module (homes_of_checks program.checks)) c }

abbrev pub without_entry : ProgramView → List ℕ → ℕ → ProgramView
without_entry program name number = record program { entries = remove program.entries (place_of name number (homes_of_entries program.entries)) }

abbrev pub without_check : ProgramView → List ℕ → ℕ → ProgramView
without_check program name number = record program { checks = remove program.checks (place_of name number (homes_of_checks program.checks)) }

-- the clauses of a module, added in order
abbrev pub definitions_of : List ℕ → List Clause → List Definition
definitions_of module_name clauses = fold (λ definitions clause. with_clause definitions (pred_of module_name clause) clause) [] clauses

-- the program of one module that exports and imports nothing
abbrev pub one_module : List ℕ → List Clause → List Entry → ProgramView
one_module module_name clauses entries =
    record {
      modules = record { name = module_name; exports = []; imports = [] } ∷ [];
      definitions = definitions_of module_name clauses;
      entries = entries;
      checks = [];
    }
