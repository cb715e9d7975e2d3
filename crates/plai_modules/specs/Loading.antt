-- Loading: the program that the texts of several files say, or the first refused term. A first pass reads all files in
-- order. A second one goes over them in order again: it resolves what each imports, against the modules of all files, and
-- adds its clauses, entries and checks to the program.
use Rattle.std.specs.Prelude.{ℕ, ◌+◌, is_some, count_by, fold, Result, Ok, Err, List, [], ◌∷◌, if◌then◌else◌}
use Rattle.std.specs.List.{sum_by}
use Rattle.plai_terms.specs.declared.pred_key.PredKey.{PredKey}
use Rattle.plai_clauses.specs.declared.clause.Clause as clause
use Rattle.plai_clauses.specs.declared.cause.ClauseCause.{ClauseCause}
use Rattle.plai_clauses.specs.ClauseOf.{clause_of, spoken_of}
use Rattle.plai_clauses.specs.Program.{ProgramView, empty, module_in, with_module, with_clause_of, with_entry, with_check}
use Rattle.plai_sources.specs.declared.cause.LoadCause.{LoadCause}
use Rattle.plai_sources.specs.declared.cause.LoadCause.TheVariants.{DuplicateModule}
use Rattle.plai_sources.specs.declared.items.FileItems.{FileItems}
use Rattle.plai_sources.specs.declared.items.NumberedItem.{NumberedItem}
use Rattle.plai_sources.specs.declared.items.Item.{Item}
use Rattle.plai_sources.specs.declared.items.Item.TheVariants.{UseModule, Entry, Check, Clause}
use Rattle.plai_sources.specs.Items.{items_of, refusal, is_counted}
use Rattle.plai_sources.specs.Items as source
use Rattle.plai_modules.specs.Steps.{and_then}
use Rattle.plai_modules.specs.Importing.{imports_of}

-- a refused term: the number of its file and its own in that file, both from 1, and why it is refused
pub record Refusal : Type 0 where
  pub file : ℕ
  pub term : ℕ
  pub cause : LoadCause

-- a refusal in the file of this number
abbrev pub in_file : {A : Type 0} → ℕ → Result A source.Refusal → Result A Refusal
in_file number (Ok x) = Ok x
in_file number (Err refusal) = Err (record { file = number; term = refusal.term; cause = refusal.cause })

-- the first pass

abbrev pub in_front : {A : Type 0} → A → Result (List A) Refusal → Result (List A) Refusal
in_front x (Ok xs) = Ok (x ∷ xs)
in_front x (Err refusal) = Err refusal

-- what the files say, numbered from `number` on, where the program has `there` clauses, entries and checks of earlier files
abbrev pub files_from : ℕ → ℕ → List (List ℕ) → Result (List FileItems) Refusal
files_from number there [] = Ok []
files_from number there (text ∷ texts) =
    and_then (in_file number (items_of text there)) (λ file. in_front file (files_from (number + 1) file.count texts))

-- the second pass

-- the predicate that a module with these imports speaks of
abbrev pub pred_spoken_of : List ℕ → List (List ℕ × ℕ × List ℕ) → List ℕ → ℕ → PredKey
pred_spoken_of module_name imports name arity = record { «module» = spoken_of module_name imports name arity; name = name; arity = arity }

abbrev pub with_clause_from : ProgramView → List ℕ → Result clause.Clause ClauseCause → ProgramView
with_clause_from program module_name (Ok clause) = with_clause_of program module_name clause
with_clause_from program module_name (Err _) = program

-- The program with one item more of a module. A clause that a file says is never refused here, since imports decide no
-- more than what its literals call.
abbrev pub with_item : List ℕ → List (List ℕ × ℕ × List ℕ) → ProgramView → Item → ProgramView
with_item module_name imports program (UseModule _ _) = program
with_item module_name imports program (Entry e) =
    with_entry program (record { «module» = module_name; pred = pred_spoken_of module_name imports e.name e.arity; pre = e.pre })
with_item module_name imports program (Check c) =
    with_check program (record { «module» = module_name; kind = c.kind; pred = pred_spoken_of module_name imports c.name c.arity; pre = c.pre; post = c.post })
with_item module_name imports program (Clause read) = with_clause_from program module_name (clause_of module_name imports read)

abbrev pub with_items : List ℕ → List (List ℕ × ℕ × List ℕ) → ProgramView → List NumberedItem → ProgramView
with_items module_name imports = fold (λ program numbered. with_item module_name imports program numbered.item)

-- the program with a file's module and all its items
abbrev pub with_file : ProgramView → FileItems → List (List ℕ × ℕ × List ℕ) → ProgramView
with_file program file imports =
    with_items file.module imports (with_module program (record { name = file.module; exports = file.exports; imports = imports })) file.items

-- The program with one file more, among all files: refused at its first term where an earlier file has its module, and
-- then at the first of its directives that imports what it can't.
abbrev pub linked : List FileItems → ProgramView → FileItems → Result ProgramView source.Refusal
linked files program file =
    if is_some (module_in program.modules file.module) then Err (refusal 1 DuplicateModule)
    else and_then (imports_of files file.items) (λ imports. Ok (with_file program file imports))

-- the program with more of all files, these numbered from `number` on
abbrev pub linked_from : List FileItems → ℕ → ProgramView → List FileItems → Result ProgramView Refusal
linked_from files number program [] = Ok program
linked_from files number program (file ∷ more) =
    and_then (in_file number (linked files program file)) (λ behind. linked_from files (number + 1) behind more)

abbrev pub program_of : List FileItems → Result ProgramView Refusal
program_of files = linked_from files 1 empty files

-- the program that these texts of files say, or the first refused term
unfoldable pub loaded : List (List ℕ) → Result ProgramView Refusal
loaded texts = and_then (files_from 1 0 texts) program_of

-- how many clauses, entries and checks a file has, and several files together
abbrev pub counted : FileItems → ℕ
counted file = count_by (λ numbered. is_counted numbered.item) file.items

abbrev pub counted_in : List FileItems → ℕ
counted_in = sum_by counted
