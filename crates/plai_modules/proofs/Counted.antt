-- How many clauses, entries and checks a loaded program has.
use Rattle.std.proofs.Common.{◌≡◌, ℕ, ◌+◌, ◌≤◌, Bool, true, false, cond, List, [], ◌∷◌, ◌++◌, take, drop, length, refl, ap, sym, ◌∙◌, subst, arith}
use Rattle.std.proofs.Common.{if◌then◌else◌}
use Rattle.std.specs.Prelude.{Result, Ok, Err, is_some, count_by}
use Rattle.std.specs.List.{sum_by}
use Rattle.std.proofs.lemmas.List.{length-append, take-append-drop}
use Rattle.std.proofs.lemmas.List.Sums.{sum_by-cons}
use Rattle.plai_terms.specs.declared.pred_key.PredKey.{PredKey}
use Rattle.plai_clauses.specs.declared.clause.Clause as clause
use Rattle.plai_clauses.specs.declared.cause.ClauseCause.{ClauseCause}
use Rattle.plai_clauses.specs.declared.entry.Entry as entry
use Rattle.plai_clauses.specs.declared.check.Check as check
use Rattle.plai_clauses.specs.declared.definition.Definition.{Definition}
use Rattle.plai_clauses.specs.ClauseOf.{clause_of}
use Rattle.plai_clauses.specs.Program.{ProgramView, empty, items_of, same_pred, module_in, with_clause, with_module, with_clause_of}
use Rattle.plai_sources.specs.declared.cause.LoadCause.TheVariants.{DuplicateModule}
use Rattle.plai_sources.specs.declared.items.FileItems.{FileItems}
use Rattle.plai_sources.specs.declared.items.NumberedItem.{NumberedItem}
use Rattle.plai_sources.specs.declared.items.Item.{Item}
use Rattle.plai_sources.specs.declared.items.Item.TheVariants.{UseModule, Entry, Check, Clause}
use Rattle.plai_sources.specs.Items as source
use Rattle.plai_modules.specs.Steps.{and_then}
use Rattle.plai_modules.specs.Importing.{imports_of}
use Rattle.plai_modules.specs.Loading.{counted, counted_in, in_file, with_clause_from, with_item, with_items, with_file, linked, linked_from, program_of}

abbrev Imports : Type 0
Imports = List (List ℕ × ℕ × List ℕ)

abbrev clauses_in : List Definition → ℕ
clauses_in = sum_by (λ d. length d.clauses)

length-inserted : {A : Type 0} (xs : List A) (i : ℕ) (x : A) → length (take i xs ++ x ∷ drop i xs) ≡ length xs + 1
length-inserted xs i x =
    let whole = ap length (take-append-drop i xs) in
    omega (arith, length-append (take i xs) (x ∷ drop i xs), length-append (take i xs) (drop i xs), whole)

clause-counted : (ds : List Definition) (pred : PredKey) (clause : clause.Clause) → clauses_in (with_clause ds pred clause) ≡ clauses_in ds + 1
clause-counted [] pred clause = refl
clause-counted (d ∷ ds) pred clause = case (same_pred d.pred pred) (with_clause ds pred clause) (clause-counted ds pred clause)
  where
    longer : Definition
    longer = record { pred = d.pred; clauses = d.clauses ++ clause ∷ [] }

    case : (same : Bool) (rest : List Definition) → clauses_in rest ≡ clauses_in ds + 1
        → clauses_in (if same then longer ∷ ds else d ∷ rest) ≡ clauses_in (d ∷ ds) + 1
    case true rest e =
        omega (
          arith,
          sum_by-cons (λ (x : Definition). length x.clauses) longer ds,
          sum_by-cons (λ (x : Definition). length x.clauses) d ds,
          length-append d.clauses (clause ∷ []),
        )
    case false rest e = omega (arith, sum_by-cons (λ (x : Definition). length x.clauses) d rest, sum_by-cons (λ (x : Definition). length x.clauses) d ds)

one-clause : (m : List ℕ) (program : ProgramView) (given : Result clause.Clause ClauseCause)
    → items_of (with_clause_from program m given) ≤ items_of program + 1
one-clause m program (Ok clause) = omega
    (arith, clause-counted program.definitions (record { «module» = m; name = clause.name; arity = length clause.head }) clause)
one-clause m program (Err cause) = omega arith

module _ (m : List ℕ) (imports : Imports) where
  one-item : (program : ProgramView) (item : Item) → items_of (with_item m imports program item) ≤ items_of program + cond (source.is_counted item) 1 0
  one-item program (UseModule from keys) = omega arith
  one-item program (Entry e) = omega (arith, length-inserted {A = entry.Entry})
  one-item program (Check c) = omega (arith, length-inserted {A = check.Check})
  one-item program (Clause read) = one-clause m program (clause_of m imports read)

  all-items : (items : List NumberedItem) (program : ProgramView)
      → items_of (with_items m imports program items) ≤ items_of program + count_by (λ numbered. source.is_counted numbered.item) items
  all-items [] program = omega arith
  all-items (n ∷ items) program =
      let first = one-item program n.item in
      let rest = all-items items (with_item m imports program n.item) in
      omega (arith, first, rest, sum_by-cons (λ (numbered : NumberedItem). cond (source.is_counted numbered.item) 1 0) n items)

module _ (files : List FileItems) where
  imported : (program behind : ProgramView) (file : FileItems) (imports : Result Imports source.Refusal)
      → and_then imports (λ is. Ok (with_file program file is)) ≡ Ok behind → items_of behind ≤ items_of program + counted file
  imported program behind file (Ok imports) e =
      let same : with_file program file imports ≡ behind = cc in
      subst (λ (p : ProgramView). items_of p ≤ items_of program + counted file) same
      (all-items file.module imports file.items (with_module program (record { name = file.module; exports = file.exports; imports = imports })))
  imported program behind file (Err refusal) e = cc

  tested : (there : Bool) (refusal : source.Refusal) (program behind : ProgramView) (file : FileItems) (imports : Result Imports source.Refusal)
      → (if there then Err refusal else and_then imports (λ is. Ok (with_file program file is))) ≡ Ok behind → items_of behind ≤ items_of program + counted file
  tested true refusal program behind file imports e = cc
  tested false refusal program behind file imports e = imported program behind file imports e

  one-file : (program behind : ProgramView) (file : FileItems) → linked files program file ≡ Ok behind → items_of behind ≤ items_of program + counted file
  one-file program behind file e = tested (is_some (module_in program.modules file.module)) (source.refusal 1 DuplicateModule) program behind file
      (imports_of files file.items) e

  next : (number : ℕ) (more : List FileItems) (given : Result ProgramView source.Refusal) (whole : ProgramView)
      → and_then (in_file number given) (λ behind. linked_from files (number + 1) behind more) ≡ Ok whole
      → (behind : ProgramView) × (given ≡ Ok behind) × (linked_from files (number + 1) behind more ≡ Ok whole)
  next number more (Ok behind) whole e = (behind, refl, e)
  next number more (Err refusal) whole e = cc

  all-files : (more : List FileItems) (number : ℕ) (program whole : ProgramView) → linked_from files number program more ≡ Ok whole
      → items_of whole ≤ items_of program + counted_in more
  all-files [] number program whole e = let same : program ≡ whole = cc in
      subst (λ (p : ProgramView). items_of p ≤ items_of program + counted_in []) same (omega arith)
  all-files (file ∷ more) number program whole e =
      let t = next number more (linked files program file) whole e in
      let first = one-file program t.0 file t.1 in
      let rest = all-files more (number + 1) t.0 whole t.2 in
      omega (arith, first, rest, sum_by-cons counted file more)

-- Theorem: a program has no more clauses, entries and checks than its files.
pub program-counted : (files : List FileItems) (whole : ProgramView) → program_of files ≡ Ok whole → items_of whole ≤ counted_in files
program-counted files whole e = let all = all-files files files 1 empty whole e in omega (arith, all)
