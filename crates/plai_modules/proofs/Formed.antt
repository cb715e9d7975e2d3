-- Programs of well-formed files are well formed.
use Rattle.std.proofs.Common.{◌≡◌, ℕ, ◌+◌, ◌<◌, Bool, true, false, zero, suc, List, [], ◌∷◌, length, get_or, inl, inr, refl, subst, arith}
use Rattle.std.specs.Prelude.{Result, Ok, Err, is_some, All, if◌then◌else◌}
use Rattle.std.proofs.lemmas.List.Elements.{All-head, All-tail}
use Rattle.plai_theory.specs.Words.{IsIn}
use Rattle.plai_terms.specs.declared.read_term.ReadTerm.{ReadTerm}
use Rattle.plai_terms.specs.Readable.{IsReadable}
use Rattle.plai_clauses.specs.declared.clause.Clause as clause
use Rattle.plai_clauses.specs.declared.cause.ClauseCause.{ClauseCause}
use Rattle.plai_clauses.specs.declared.entry.Entry as entry
use Rattle.plai_clauses.specs.declared.check.Check as check
use Rattle.plai_clauses.specs.declared.modules.Module.{Module}
use Rattle.plai_clauses.specs.ClauseOf.{clause_of}
use Rattle.plai_clauses.specs.Program.{ProgramView, empty, module_in, with_module, with_clause_of, with_entry, with_check}
use Rattle.plai_clauses.specs.WellFormed.{IsWellFormed, IsWellFormedClause, IsWellFormedEntry, IsWellFormedCheck}
use Rattle.plai_sources.specs.declared.cause.LoadCause.TheVariants.{DuplicateModule}
use Rattle.plai_sources.specs.declared.items.FileItems.{FileItems}
use Rattle.plai_sources.specs.declared.items.NumberedItem.{NumberedItem}
use Rattle.plai_sources.specs.declared.items.Item.{Item}
use Rattle.plai_sources.specs.declared.items.Item.TheVariants.{UseModule, Entry, Check, Clause}
use Rattle.plai_sources.specs.Items as source
use Rattle.plai_sources.specs.WellFormed.{IsWellFormedItem, AreWellFormedItems}
use Rattle.plai_modules.specs.Steps.{and_then}
use Rattle.plai_modules.specs.Importing.{imports_of}
use Rattle.plai_modules.specs.Loading.{in_file, pred_spoken_of, with_clause_from, with_item, with_items, with_file, linked, linked_from, program_of}

pub IsIn-get_or : {A : Type 0} (xs : List A) (i : ℕ) (d : A) → i < length xs → IsIn (get_or xs i d) xs
IsIn-get_or [] i d h = absurd (omega arith)
IsIn-get_or (x ∷ xs) zero d h = inl refl
IsIn-get_or (x ∷ xs) (suc i) d h = inr (IsIn-get_or xs i d (omega arith))

formed-empty : IsWellFormed empty
formed-empty = record {
  names = λ pred clause h. absurd h;
  arities = λ pred clause h. absurd h;
  clauses = λ pred clause h. absurd h;
  entries = λ e h. absurd h;
  checks = λ c h. absurd h;
}

module _
    (added_module : (program : ProgramView) (added : Module) → IsWellFormed program → IsWellFormed (with_module program added))
    (added_clause : (program : ProgramView) (name : List ℕ) (clause : clause.Clause) → IsWellFormed program
    → IsWellFormedClause clause → IsWellFormed (with_clause_of program name clause))
    (added_entry : (program : ProgramView) (entry : entry.Entry) → IsWellFormed program → IsWellFormedEntry entry → IsWellFormed (with_entry program entry))
    (added_check : (program : ProgramView) (check : check.Check) → IsWellFormed program → IsWellFormedCheck check → IsWellFormed (with_check program check))
    (said : (name : List ℕ) (imports : List (List ℕ × ℕ × List ℕ)) (read : ReadTerm) (clause : clause.Clause)
    → IsReadable read → clause_of name imports read ≡ Ok clause → IsWellFormedClause clause) where
  formed-clause : (m : List ℕ) (program : ProgramView) (given : Result clause.Clause ClauseCause)
      → ((clause : clause.Clause) → given ≡ Ok clause → IsWellFormedClause clause)
      → IsWellFormed program → IsWellFormed (with_clause_from program m given)
  formed-clause m program (Ok clause) h p = added_clause program m clause p (h clause refl)
  formed-clause m program (Err cause) h p = p

  formed-item : (m : List ℕ) (imports : List (List ℕ × ℕ × List ℕ)) (program : ProgramView) (item : Item) → IsWellFormedItem m item → IsWellFormed program
      → IsWellFormed (with_item m imports program item)
  formed-item m imports program (UseModule from keys) h p = p
  formed-item m imports program (Entry e) h p =
      added_entry program (record { «module» = m; pred = pred_spoken_of m imports e.name e.arity; pre = e.pre }) p (record { few = h.few; pre = h.pre })
  formed-item m imports program (Check c) h p =
      added_check program (record { «module» = m; kind = c.kind; pred = pred_spoken_of m imports c.name c.arity; pre = c.pre; post = c.post }) p
      (record { few = h.few; pre = h.pre; post = h.post })
  formed-item m imports program (Clause read) h p = formed-clause m program (clause_of m imports read) (λ clause e. said m imports read clause h.readable e) p

  formed-items : (m : List ℕ) (imports : List (List ℕ × ℕ × List ℕ)) (items : List NumberedItem) (program : ProgramView)
      → ((numbered : NumberedItem) → IsIn numbered items → IsWellFormedItem m numbered.item) → IsWellFormed program
      → IsWellFormed (with_items m imports program items)
  formed-items m imports [] program h p = p
  formed-items m imports (n ∷ items) program h p =
      formed-items m imports items (with_item m imports program n.item) (λ k i. h k (inr i)) (formed-item m imports program n.item (h n (inl refl)) p)

  formed-file : (program : ProgramView) (file : FileItems) (imports : List (List ℕ × ℕ × List ℕ)) → AreWellFormedItems file → IsWellFormed program
      → IsWellFormed (with_file program file imports)
  formed-file program file imports h p =
      let added : Module = record { name = file.module; exports = file.exports; imports = imports } in
      formed-items file.module imports file.items (with_module program added) h (added_module program added p)

  formed-imported : (program behind : ProgramView) (file : FileItems) (imports : Result (List (List ℕ × ℕ × List ℕ)) source.Refusal) → AreWellFormedItems file
      → IsWellFormed program
      → and_then imports (λ is. Ok (with_file program file is)) ≡ Ok behind → IsWellFormed behind
  formed-imported program behind file (Ok imports) h p e = let same : with_file program file imports ≡ behind = cc in
      subst IsWellFormed same (formed-file program file imports h p)
  formed-imported program behind file (Err refusal) h p e = cc

  formed-tested : (there : Bool) (refusal : source.Refusal) (program behind : ProgramView) (file : FileItems)
      (imports : Result (List (List ℕ × ℕ × List ℕ)) source.Refusal) → AreWellFormedItems file → IsWellFormed program
      → (if there then Err refusal else and_then imports (λ is. Ok (with_file program file is))) ≡ Ok behind → IsWellFormed behind
  formed-tested true refusal program behind file imports h p e = cc
  formed-tested false refusal program behind file imports h p e = formed-imported program behind file imports h p e

  formed-linked : (files : List FileItems) (program behind : ProgramView) (file : FileItems) → AreWellFormedItems file → IsWellFormed program
      → linked files program file ≡ Ok behind → IsWellFormed behind
  formed-linked files program behind file h p e =
      formed-tested (is_some (module_in program.modules file.module)) (source.refusal 1 DuplicateModule) program behind file (imports_of files file.items) h p e

  module _ (files : List FileItems) where
    formed-next : (number : ℕ) (more : List FileItems) (given : Result ProgramView source.Refusal) (whole : ProgramView)
        → ((behind : ProgramView) → given ≡ Ok behind → linked_from files (number + 1) behind more ≡ Ok whole → IsWellFormed whole)
        → and_then (in_file number given) (λ behind. linked_from files (number + 1) behind more) ≡ Ok whole → IsWellFormed whole
    formed-next number more (Ok behind) whole f e = f behind refl e
    formed-next number more (Err refusal) whole f e = cc

    formed-from : (more : List FileItems) (number : ℕ) (program whole : ProgramView) → All AreWellFormedItems more → IsWellFormed program
        → linked_from files number program more ≡ Ok whole → IsWellFormed whole
    formed-from [] number program whole h p e = let same : program ≡ whole = cc in subst IsWellFormed same p
    formed-from (file ∷ more) number program whole h p e =
        formed-next number more (linked files program file) whole
        (λ behind is next. formed-from more (number + 1) behind whole (All-tail AreWellFormedItems file more h)
        (formed-linked files program behind file (All-head AreWellFormedItems file more h) p is) next)
        e

  -- Theorem: the program of well-formed files is well formed.
  pub formed-program : (files : List FileItems) (whole : ProgramView) → All AreWellFormedItems files → program_of files ≡ Ok whole → IsWellFormed whole
  formed-program files whole h e = formed-from files files 1 empty whole h formed-empty e
