-- What a file imports depends on what the files export alone.
use Rattle.std.proofs.Common.{◌≡◌, ◌∙◌, ℕ, true, false, nat_eq, List, [], ◌∷◌, map, refl, ap, if◌then◌else◌}
use Rattle.std.specs.Prelude.{Option, Some, None, Result, Ok, Err, is_some}
use Rattle.std.specs.Option.{option_map}
use Rattle.std.specs.Cmp.Lexicographic.{pointwise}
use Rattle.plai_theory.proofs.Options.{by_test}
use Rattle.plai_clauses.specs.Program.{ProgramView, module_in}
use Rattle.plai_sources.specs.declared.cause.LoadCause.TheVariants.{DuplicateModule}
use Rattle.plai_sources.specs.declared.items.FileItems.{FileItems}
use Rattle.plai_sources.specs.declared.items.NumberedItem.{NumberedItem}
use Rattle.plai_sources.specs.declared.items.Item.{Item}
use Rattle.plai_sources.specs.declared.items.Item.TheVariants.{UseModule, Entry, Check, Clause}
use Rattle.plai_sources.specs.Items as source
use Rattle.plai_modules.specs.Steps.{and_then, steps}
use Rattle.plai_modules.specs.Importing.{file_of, head_of_file, imported_from, behind_item, behind_term, imports_of, at_term}
use Rattle.plai_modules.specs.Loading.{with_file, linked}

abbrev Imports : Type 0
Imports = List (List ℕ × ℕ × List ℕ)

head_found : (files : List FileItems) (name : List ℕ) → file_of (map head_of_file files) name ≡ option_map head_of_file (file_of files name)
head_found [] name = refl
head_found (file ∷ files) name = by_test (pointwise nat_eq file.module name) (λ t. rw t refl) (λ t. rw t (head_found files name))

head_imported : (items : List NumberedItem) (imports : Imports) (from : List ℕ) (named : Option (List (List ℕ × ℕ))) (o : Option FileItems)
    → imported_from items imports from named (option_map head_of_file o) ≡ imported_from items imports from named o
head_imported items imports from named None = refl
head_imported items imports from named (Some file) = refl

module _ (files : List FileItems) (items : List NumberedItem) where
  heads_item : (imports : Imports) (item : Item) → behind_item (map head_of_file files) items imports item ≡ behind_item files items imports item
  heads_item imports (UseModule from named) =
      ap (imported_from items imports from named) (head_found files from) ∙ head_imported items imports from named (file_of files from)
  heads_item imports (Entry e) = refl
  heads_item imports (Check c) = refl
  heads_item imports (Clause read) = refl

  heads_term : (imports : Imports) (numbered : NumberedItem)
      → behind_term (map head_of_file files) items imports numbered ≡ behind_term files items imports numbered
  heads_term imports numbered = ap (at_term numbered.term) (heads_item imports numbered.item)

  heads_steps : (rest : List NumberedItem) (imports : Imports)
      → steps (behind_term (map head_of_file files) items) imports rest ≡ steps (behind_term files items) imports rest
  heads_steps [] imports = refl
  heads_steps (numbered ∷ rest) imports =
      ap (λ r. and_then r (λ behind. steps (behind_term (map head_of_file files) items) behind rest)) (heads_term imports numbered)
      ∙ next (heads_steps rest) (behind_term files items imports numbered)
    where
      next : ((behind : Imports) → steps (behind_term (map head_of_file files) items) behind rest ≡ steps (behind_term files items) behind rest)
          → (r : Result Imports source.Refusal) → and_then r (λ behind. steps (behind_term (map head_of_file files) items) behind rest)
          ≡ and_then r (λ behind. steps (behind_term files items) behind rest)
      next same (Ok behind) = same behind
      next same (Err refusal) = refl

  pub heads_imports : imports_of (map head_of_file files) items ≡ imports_of files items
  heads_imports = heads_steps items []

pub heads_linked : (files : List FileItems) (program : ProgramView) (file : FileItems)
    → linked (map head_of_file files) program file ≡ linked files program file
heads_linked files program file =
    ap (λ (r : Result Imports source.Refusal). if is_some (module_in program.modules file.module) then Err (source.refusal 1 DuplicateModule) else and_then r
    (λ imports. Ok (with_file program file imports)))
    (heads_imports files file.items)
