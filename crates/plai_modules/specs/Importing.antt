-- What a module imports: the keys, each a name and a number of arguments, that its directives `use_module` name, each
-- with the module that exports it (after ISO/IEC 13211-2:2000, 6.2; the forms and the refusals are this project's).
use Rattle.std.specs.Prelude.{◌≡◌, ℕ, Bool, true, false, not, ◌||◌, nat_eq, codes, fold, Option, Some, None, is_some, Result, Ok, Err, List, [], ◌∷◌, ◌++◌, length, if◌then◌else◌}
use Rattle.std.specs.Option.{option_map_or}
use Rattle.std.specs.List.{list_any, list_all}
use Rattle.std.specs.Cmp.Lexicographic.{pointwise}
use Rattle.plai_theory.specs.Words.{IsIn}
use Rattle.plai_terms.specs.declared.term.Term.{Term, out-Term}
use Rattle.plai_terms.specs.declared.term.Term.TheOpen.{Term-F}
use Rattle.plai_clauses.specs.Builtins.{is_key}
use Rattle.plai_clauses.specs.ClauseOf.{exporter, two_arguments}
use Rattle.plai_sources.specs.declared.cause.LoadCause.{LoadCause}
use Rattle.plai_sources.specs.declared.cause.LoadCause.TheVariants.{UnknownModule, NotExported, ImportClash}
use Rattle.plai_sources.specs.declared.items.FileItems.{FileItems}
use Rattle.plai_sources.specs.declared.items.NumberedItem.{NumberedItem}
use Rattle.plai_sources.specs.declared.items.Item.{Item}
use Rattle.plai_sources.specs.declared.items.Item.TheVariants.{UseModule, Clause}
use Rattle.plai_sources.specs.Items.{Refusal, refusal}
use Rattle.plai_modules.specs.Steps.{steps}

-- the first of the files whose module has this name
abbrev pub file_of : List FileItems → List ℕ → Option FileItems
file_of [] name = None
file_of (file ∷ files) name = if pointwise nat_eq file.module name then Some file else file_of files name

-- the keys that a directive names: those that it lists, or all that the module exports
abbrev pub keys_of : Option (List (List ℕ × ℕ)) → List (List ℕ × ℕ) → List (List ℕ × ℕ)
keys_of None exports = exports
keys_of (Some keys) exports = keys

abbrev pub is_exported : List (List ℕ × ℕ) → List ℕ × ℕ → Bool
is_exported exports key = list_any (is_key key.0 key.1) exports

-- the term is an atom of this key, or a compound
abbrev pub has_key_in : List ℕ × ℕ → Term-F Term → Bool
has_key_in key (Term-F.Atom name) = is_key name 0 key
has_key_in key (Term-F.Compound name args) = is_key name (length args) key
has_key_in key _ = false

abbrev pub has_key : List ℕ × ℕ → Term → Bool
has_key key t = has_key_in key (out-Term t)

-- the head of the clause that a term says: that of a rule, or the term itself
abbrev pub head_of : Term → Term
head_of t = option_map_or (λ rule. rule.0) (two_arguments (codes ":-") t) t

abbrev pub is_clause_of : List ℕ × ℕ → Item → Bool
is_clause_of key (Clause read) = has_key key (head_of read.term)
is_clause_of key _ = false

-- a file has a clause for the key, wherever it stands
abbrev pub has_clause : List NumberedItem → List ℕ × ℕ → Bool
has_clause items key = list_any (λ numbered. is_clause_of key numbered.item) items

-- the key is imported, and not from this module
abbrev pub is_from_another : List (List ℕ × ℕ × List ℕ) → List ℕ → List ℕ × ℕ → Bool
is_from_another imports from key = option_map_or (λ other. not (pointwise nat_eq other from)) (exporter imports key.0 key.1) false

-- a module with a file's items and with imports from other directives can't import the key from this module
abbrev pub clashes : List NumberedItem → List (List ℕ × ℕ × List ℕ) → List ℕ → List ℕ × ℕ → Bool
clashes items imports from key = has_clause items key || is_from_another imports from key

-- the imports with one more, unless the key is among them
abbrev pub with_import : List ℕ → List (List ℕ × ℕ × List ℕ) → List ℕ × ℕ → List (List ℕ × ℕ × List ℕ)
with_import from imports key = if is_some (exporter imports key.0 key.1) then imports else imports ++ (key.0, key.1, from) ∷ []

abbrev pub with_imports : List ℕ → List (List ℕ × ℕ × List ℕ) → List (List ℕ × ℕ) → List (List ℕ × ℕ × List ℕ)
with_imports from = fold (with_import from)

-- The imports behind a directive that names these keys of a module, given what the module exports: refused where a key
-- isn't exported, and then where one clashes.
abbrev pub imported : List NumberedItem → List (List ℕ × ℕ × List ℕ) → List ℕ → List (List ℕ × ℕ) → List (List ℕ × ℕ) → Result (List (List ℕ × ℕ × List ℕ)) LoadCause
imported items imports from exports keys =
    if not (list_all (is_exported exports) keys) then Err NotExported
    else (if list_any (clashes items imports from) keys then Err ImportClash else Ok (with_imports from imports keys))

-- the same, refused first where no file has the module
abbrev pub imported_from : List NumberedItem → List (List ℕ × ℕ × List ℕ) → List ℕ → Option (List (List ℕ × ℕ)) → Option FileItems → Result (List (List ℕ × ℕ × List ℕ)) LoadCause
imported_from items imports from named None = Err UnknownModule
imported_from items imports from named (Some file) = imported items imports from file.exports (keys_of named file.exports)

-- a refusal of the term of this number
abbrev pub at_term : {A : Type 0} → ℕ → Result A LoadCause → Result A Refusal
at_term term (Ok x) = Ok x
at_term term (Err cause) = Err (refusal term cause)

-- the imports behind one item of a file
abbrev pub behind_item : List FileItems → List NumberedItem → List (List ℕ × ℕ × List ℕ) → Item → Result (List (List ℕ × ℕ × List ℕ)) LoadCause
behind_item files items imports (UseModule from named) = imported_from items imports from named (file_of files from)
behind_item files items imports _ = Ok imports

abbrev pub behind_term : List FileItems → List NumberedItem → List (List ℕ × ℕ × List ℕ) → NumberedItem → Result (List (List ℕ × ℕ × List ℕ)) Refusal
behind_term files items imports numbered = at_term numbered.term (behind_item files items imports numbered.item)

-- a file without its items: its module and what that exports
abbrev pub head_of_file : FileItems → FileItems
head_of_file file = record { «module» = file.module; exports = file.exports; items = []; count = 0 }

-- what a file of several imports in all, or its first refused directive
abbrev pub imports_of : List FileItems → List NumberedItem → Result (List (List ℕ × ℕ × List ℕ)) Refusal
imports_of files items = steps (behind_term files items) [] items

-- An import of a file with these items: one of its directives names the key, the module that the directive names exports
-- it, and the file has no clause for it.
pub record IsImport (files : List FileItems) (items : List NumberedItem) (i : List ℕ × ℕ × List ℕ) : Type 0 where
  pub exporting : FileItems
  pub there : file_of files i.2 ≡ Some exporting
  pub exported : is_exported exporting.exports (i.0, i.1) ≡ true
  pub directive : NumberedItem
  pub stands : IsIn directive items
  pub named : Option (List (List ℕ × ℕ))
  pub says : directive.item ≡ UseModule i.2 named
  pub listed : IsIn (i.0, i.1) (keys_of named exporting.exports)
  pub free : has_clause items (i.0, i.1) ≡ false
