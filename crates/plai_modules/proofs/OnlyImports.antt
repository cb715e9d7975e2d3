-- Nothing is imported but what a directive names and its module exports.
use Rattle.std.proofs.Common.{◌≡◌, ℕ, Bool, true, false, not, List, [], ◌∷◌, ◌++◌, ◌⊎◌, inl, inr, refl, sym, subst, if◌then◌else◌}
use Rattle.std.specs.Prelude.{Option, Some, None, Ok, Err}
use Rattle.std.specs.List.{list_any, list_all}
use Rattle.plai_theory.specs.Words.{IsIn}
use Rattle.plai_clauses.specs.ClauseOf.{exporter}
use Rattle.plai_sources.specs.declared.cause.LoadCause.TheVariants.{NotExported, ImportClash}
use Rattle.plai_sources.specs.declared.items.FileItems.{FileItems}
use Rattle.plai_sources.specs.declared.items.NumberedItem.{NumberedItem}
use Rattle.plai_sources.specs.declared.items.Item.{Item}
use Rattle.plai_sources.specs.declared.items.Item.TheVariants.{UseModule, Entry, Check, Clause}
use Rattle.plai_modules.specs.Steps.{steps}
use Rattle.plai_modules.specs.Importing.{file_of, keys_of, is_exported, has_clause, is_from_another, clashes, with_import, with_imports, imported_from}
use Rattle.plai_modules.specs.Importing.{behind_item, behind_term, imports_of, IsImport}
use Rattle.plai_modules.proofs.Imported.{added, neither, both, none-of, accepted, unnumbered, taken}

-- nothing else is imported

IsIn-append : {A : Type 0} (x : A) (xs ys : List A) → IsIn x (xs ++ ys) → IsIn x xs ⊎ IsIn x ys
IsIn-append x [] ys i = inr i
IsIn-append x (z ∷ xs) ys (inl same) = inl (inl same)
IsIn-append x (z ∷ xs) ys (inr i) = moved (IsIn-append x xs ys i)
  where
    moved : IsIn x xs ⊎ IsIn x ys → IsIn x (z ∷ xs) ⊎ IsIn x ys
    moved (inl j) = inl (inr j)
    moved (inr j) = inr j

abbrev Import : Type 0
Import = List ℕ × ℕ × List ℕ

module _ (from : List ℕ) where
  -- an import of one of these keys from the module
  abbrev IsOneOf : List (List ℕ × ℕ) → Import → Type 0
  IsOneOf keys i = (key : List ℕ × ℕ) × (IsIn key keys) × (i ≡ (key.0, key.1, from))

  added-is : (imports : List Import) (key : List ℕ × ℕ) (there : Option (List ℕ)) (i : Import) → IsIn i (added from imports key there)
      → IsIn i imports ⊎ (i ≡ (key.0, key.1, from))
  added-is imports key (Some m) i j = inl j
  added-is imports key None i j = last (IsIn-append i imports ((key.0, key.1, from) ∷ []) j)
    where
      last : IsIn i imports ⊎ IsIn i ((key.0, key.1, from) ∷ []) → IsIn i imports ⊎ (i ≡ (key.0, key.1, from))
      last (inl k) = inl k
      last (inr (inl same)) = inr (sym same)
      last (inr (inr never)) = absurd never

  imports-are : (keys : List (List ℕ × ℕ)) (imports : List Import) (i : Import) → IsIn i (with_imports from imports keys) → IsIn i imports ⊎ IsOneOf keys i
  imports-are [] imports i j = inl j
  imports-are (k ∷ keys) imports i j = earlier (imports-are keys (with_import from imports k) i j)
    where
      first : IsIn i imports ⊎ (i ≡ (k.0, k.1, from)) → IsIn i imports ⊎ IsOneOf (k ∷ keys) i
      first (inl old) = inl old
      first (inr same) = inr (k, inl refl, same)

      earlier : IsIn i (with_import from imports k) ⊎ IsOneOf keys i → IsIn i imports ⊎ IsOneOf (k ∷ keys) i
      earlier (inl new) = first (added-is imports k (exporter imports k.0 k.1) i new)
      earlier (inr (key, old, same)) = inr (key, inr old, same)

all-of : (test : List ℕ × ℕ → Bool) (keys : List (List ℕ × ℕ)) → list_all test keys ≡ true → (key : List ℕ × ℕ) → IsIn key keys → test key ≡ true
all-of test [] e key i = absurd i
all-of test (k ∷ keys) e key (inl same) = subst (λ (x : List ℕ × ℕ). test x ≡ true) same (both (test k) (list_all test keys) e).0
all-of test (k ∷ keys) e key (inr i) = all-of test keys (both (test k) (list_all test keys) e).1 key i

every-key : (exported clash : Bool) (x b : List Import) → (if not exported then Err NotExported else (if clash then Err ImportClash else Ok x)) ≡ Ok b
    → exported ≡ true
every-key false clash x b e = cc
every-key true clash x b e = refl

module _ (files : List FileItems) (items : List NumberedItem) where
  AreImports : List Import → Type 0
  AreImports imports = (i : Import) → IsIn i imports → IsImport files items i

  directive-are : (directive : NumberedItem) → IsIn directive items → (imports behind : List Import) (from : List ℕ) (named : Option (List (List ℕ × ℕ)))
      → directive.item ≡ UseModule from named
      → (there : Option FileItems) → file_of files from ≡ there → imported_from items imports from named there ≡ Ok behind → AreImports imports
      → AreImports behind
  unfolding AreImports
  directive-are directive stands imports behind from named says None f e before i j = cc
  directive-are directive stands imports behind from named says (Some file) f e before i j =
      found (imports-are from keys imports i (subst (λ (x : List Import). IsIn i x) (sym p.1) j))
    where
      keys : List (List ℕ × ℕ)
      keys = keys_of named file.exports

      p : (list_any (clashes items imports from) keys ≡ false) × (with_imports from imports keys ≡ behind)
      p = accepted (list_all (is_exported file.exports) keys) (list_any (clashes items imports from) keys) (with_imports from imports keys) behind e

      found : IsIn i imports ⊎ IsOneOf from keys i → IsImport files items i
      found (inl old) = before i old
      found (inr (key, listed, same)) =
          subst (IsImport files items) (sym same)
          (record {
            exporting = file;
            there = f;
            exported = all-of (is_exported file.exports) keys
                (every-key (list_all (is_exported file.exports) keys) (list_any (clashes items imports from) keys) (with_imports from imports keys) behind
                e) key listed;
            directive = directive;
            stands = stands;
            named = named;
            says = says;
            listed = listed;
            free = (neither (has_clause items key) (is_from_another imports from key) (none-of (clashes items imports from) keys p.0 key listed)).0;
          })

  unchanged : (imports behind : List Import) → imports ≡ behind → AreImports imports → AreImports behind
  unchanged imports behind same before = subst AreImports same before

  item-are : (n : NumberedItem) → IsIn n items → (imports behind : List Import) (item : Item) → n.item ≡ item
      → behind_item files items imports item ≡ Ok behind → AreImports imports → AreImports behind
  item-are n stands imports behind (UseModule from named) says e before =
      directive-are n stands imports behind from named says (file_of files from) refl e before
  item-are n stands imports behind (Entry x) says e before = let same : imports ≡ behind = cc in unchanged imports behind same before
  item-are n stands imports behind (Check x) says e before = let same : imports ≡ behind = cc in unchanged imports behind same before
  item-are n stands imports behind (Clause x) says e before = let same : imports ≡ behind = cc in unchanged imports behind same before

  all-are : (rest : List NumberedItem) (imports whole : List Import) → ((n : NumberedItem) → IsIn n rest → IsIn n items)
      → steps (behind_term files items) imports rest ≡ Ok whole → AreImports imports → AreImports whole
  all-are [] imports whole among e before = let same : imports ≡ whole = cc in unchanged imports whole same before
  all-are (n ∷ rest) imports whole among e before =
      let t = taken files items (behind_term files items imports n) rest whole e in
      all-are rest t.0 whole (λ k j. among k (inr j)) t.2
      (item-are n (among n (inl refl)) imports t.0 n.item refl (unnumbered files items n.term (behind_item files items imports n.item) t.0 t.1) before)

  -- Theorem: each import is of a key that a directive names, that its module exports and for which the file has no clause.
  pub only-imports : (imports : List Import) → imports_of files items ≡ Ok imports → (i : Import) → IsIn i imports → IsImport files items i
  unfolding AreImports
  only-imports imports e = all-are items [] imports (λ n j. j) e (λ i j. absurd j)
