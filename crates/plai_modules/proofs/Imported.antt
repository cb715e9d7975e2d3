-- What a file imports, where none of its directives is refused.
use Rattle.std.proofs.Common.{◌||◌, ◌≡◌, ℕ, Bool, true, false, ◌&&◌, not, nat_eq, eq-eqb, List, [], ◌∷◌, ◌++◌, inl, inr, refl, ap, sym, ◌∙◌, subst}
use Rattle.std.proofs.Common.{if◌then◌else◌}
use Rattle.std.specs.Prelude.{Option, Some, None, is_some, Result, Ok, Err}
use Rattle.std.specs.Option.{option_map_or}
use Rattle.std.specs.List.{list_any, list_all}
use Rattle.std.specs.Cmp.Lexicographic.{pointwise, same_text, nat_list_eq_equiv}
use Rattle.plai_theory.specs.Words.{IsIn}
use Rattle.plai_clauses.specs.ClauseOf.{exporter}
use Rattle.plai_sources.specs.declared.cause.LoadCause.{LoadCause}
use Rattle.plai_sources.specs.declared.cause.LoadCause.TheVariants.{NotExported, ImportClash}
use Rattle.plai_sources.specs.declared.items.FileItems.{FileItems}
use Rattle.plai_sources.specs.declared.items.NumberedItem.{NumberedItem}
use Rattle.plai_sources.specs.declared.items.Item.{Item}
use Rattle.plai_sources.specs.declared.items.Item.TheVariants.{UseModule, Entry, Check, Clause}
use Rattle.plai_sources.specs.Items.{Refusal}
use Rattle.plai_modules.specs.Steps.{and_then, steps}
use Rattle.plai_modules.specs.Importing.{file_of, keys_of, is_exported, has_clause, is_from_another, clashes, with_import, with_imports, imported_from}
use Rattle.plai_modules.specs.Importing.{at_term, behind_item, behind_term}

-- looking up a key

kept-by : (test : Bool) (k m : List ℕ) (p q : Option (List ℕ)) → (p ≡ Some m → q ≡ Some m) → (if test then Some k else p) ≡ Some m
    → (if test then Some k else q) ≡ Some m
kept-by true k m p q f e = e
kept-by false k m p q f e = f e

exporter-kept : (xs ys : List (List ℕ × ℕ × List ℕ)) (name : List ℕ) (arity : ℕ) (m : List ℕ) → exporter xs name arity ≡ Some m
    → exporter (xs ++ ys) name arity ≡ Some m
exporter-kept [] ys name arity m e = cc
exporter-kept (x ∷ xs) ys name arity m e =
    kept-by (pointwise nat_eq x.0 name && nat_eq x.1 arity) x.2 m (exporter xs name arity) (exporter (xs ++ ys) name arity) (exporter-kept xs ys name arity m) e

behind-by : (test : Bool) (k : List ℕ) (p q r : Option (List ℕ)) → (p ≡ None → q ≡ r) → (if test then Some k else p) ≡ None → (if test then Some k else q) ≡ r
behind-by true k p q r f e = cc
behind-by false k p q r f e = f e

exporter-behind : (xs ys : List (List ℕ × ℕ × List ℕ)) (name : List ℕ) (arity : ℕ) → exporter xs name arity ≡ None
    → exporter (xs ++ ys) name arity ≡ exporter ys name arity
exporter-behind [] ys name arity e = refl
exporter-behind (x ∷ xs) ys name arity e =
    behind-by (pointwise nat_eq x.0 name && nat_eq x.1 arity) x.2 (exporter xs name arity) (exporter (xs ++ ys) name arity) (exporter ys name arity)
    (exporter-behind xs ys name arity) e

same-key : (name : List ℕ) (arity : ℕ) → (pointwise nat_eq name name && nat_eq arity arity) ≡ true
same-key name arity = rw (nat_list_eq_equiv.refl name) (eq-eqb arity arity refl)

negated : (b : Bool) → not b ≡ false → b ≡ true
negated true e = refl
negated false e = cc

-- one more import

module _ (from : List ℕ) (imports : List (List ℕ × ℕ × List ℕ)) (key : List ℕ × ℕ) where
  abbrev pub added : Option (List ℕ) → List (List ℕ × ℕ × List ℕ)
  added there = if is_some there then imports else imports ++ (key.0, key.1, from) ∷ []

  kept-added : (there : Option (List ℕ)) (name : List ℕ) (arity : ℕ) (m : List ℕ) → exporter imports name arity ≡ Some m
      → exporter (added there) name arity ≡ Some m
  kept-added (Some k) name arity m e = e
  kept-added None name arity m e = exporter-kept imports ((key.0, key.1, from) ∷ []) name arity m e

  pub import-kept : (name : List ℕ) (arity : ℕ) (m : List ℕ) → exporter imports name arity ≡ Some m
      → exporter (with_import from imports key) name arity ≡ Some m
  import-kept name arity m e = kept-added (exporter imports key.0 key.1) name arity m e

  same-module : (m : List ℕ) → not (pointwise nat_eq m from) ≡ false → m ≡ from
  same-module m e = same_text m from (sym (negated (pointwise nat_eq m from) e))

  found-added : (there : Option (List ℕ)) → exporter imports key.0 key.1 ≡ there
      → option_map_or (λ other. not (pointwise nat_eq other from)) there false ≡ false
      → exporter (added there) key.0 key.1 ≡ Some from
  found-added (Some m) e free = e ∙ ap Some (same-module m free)
  found-added None e free =
      exporter-behind imports ((key.0, key.1, from) ∷ []) key.0 key.1 e ∙ ap (λ test. if test then Some from else None) (same-key key.0 key.1)

  pub import-found : is_from_another imports from key ≡ false → exporter (with_import from imports key) key.0 key.1 ≡ Some from
  import-found free = found-added (exporter imports key.0 key.1) refl free

  free-behind : (test : Bool) → option_map_or (λ other. not (pointwise nat_eq other from)) (if test then Some from else None) false ≡ false
  free-behind true = ap not (nat_list_eq_equiv.refl from)
  free-behind false = refl

  free-found : (there mine : Option (List ℕ)) (other : List ℕ × ℕ) → exporter imports other.0 other.1 ≡ mine
      → option_map_or (λ m. not (pointwise nat_eq m from)) mine false ≡ false
      → is_from_another (added there) from other ≡ false
  free-found (Some k) mine other e free = ap (λ o. option_map_or (λ m. not (pointwise nat_eq m from)) o false) e ∙ free
  free-found None (Some m) other e free =
      ap (λ o. option_map_or (λ m. not (pointwise nat_eq m from)) o false) (exporter-kept imports ((key.0, key.1, from) ∷ []) other.0 other.1 m e) ∙ free
  free-found None None other e free =
      ap (λ o. option_map_or (λ m. not (pointwise nat_eq m from)) o false) (exporter-behind imports ((key.0, key.1, from) ∷ []) other.0 other.1 e)
      ∙ free-behind (pointwise nat_eq key.0 other.0 && nat_eq key.1 other.1)

  pub import-free : (other : List ℕ × ℕ) → is_from_another imports from other ≡ false → is_from_another (with_import from imports key) from other ≡ false
  import-free other free = free-found (exporter imports key.0 key.1) (exporter imports other.0 other.1) other refl free

-- the imports of a directive

imports-kept : (from : List ℕ) (keys : List (List ℕ × ℕ)) (imports : List (List ℕ × ℕ × List ℕ)) (name : List ℕ) (arity : ℕ) (m : List ℕ)
    → exporter imports name arity ≡ Some m → exporter (with_imports from imports keys) name arity ≡ Some m
imports-kept from [] imports name arity m e = e
imports-kept from (key ∷ keys) imports name arity m e =
    imports-kept from keys (with_import from imports key) name arity m (import-kept from imports key name arity m e)

imports-found : (from : List ℕ) (keys : List (List ℕ × ℕ)) (imports : List (List ℕ × ℕ × List ℕ))
    → ((other : List ℕ × ℕ) → IsIn other keys → is_from_another imports from other ≡ false)
    → (key : List ℕ × ℕ) → IsIn key keys → exporter (with_imports from imports keys) key.0 key.1 ≡ Some from
imports-found from [] imports free key i = absurd i
imports-found from (k ∷ keys) imports free key (inl same) =
    subst (λ (x : List ℕ × ℕ). exporter (with_imports from imports (k ∷ keys)) x.0 x.1 ≡ Some from) same
    (imports-kept from keys (with_import from imports k) k.0 k.1 from (import-found from imports k (free k (inl refl))))
imports-found from (k ∷ keys) imports free key (inr i) =
    imports-found from keys (with_import from imports k) (λ other j. import-free from imports k other (free other (inr j))) key i

pub neither : (p q : Bool) → (p || q) ≡ false → (p ≡ false) × (q ≡ false)
neither false q e = (refl, e)
neither true q e = cc

pub both : (p q : Bool) → (p && q) ≡ true → (p ≡ true) × (q ≡ true)
both true q e = (refl, e)
both false q e = cc

pub none-of : (test : List ℕ × ℕ → Bool) (keys : List (List ℕ × ℕ)) → list_any test keys ≡ false → (key : List ℕ × ℕ) → IsIn key keys → test key ≡ false
none-of test [] e key i = absurd i
none-of test (k ∷ keys) e key (inl same) = subst (λ (x : List ℕ × ℕ). test x ≡ false) same (neither (test k) (list_any test keys) e).0
none-of test (k ∷ keys) e key (inr i) = none-of test keys (neither (test k) (list_any test keys) e).1 key i

pub accepted : (exported clash : Bool) (x b : List (List ℕ × ℕ × List ℕ))
    → (if not exported then Err NotExported else (if clash then Err ImportClash else Ok x)) ≡ Ok b → (clash ≡ false) × (x ≡ b)
accepted false clash x b e = cc
accepted true true x b e = cc
accepted true false x b e = (refl, cc)

module _ (items : List NumberedItem) (imports behind : List (List ℕ × ℕ × List ℕ)) (from : List ℕ) (named : Option (List (List ℕ × ℕ))) where
  directive-kept : (there : Option FileItems) → imported_from items imports from named there ≡ Ok behind
      → (name : List ℕ) (arity : ℕ) (m : List ℕ) → exporter imports name arity ≡ Some m → exporter behind name arity ≡ Some m
  directive-kept None e name arity m f = cc
  directive-kept (Some file) e name arity m f =
      let keys = keys_of named file.exports in
      let p = accepted (list_all (is_exported file.exports) keys) (list_any (clashes items imports from) keys) (with_imports from imports keys) behind e in
      subst (λ (x : List (List ℕ × ℕ × List ℕ)). exporter x name arity ≡ Some m) p.1 (imports-kept from keys imports name arity m f)

  directive-found : (file : FileItems) → imported_from items imports from named (Some file) ≡ Ok behind
      → (key : List ℕ × ℕ) → IsIn key (keys_of named file.exports) → exporter behind key.0 key.1 ≡ Some from
  directive-found file e key i =
      let keys = keys_of named file.exports in
      let p = accepted (list_all (is_exported file.exports) keys) (list_any (clashes items imports from) keys) (with_imports from imports keys) behind e in
      let free = λ (other : List ℕ × ℕ) (j : IsIn other keys).
      (neither (has_clause items other) (is_from_another imports from other) (none-of (clashes items imports from) keys p.0 other j)).1 in
      subst (λ (x : List (List ℕ × ℕ × List ℕ)). exporter x key.0 key.1 ≡ Some from) p.1 (imports-found from keys imports free key i)

-- the imports of a file

module _ (files : List FileItems) (items : List NumberedItem) where
  item-kept : (imports behind : List (List ℕ × ℕ × List ℕ)) (item : Item) → behind_item files items imports item ≡ Ok behind
      → (name : List ℕ) (arity : ℕ) (m : List ℕ) → exporter imports name arity ≡ Some m → exporter behind name arity ≡ Some m
  item-kept imports behind (UseModule from named) e name arity m f = directive-kept items imports behind from named (file_of files from) e name arity m f
  item-kept imports behind (Entry x) e name arity m f = let same : imports ≡ behind = cc in
      subst (λ (x : List (List ℕ × ℕ × List ℕ)). exporter x name arity ≡ Some m) same f
  item-kept imports behind (Check x) e name arity m f = let same : imports ≡ behind = cc in
      subst (λ (x : List (List ℕ × ℕ × List ℕ)). exporter x name arity ≡ Some m) same f
  item-kept imports behind (Clause x) e name arity m f = let same : imports ≡ behind = cc in
      subst (λ (x : List (List ℕ × ℕ × List ℕ)). exporter x name arity ≡ Some m) same f

  pub unnumbered : (term : ℕ) (r : Result (List (List ℕ × ℕ × List ℕ)) LoadCause) (behind : List (List ℕ × ℕ × List ℕ)) → at_term term r ≡ Ok behind
      → r ≡ Ok behind
  unnumbered term (Ok x) behind e = let same : x ≡ behind = cc in ap Ok same
  unnumbered term (Err c) behind e = cc

  -- a step that isn't refused, and the steps behind it
  pub taken : (r : Result (List (List ℕ × ℕ × List ℕ)) Refusal) (rest : List NumberedItem) (whole : List (List ℕ × ℕ × List ℕ))
      → and_then r (λ b. steps (behind_term files items) b rest) ≡ Ok whole
      → (b : List (List ℕ × ℕ × List ℕ)) × (r ≡ Ok b) × (steps (behind_term files items) b rest ≡ Ok whole)
  taken (Ok b) rest whole e = (b, refl, e)
  taken (Err refusal) rest whole e = cc

  all-kept : (rest : List NumberedItem) (imports whole : List (List ℕ × ℕ × List ℕ)) → steps (behind_term files items) imports rest ≡ Ok whole
      → (name : List ℕ) (arity : ℕ) (m : List ℕ) → exporter imports name arity ≡ Some m → exporter whole name arity ≡ Some m
  all-kept [] imports whole e name arity m f = let same : imports ≡ whole = cc in
      subst (λ (x : List (List ℕ × ℕ × List ℕ)). exporter x name arity ≡ Some m) same f
  all-kept (n ∷ rest) imports whole e name arity m f =
      let t = taken (behind_term files items imports n) rest whole e in
      all-kept rest t.0 whole t.2 name arity m
      (item-kept imports t.0 n.item (unnumbered n.term (behind_item files items imports n.item) t.0 t.1) name arity m f)

  module _ (numbered : NumberedItem) (from : List ℕ) (named : Option (List (List ℕ × ℕ))) (file : FileItems)
      (says : numbered.item ≡ UseModule from named) (there : file_of files from ≡ Some file) (key : List ℕ × ℕ)
      (listed : IsIn key (keys_of named file.exports)) where
    here : (imports behind : List (List ℕ × ℕ × List ℕ)) → behind_term files items imports numbered ≡ Ok behind → exporter behind key.0 key.1 ≡ Some from
    here imports behind e =
        directive-found items imports behind from named file
        (ap (imported_from items imports from named) (sym there) ∙ ap (behind_item files items imports) (sym says)
        ∙ unnumbered numbered.term (behind_item files items imports numbered.item) behind e)
        key listed

    pub named-found : (rest : List NumberedItem) (imports whole : List (List ℕ × ℕ × List ℕ)) → steps (behind_term files items) imports rest ≡ Ok whole
        → IsIn numbered rest → exporter whole key.0 key.1 ≡ Some from
    named-found [] imports whole e i = absurd i
    named-found (n ∷ rest) imports whole e (inl same) =
        let t = taken (behind_term files items imports n) rest whole e in
        all-kept rest t.0 whole t.2 key.0 key.1 from (here imports t.0 (ap (behind_term files items imports) (sym same) ∙ t.1))
    named-found (n ∷ rest) imports whole e (inr i) =
        let t = taken (behind_term files items imports n) rest whole e in
        named-found rest t.0 whole t.2 i
