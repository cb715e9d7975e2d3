-- What is known of the items of a file.
use Rattle.std.specs.Prelude.{◌≡◌, ℕ, ◌+◌, ◌≤◌, count_by, All, IsTrue, Option, Some, None, List, [], IsOk}
use Rattle.plai_theory.specs.Words.{IsIn}
use Rattle.plai_terms.specs.declared.read_term.ReadTerm.{ReadTerm}
use Rattle.plai_terms.specs.Readable.{IsReadable}
use Rattle.plai_domain.specs.Conditions.{most_arguments}
use Rattle.plai_domain.specs.Instances.{speaks_within}
use Rattle.plai_clauses.specs.Builtins.{is_definable}
use Rattle.plai_clauses.specs.ClauseOf.{clause_of}
use Rattle.plai_sources.specs.declared.items.Item.{Item}
use Rattle.plai_sources.specs.declared.items.Item.TheVariants as item
use Rattle.plai_sources.specs.declared.items.EntryItem.{EntryItem}
use Rattle.plai_sources.specs.declared.items.CheckItem.{CheckItem}
use Rattle.plai_sources.specs.declared.items.NumberedItem.{NumberedItem}
use Rattle.plai_sources.specs.declared.items.FileItems.{FileItems}
use Rattle.plai_sources.specs.declared.items.Header.{Header}
use Rattle.plai_sources.specs.declared.reading.Reading.{Reading}
use Rattle.plai_sources.specs.Items.{most_items, is_counted}

-- a term as it was read that says a clause in the module
pub record IsClauseItem (own : List ℕ) (read : ReadTerm) : Type 0 where
  pub readable : IsReadable read
  pub says : IsOk (clause_of own [] read)

-- an entry of a predicate that a program may define, with properties of its arguments
pub record IsEntryItem (entry : EntryItem) : Type 0 where
  pub definable : IsTrue (is_definable entry.name entry.arity)
  pub few : entry.arity ≤ most_arguments
  pub pre : All (speaks_within entry.arity) entry.pre

pub record IsCheckItem (check : CheckItem) : Type 0 where
  pub definable : IsTrue (is_definable check.name check.arity)
  pub few : check.arity ≤ most_arguments
  pub pre : All (speaks_within check.arity) check.pre
  pub post : All (speaks_within check.arity) check.post

abbrev pub IsWellFormedItem : List ℕ → Item → Type 0
IsWellFormedItem own (item.UseModule name keys) = Unit {0}
IsWellFormedItem own (item.Entry e) = IsEntryItem e
IsWellFormedItem own (item.Check c) = IsCheckItem c
IsWellFormedItem own (item.Clause read) = IsClauseItem own read

-- each item of the file is well formed
abbrev pub AreWellFormedItems : FileItems → Type 0
AreWellFormedItems file = (numbered : NumberedItem) → IsIn numbered file.items → IsWellFormedItem file.module numbered.item

-- the items of a file so far are well formed; before its first term it has none
abbrev pub AreWellFormedUnder : Option Header → List NumberedItem → Type 0
AreWellFormedUnder None items = items ≡ []
AreWellFormedUnder (Some h) items = (numbered : NumberedItem) → IsIn numbered items → IsWellFormedItem h.module numbered.item

-- how many clauses, entries and checks there are among items
abbrev pub counted_items : List NumberedItem → ℕ
counted_items items = count_by (λ numbered. is_counted numbered.item) items

-- a file so far is well formed, its items are counted on, and with it the program has no more items than are allowed, if it hadn't before
pub record IsGood (there : ℕ) (r : Reading) : Type 0 where
  pub items : AreWellFormedUnder r.header r.items
  pub count : r.count ≡ there + counted_items r.items
  pub few : there ≤ most_items → r.count ≤ most_items
