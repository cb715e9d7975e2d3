-- Items that are taken from a list one by one.
use Rattle.std.proofs.Common.{◌≡◌, ◌∙◌, ℕ, ◌+◌, ◌<◌, List, [], ◌∷◌, ◌++◌, map, length, get_or, refl, sym, ap, subst, arith}
use Rattle.plai_theory.specs.Words.{IsIn}
use Rattle.plai_clauses.specs.Program.{ProgramView}
use Rattle.plai_sources.specs.declared.items.NumberedItem.{NumberedItem}
use Rattle.plai_modules.specs.Loading.{with_item, with_items}
use Rattle.plai_modules.proofs.Formed.{IsIn-get_or}

pub map_same : {A : Type 0} (xs : List A) → map (λ x. x) xs ≡ xs
map_same [] = refl
map_same (x ∷ xs) = ap (λ rest. x ∷ rest) (map_same xs)

pub length_push : {A : Type 0} (xs : List A) (x : A) → length (xs ++ x ∷ []) ≡ length xs + 1
length_push [] x = omega arith
length_push (y ∷ xs) x = let k : length (xs ++ x ∷ []) ≡ length xs + 1 = length_push xs x in omega arith

pub in_at : {A : Type 0} (xs : List A) (n : ℕ) (x : A) → n < length xs → x ≡ get_or xs n x → IsIn x xs
in_at {A} xs n x h e = subst (λ (y : A). IsIn y xs) (sym e) (IsIn-get_or xs n x h)

module _ (name : List ℕ) (imports : List (List ℕ × ℕ × List ℕ)) where
  -- one item more
  pub items_more : (xs : List NumberedItem) (program : ProgramView) (x : NumberedItem)
      → with_items name imports program (xs ++ x ∷ []) ≡ with_item name imports (with_items name imports program xs) x.item
  items_more [] program x = refl
  items_more (y ∷ xs) program x = items_more xs (with_item name imports program y.item) x
