-- A module stays in a program to which items are added.
use Rattle.std.proofs.Common.{◌≡◌, ℕ, Bool, true, false, nat_eq, List, [], ◌∷◌, ◌++◌, refl, ap, sym, ◌∙◌, subst, if◌then◌else◌}
use Rattle.std.specs.Prelude.{Option, Some, Result, Ok, Err, IsSome}
use Rattle.std.specs.Cmp.Lexicographic.{pointwise, nat_list_eq_equiv}
use Rattle.plai_clauses.specs.declared.clause.Clause as clause
use Rattle.plai_clauses.specs.declared.cause.ClauseCause.{ClauseCause}
use Rattle.plai_clauses.specs.declared.modules.Module.{Module}
use Rattle.plai_clauses.specs.ClauseOf.{clause_of}
use Rattle.plai_clauses.specs.Program.{ProgramView, module_in}
use Rattle.plai_sources.specs.declared.items.NumberedItem.{NumberedItem}
use Rattle.plai_sources.specs.declared.items.Item.{Item}
use Rattle.plai_sources.specs.declared.items.Item.TheVariants.{UseModule, Entry, Check, Clause}
use Rattle.plai_modules.specs.Loading.{with_clause_from, with_item, with_items}

some-by : (test : Bool) (m : Module) (rest : Option Module) → IsSome rest → IsSome (if test then Some m else rest)
some-by true m rest h = refl
some-by false m rest h = h

-- a module that was put last is found
pub there-last : (ms : List Module) (m : Module) (name : List ℕ) → m.name ≡ name → IsSome (module_in (ms ++ m ∷ []) name)
there-last [] m name e =
    let test : pointwise nat_eq m.name name ≡ true = ap (pointwise nat_eq m.name) (sym e) ∙ nat_list_eq_equiv.refl m.name in
    rw test refl
there-last (k ∷ ms) m name e = some-by (pointwise nat_eq k.name name) k (module_in (ms ++ m ∷ []) name) (there-last ms m name e)

clause-modules : (program : ProgramView) (name : List ℕ) (given : Result clause.Clause ClauseCause)
    → (with_clause_from program name given).modules ≡ program.modules
clause-modules program name (Ok clause) = refl
clause-modules program name (Err cause) = refl

module _ (name : List ℕ) (imports : List (List ℕ × ℕ × List ℕ)) where
  item-modules : (program : ProgramView) (item : Item) → (with_item name imports program item).modules ≡ program.modules
  item-modules program (UseModule from keys) = refl
  item-modules program (Entry e) = refl
  item-modules program (Check c) = refl
  item-modules program (Clause read) = clause-modules program name (clause_of name imports read)

  items-modules : (items : List NumberedItem) (program : ProgramView) → (with_items name imports program items).modules ≡ program.modules
  items-modules [] program = refl
  items-modules (n ∷ items) program = items-modules items (with_item name imports program n.item) ∙ item-modules program n.item

  -- the module is there behind the items too
  pub there-behind : (items : List NumberedItem) (before behind : ProgramView) → behind ≡ with_items name imports before items
      → IsSome (module_in before.modules name) → IsSome (module_in behind.modules name)
  there-behind items before behind e h = subst (λ (ms : List Module). IsSome (module_in ms name)) (sym (ap (λ p. p.modules) e ∙ items-modules items before)) h
