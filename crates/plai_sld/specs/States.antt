-- What every state of a run keeps: as many arguments as the predicate has, and no variable from the number on.
use Rattle.std.specs.Prelude.{◌≡◌, ℕ, List, [], ◌∷◌, length}
use Rattle.plai_terms.specs.Substitution.{AreBelow}
use Rattle.plai_sld.specs.declared.item.Item.{Item}
use Rattle.plai_sld.specs.declared.item.Item.TheVariants.{Call, Builtin, Mark}
use Rattle.plai_sld.specs.Runs.{RunState}

abbrev pub IsItem : ℕ → Item → Type 0
IsItem n (Call pred args) = (length args ≡ pred.arity) × AreBelow n args
IsItem n (Builtin name args) = AreBelow n args
IsItem n (Mark pred was now) = (length was ≡ pred.arity) × (length now ≡ pred.arity) × AreBelow n was × AreBelow n now

abbrev pub AreItems : ℕ → List Item → Type 0
AreItems n [] = Unit {0}
AreItems n (x ∷ xs) = IsItem n x × AreItems n xs

abbrev pub IsState : RunState → Type 0
IsState state = AreItems state.next state.items
