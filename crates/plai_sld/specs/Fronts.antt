-- What stands at the front of a state of a run (Lloyd, Foundations of Logic Programming, 1987, section 9: the leftmost goal).
use Rattle.std.specs.Prelude.{◌≡◌, ℕ, List, [], ◌∷◌}
use Rattle.plai_terms.specs.declared.term.Term.{Term}
use Rattle.plai_sld.specs.declared.item.Item.{Item}
use Rattle.plai_sld.specs.declared.item.Item.TheVariants.{Call, Builtin, Mark}
use Rattle.plai_sld.specs.declared.front.Front.{Front}
use Rattle.plai_sld.specs.declared.front.Front.TheVariants as front

-- The list is empty, or it begins with what the front says: a builtin's goal, a predicate's goal with these arguments, or a mark
-- of the predicate with these arguments as they were and these as they are.
abbrev pub IsFront : List Item → Front → Type 0
IsFront items front.Nothing = items ≡ []
IsFront items front.Builtin = (name : List ℕ) × (args : List Term) × (rest : List Item) × (items ≡ Builtin name args ∷ rest)
IsFront items (front.Call pred args) = (rest : List Item) × (items ≡ Call pred.now args.now ∷ rest)
IsFront items (front.Mark pred was now) = (rest : List Item) × (items ≡ Mark pred.now was.now now.now ∷ rest)
