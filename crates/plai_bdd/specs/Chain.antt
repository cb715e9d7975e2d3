-- The diagram of a conjunction in the making: behind the two leaves a branch for each slot of the set, the greatest one first,
-- which is false where its slot is false.
use Rattle.std.specs.Prelude.{◌≡◌, ℕ, ◌-◌, ◌<◌, ◌≤◌, Bool, false, ◌&&◌, IsTrue, List, [], ◌∷◌, length}
use Rattle.plai_base.specs.Mask.{has_slot}
use Rattle.plai_bdd.specs.Assignment.{Assignment}
use Rattle.plai_bdd.specs.declared.node.Node.{Node}
use Rattle.plai_bdd.specs.declared.node.Node.TheVariants.{Leaf}
use Rattle.plai_bdd.specs.Slots.{all_hold, conjunction}
use Rattle.plai_bdd.specs.Table.{Adds}

-- the last node says that the slots of the set from k on are true; the leaf false was there before it, unless the set has
-- such a slot
pub record IsChain (all k : ℕ) (t : List Node) : Type 0 where
  pub rest : Assignment → Bool
  pub leaves : 2 ≤ length t
  pub inner : Adds (Leaf false ∷ []) (length t - 1) t k rest
  pub outer : (slot : ℕ) → k ≤ slot → slot < 64 → IsTrue (has_slot all slot) → Adds [] (length t - 1) t k rest
  pub left : (at : Assignment) → (all_hold all k at && rest at) ≡ conjunction all at
