-- Conjunctions of several functions (Burch, Clarke and Long, "Symbolic Model Checking with Partitioned Transition Relations",
-- VLSI 1991).
use Rattle.std.specs.Prelude.{◌≡◌, ℕ, ◌<◌, Bool, true, false, ◌&&◌, List, [], ◌∷◌, Option, Some, None}
use Rattle.plai_base.specs.Mask.{has_slot}
use Rattle.plai_bdd.specs.declared.node.Node.{Node}
use Rattle.plai_bdd.specs.Assignment.{Assignment, IsFree}
use Rattle.plai_bdd.specs.Nodes.{holds}

-- whether all of the functions are true
abbrev pub together : List (List Node) → Assignment → Bool
together [] at = true
together (f ∷ fs) at = holds f at && together fs at

-- whether the function is true, if there is one
abbrev pub joined_holds : Option (List Node) → Assignment → Bool
joined_holds None at = true
joined_holds (Some f) at = holds f at

-- the function depends on slots of the set alone
abbrev pub IsFreeOutside : ℕ → List Node → Type 0
IsFreeOutside slots f = (slot : ℕ) → slot < 64 → has_slot slots slot ≡ false → IsFree (holds f) slot
