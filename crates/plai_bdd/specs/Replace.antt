-- Slots replaced by conjunctions of slots: composition of functions (Bryant 1986, section 4.4).
use Rattle.std.specs.Prelude.{ℕ, Bool, cond, List, [], get_or}
use Rattle.plai_bdd.specs.declared.node.Node.{Node}
use Rattle.plai_bdd.specs.declared.node.Node.TheVariants.{Leaf, Branch}
use Rattle.plai_bdd.specs.Assignment.{Assignment}
use Rattle.plai_bdd.specs.Slots.{conjunction}
use Rattle.plai_bdd.specs.Nodes.{holds}

-- the assignment in which each slot answers as the conjunction of its set, and as true where it has none
abbrev pub replaced : List ℕ → Assignment → Assignment
replaced sets at = λ slot. conjunction (get_or sets slot 0) at

-- the answer of a node under that assignment, by the functions that its children have become
abbrev pub replaced_node : List ℕ → List (List Node) → Node → Assignment → Bool
replaced_node sets made (Leaf answer) at = answer
replaced_node sets made (Branch slot low high) at =
    cond (conjunction (get_or sets slot 0) at) (holds (get_or made high []) at) (holds (get_or made low []) at)
