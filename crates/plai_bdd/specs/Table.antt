-- Tables of nodes, and what it means that a function was built into one.
use Rattle.std.specs.Prelude.{◌≡◌, ℕ, ◌<◌, ◌≤◌, Bool, false, cond, nat_eq, min, List, length, get_or, Some}
use Rattle.plai_bdd.specs.declared.node.Node.{Node}
use Rattle.plai_bdd.specs.declared.node.Node.TheVariants.{Leaf, Branch}
use Rattle.plai_bdd.specs.declared.memo.Pair.{Pair}
use Rattle.plai_bdd.specs.declared.memo.Memo.{Memo}
use Rattle.plai_bdd.specs.declared.table.Table.{Table}
use Rattle.plai_bdd.specs.declared.table.Table.TheVariants.{Few, Many}
use Rattle.plai_bdd.specs.declared.change.Connective.{Connective}
use Rattle.plai_bdd.specs.declared.change.Change.{Change}
use Rattle.indexmap.specs.IndexSet.{keys}
use Rattle.plai_bdd.specs.Assignment.{Assignment}
use Rattle.plai_bdd.specs.Tree.{value, IsReduced}
use Rattle.plai_bdd.specs.Change.{absorbs, can_place, moved, AllSlots, top_of, combined}
use Rattle.plai_bdd.specs.Memo.{noted_at}
use Rattle.plai_bdd.specs.Nodes.{tree_of_node, trees_of, tree_at, build, place_of, put}

abbrev pub no_node : Node
no_node = Leaf false

-- the nodes of a table
abbrev pub nodes_of : Table → List Node
nodes_of (Few nodes) = nodes.items
nodes_of (Many index) = keys index

-- the node's children are below the place
abbrev pub HasChildrenBelow : ℕ → Node → Type 0
HasChildrenBelow n (Leaf b) = Unit {0}
HasChildrenBelow n (Branch s i j) = (i < n) × (j < n)

-- each node once, children first
pub record IsTable (t : List Node) : Type 0 where
  pub distinct : (i j : ℕ) → i < length t → j < length t → get_or t i no_node ≡ get_or t j no_node → i ≡ j
  pub unfolds : (k : ℕ) → k < length t → tree_at t k ≡ tree_of_node (trees_of t) (get_or t k no_node)
  pub below : (k : ℕ) → k < length t → HasChildrenBelow k (get_or t k no_node)

-- the trees of t stay at their places in u
pub record IsGrown (t u : List Node) : Type 0 where
  pub longer : length t ≤ length u
  pub trees : (k : ℕ) → k < length t → tree_at u k ≡ tree_at t k

-- the place has a tree of slots from `least` on that answers as f
pub record Answers (t : List Node) (place : ℕ) (least : ℕ) (f : Assignment → Bool) : Type 0 where
  pub inside : place < length t
  pub reduced : IsReduced least (tree_at t place)
  pub answers : (at : Assignment) → value (tree_at t place) at ≡ f at

-- a canonical tree that answers as f was built into t, which gave u, and is at the place
pub record Adds (t : List Node) (place : ℕ) (u : List Node) (least : ℕ) (f : Assignment → Bool) : Type 0 where
  pub table : IsTable u
  pub grown : IsGrown t u
  pub built : build (tree_at u place) t ≡ (place, u)
  pub known : Answers u place least f

-- a place of a table with a canonical tree, whose slots the change can place
pub record IsSource (change : Change) (t : List Node) (place : ℕ) : Type 0 where
  pub table : IsTable t
  pub inside : place < length t
  pub reduced : IsReduced 0 (tree_at t place)
  pub fits : AllSlots (can_place change) (tree_at t place)

-- the slot of a branch, and 64 of a leaf
abbrev pub slot_of : Node → ℕ
slot_of (Leaf answer) = 64
slot_of (Branch slot low high) = slot

-- the answer of a leaf
abbrev pub leaf_answer : Node → Bool
leaf_answer (Leaf answer) = answer
leaf_answer (Branch slot low high) = false

-- the node is a leaf whose answer decides the connective's
abbrev pub is_absorbing : Connective → Node → Bool
is_absorbing connective (Leaf answer) = absorbs connective answer
is_absorbing connective (Branch slot low high) = false

-- the children of the node at the place, where its slot is this one
abbrev pub children_of : Node → ℕ → ℕ → ℕ × ℕ
children_of (Leaf answer) slot place = (place, place)
children_of (Branch top low high) slot place = cond (nat_eq top slot) (low, high) (place, place)

-- the place and the table after two children are joined
abbrev pub joined_place : ℕ → ℕ → ℕ → List Node → ℕ
joined_place slot low high t = cond (nat_eq low high) low (place_of (Branch slot low high) t)

abbrev pub joined_table : ℕ → ℕ → ℕ → List Node → List Node
joined_table slot low high t = cond (nat_eq low high) t (put (Branch slot low high) t)

-- the lesser of the top slots at a pair of places
abbrev pub first_slot_of : List Node → List Node → ℕ → ℕ → ℕ
first_slot_of left right i j = min (top_of (tree_at left i)) (top_of (tree_at right j))

-- the least slot that the two places' function may depend on once it is changed
abbrev pub least_of : Change → List Node → List Node → ℕ → ℕ → ℕ
least_of change left right i j = moved change (first_slot_of left right i j)

abbrev pub function_of : Connective → Change → List Node → List Node → ℕ → ℕ → Assignment → Bool
function_of connective change left right i j = combined connective change (tree_at left i) (tree_at right j)

-- what is noted is in the table
pub record IsMemo (connective : Connective) (change : Change) (left right : List Node) (memo : Memo) (t : List Node) : Type 0 where
  pub noted : (pair : Pair) (place : ℕ) → noted_at memo pair ≡ Some place
      → Answers t place (least_of change left right pair.left pair.right) (function_of connective change left right pair.left pair.right)
