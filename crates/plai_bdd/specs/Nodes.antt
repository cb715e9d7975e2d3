-- Lists of nodes, the trees that they stand for, and the one numbering, in which each node stands once, behind its children
-- (the table of unique nodes of Brace, Rudell and Bryant, "Efficient Implementation of a BDD Package", DAC 1990).
use Rattle.std.specs.Prelude.{◌≡◌, ℕ, ◌-◌, ◌^◌, ◌<◌, ◌≤◌, Bool, false, nat_eq, ◌&&◌, List, [], ◌∷◌, ◌++◌, length, fold, get_or}
use Rattle.std.specs.Bool.{beq}
use Rattle.std.specs.List.{position_or_len}
use Rattle.plai_base.specs.Mask.{has_slot}
use Rattle.plai_bdd.specs.declared.node.Node.{Node}
use Rattle.plai_bdd.specs.declared.node.Node.TheVariants.{Leaf, Branch}
use Rattle.indexmap.specs.IndexSet.{insert_key}
use Rattle.plai_bdd.specs.Assignment.{Assignment, IsFree}
use Rattle.plai_bdd.specs.Tree.{Tree, Tip, Fork, value, IsReduced}

abbrev pub same_node : Node → Node → Bool
same_node (Leaf a) (Leaf b) = beq a b
same_node (Leaf a) (Branch s i j) = false
same_node (Branch s i j) (Leaf b) = false
same_node (Branch s i j) (Branch t k l) = nat_eq s t && (nat_eq i k && nat_eq j l)

-- the place that the node has once it is put into the table
abbrev pub place_of : Node → List Node → ℕ
place_of node table = position_or_len (same_node node) table

-- the table with the node, which goes last if it is not there
abbrev pub put : Node → List Node → List Node
put node table = insert_key same_node table node

-- the tree of a node whose children's trees are listed
abbrev pub tree_of_node : List Tree → Node → Tree
tree_of_node trees (Leaf answer) = Tip answer
tree_of_node trees (Branch slot low high) = Fork slot (get_or trees low (Tip false)) (get_or trees high (Tip false))

-- the trees of the nodes, in their order
unfoldable pub trees_of : List Node → List Tree
trees_of nodes = fold (λ trees node. trees ++ tree_of_node trees node ∷ []) [] nodes

-- the tree of the node at a place
abbrev pub tree_at : List Node → ℕ → Tree
tree_at nodes place = get_or (trees_of nodes) place (Tip false)

-- the numbering: the tree's nodes go into the table as a walk completes them, the low child's before the high child's
unfoldable pub build : Tree → List Node → ℕ × List Node
build (Tip answer) table = (place_of (Leaf answer) table, put (Leaf answer) table)
build (Fork slot low high) table =
    let first = build low table in
    let second = build high first.1 in
    let node = Branch slot first.0 second.0 in
    (place_of node second.1, put node second.1)

-- the root is the last node
abbrev pub root_of : List Node → Tree
root_of nodes = tree_at nodes (length nodes - 1)

-- the nodes are those of an ordered, reduced tree, in the numbering
pub record IsCanonical (nodes : List Node) : Type 0 where
  pub numbered : (build (root_of nodes) []).1 ≡ nodes
  pub reduced : IsReduced 0 (root_of nodes)

-- the answer of the function that the nodes stand for
abbrev pub holds : List Node → Assignment → Bool
holds nodes at = value (root_of nodes) at

-- the nodes are canonical and stand for f
pub record IsFunction (nodes : List Node) (f : Assignment → Bool) : Type 0 where
  pub canonical : IsCanonical nodes
  pub answers : (at : Assignment) → holds nodes at ≡ f at

-- two lists stand for the same function
abbrev pub AreSameFunction : List Node → List Node → Type 0
AreSameFunction left right = (at : Assignment) → holds left at ≡ holds right at

-- the mask, read as the set of the true slots, makes the function true
abbrev pub is_model : List Node → ℕ → Bool
is_model nodes mask = holds nodes (has_slot mask)

-- the function depends on slots below the bound alone
abbrev pub IsOver : ℕ → List Node → Type 0
IsOver bound nodes = (slot : ℕ) → bound ≤ slot → IsFree (holds nodes) slot

-- two lists have the same models among the sets of slots below the bound
abbrev pub HaveSameModels : ℕ → List Node → List Node → Type 0
HaveSameModels bound left right = (mask : ℕ) → mask < 2 ^ bound → is_model left mask ≡ is_model right mask
