-- Which trees imply which, and what a walk over two lists keeps of the pairs of places that it has shown.
use Rattle.std.specs.Prelude.{◌≡◌, ℕ, ◌/◌, ◌%◌, Bool, true, false, cond, nat_eq, ◌&&◌, bit_or, IsTrue, List, [], ◌∷◌, get_or}
use Rattle.plai_base.specs.Mask.{has_slot, mask_of}
use Rattle.plai_bdd.specs.declared.node.Node.{Node}
use Rattle.plai_bdd.specs.declared.node.Node.TheVariants.{Leaf, Branch}
use Rattle.plai_bdd.specs.declared.memo.Pair.{Pair}
use Rattle.plai_bdd.specs.declared.walk.Line.{Line}
use Rattle.plai_bdd.specs.Assignment.{Assignment}
use Rattle.plai_bdd.specs.Tree.{Tree, value}
use Rattle.plai_bdd.specs.Nodes.{tree_at}

-- each assignment that makes the first true makes the second true
abbrev pub Implies : Tree → Tree → Type 0
Implies left right = (at : Assignment) → IsTrue (value left at) → IsTrue (value right at)

-- a line with nothing shown
abbrev pub no_line : Line
no_line = record { right = 0; block = 0; shown = 0 }

-- whether the line is the one for the pair's right place and for the 64 left places among which the pair's is
abbrev pub is_line_of : Line → Pair → Bool
is_line_of line pair = nat_eq line.right pair.right && nat_eq line.block (pair.left / 64)

-- whether the line has the pair
abbrev pub shows : Line → Pair → Bool
shows line pair = is_line_of line pair && has_slot line.shown (pair.left % 64)

-- the line with the pair, which takes the place of what the line had for other pairs
abbrev pub with_pair : Line → Pair → Line
with_pair line pair = record {
  right = pair.right;
  block = pair.left / 64;
  shown = bit_or (cond (is_line_of line pair) line.shown 0) (mask_of (pair.left % 64));
}

-- each pair that a line has is of trees of which the first implies the second
pub record AreShown (left right : List Node) (lines : List Line) : Type 0 where
  pub implied : (k : ℕ) (pair : Pair) → shows (get_or lines k no_line) pair ≡ true → Implies (tree_at left pair.left) (tree_at right pair.right)

-- the nodes of the function that one of two slots is true
abbrev pub either_nodes : ℕ → ℕ → List Node
either_nodes first second = Leaf false ∷ Leaf true ∷ Branch second 0 1 ∷ Branch first 2 1 ∷ []

-- where that function's root is among them
abbrev pub either_root : ℕ → ℕ → ℕ
either_root a b = cond (nat_eq a b) 2 3
