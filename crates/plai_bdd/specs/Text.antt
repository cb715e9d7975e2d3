-- The text of a decision tree, in which a slot is counted from 1.
use Rattle.std.specs.Prelude.{ℕ, ◌+◌, cond, List, [], ◌∷◌, ◌++◌, decimal}
use Rattle.plai_bdd.specs.Tree.{Tree, Tip, Fork}

-- `t`, `f` or `(i Y N)`
abbrev pub tree_text : Tree → List ℕ
tree_text (Tip answer) = cond answer 116 102 ∷ []
tree_text (Fork slot low high) = 40 ∷ (decimal (slot + 1) ++ 32 ∷ (tree_text high ++ 32 ∷ (tree_text low ++ 41 ∷ [])))
