-- Lists built from the end.
use Rattle.std.proofs.Common.{◌≡◌, List, [], ◌∷◌, ◌++◌, refl, ap}
use Rattle.plai_reader.specs.declared.tree.Tree.{Tree}
use Rattle.plai_reader.specs.Limits.{kept_trees}
use Rattle.plai_reader.specs.Reading.{list_of}
use Rattle.std.specs.Prelude.{codes}

pub list_of_last : (xs : List Tree) (x tail : Tree) → list_of kept_trees (xs ++ x ∷ []) tail ≡ list_of kept_trees xs (list_of kept_trees (x ∷ []) tail)
list_of_last [] x tail = refl
list_of_last (y ∷ ys) x tail = ap (λ t. kept_trees.compound (codes ".") (y ∷ t ∷ [])) (list_of_last ys x tail)
