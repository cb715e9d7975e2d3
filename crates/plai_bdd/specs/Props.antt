-- That a list of nodes is canonical has one proof at most, so a struct may keep it.
use Rattle.std.specs.Prelude.{ℕ, ◌+◌, List}
use Rattle.std.proofs.Props.{props}
use Rattle.plai_bdd.specs.declared.node.Node.{Node}
use Rattle.plai_bdd.specs.Tree.{Tree, Tip, Fork, IsReduced}
use Rattle.plai_bdd.specs.Nodes.{IsCanonical}

IsReduced-prop : (t : Tree) (n : ℕ) → IsProp (IsReduced n t)
IsReduced-prop (Tip b) n = hlevel props
IsReduced-prop (Fork s l h) n = let p = IsReduced-prop l (s + 1) in let q = IsReduced-prop h (s + 1) in hlevel (props, p, q)

pub IsCanonical-prop : (nodes : List Node) → IsProp (IsCanonical nodes)
IsCanonical-prop nodes = hlevel (props, IsReduced-prop)
