-- What the numbering builds, and that a table that has the tree stays.
use Rattle.std.proofs.Common.{◌≡◌, ℕ, ◌<◌, Bool, List, length, get_or, refl, sym, ap, subst, ◌∙◌, arith}
use Rattle.plai_bdd.specs.declared.node.Node.{Node}
use Rattle.plai_bdd.specs.declared.node.Node.TheVariants.{Leaf, Branch}
use Rattle.plai_bdd.specs.Tree.{Tree, Tip, Fork}
use Rattle.plai_bdd.specs.Nodes.{place_of, put, tree_of_node, trees_of, tree_at, build}
use Rattle.plai_bdd.specs.Table.{no_node, HasChildrenBelow, IsTable, IsGrown}
use Rattle.plai_bdd.proofs.Lists.{puts}
use Rattle.plai_bdd.proofs.Tables.{IsGrown-then, put_grown, put_table, put_tree, put_there}

abbrev pub put_fork : ℕ → ℕ → ℕ × List Node → ℕ × List Node
put_fork slot low second = (place_of (Branch slot low second.0) second.1, put (Branch slot low second.0) second.1)

pub build-tip : (b : Bool) (t : List Node) → build (Tip b) t ≡ (place_of (Leaf b) t, put (Leaf b) t)
unfolding build
build-tip b t = refl

pub build-fork : (s : ℕ) (l h : Tree) (t : List Node) → build (Fork s l h) t ≡ put_fork s (build l t).0 (build h (build l t).1)
unfolding build
build-fork s l h t = refl

-- a fork's steps, from those of its children
pub build-fork_by : (s : ℕ) (l h : Tree) (t : List Node) (i j : ℕ) (u v : List Node) → build l t ≡ (i, u) → build h u ≡ (j, v)
    → build (Fork s l h) t ≡ (place_of (Branch s i j) v, put (Branch s i j) v)
build-fork_by s l h t i j u v e f =
    build-fork s l h t ∙ ap (λ (p : ℕ × List Node). put_fork s p.0 (build h p.1)) e ∙ ap (put_fork s i) f

pub record IsBuilt (tree : Tree) (t : List Node) (place : ℕ) (u : List Node) : Type 0 where
  pub table : IsTable u
  pub inside : place < length u
  pub here : tree_at u place ≡ tree
  pub grown : IsGrown t u

tip_built : (b : Bool) (t : List Node) → IsTable t → IsBuilt (Tip b) t (place_of (Leaf b) t) (put (Leaf b) t)
tip_built b t ok =
    let u = put_table t (Leaf b) ok tt in
    record { table = u; inside = (puts (Leaf b) t).inside; here = put_tree t (Leaf b) u; grown = put_grown t (Leaf b) }

pub fork_built : (s : ℕ) (l h : Tree) (t : List Node) (i j : ℕ) (u v : List Node) → IsBuilt l t i u → IsBuilt h u j v
    → IsBuilt (Fork s l h) t (place_of (Branch s i j) v) (put (Branch s i j) v)
fork_built s l h t i j u v a b =
    let node = Branch s i j in
    let within : HasChildrenBelow (length v) node = (omega (arith, a.inside, b.grown.longer), b.inside) in
    let ok = put_table v node b.table within in
    let last = put_grown v node in
    let lows = last.trees i within.0 ∙ b.grown.trees i a.inside ∙ a.here in
    let highs = last.trees j b.inside ∙ b.here in
    record {
      table = ok;
      inside = (puts node v).inside;
      here = put_tree v node ok ∙ (λ x. Fork s (lows x) (highs x));
      grown = IsGrown-then a.grown (IsGrown-then b.grown last);
    }

pub built : (tree : Tree) (t : List Node) → IsTable t → IsBuilt tree t (build tree t).0 (build tree t).1
built (Tip b) t ok = let P : ℕ × List Node → Type 0 = λ p. IsBuilt (Tip b) t p.0 p.1 in subst P (sym (build-tip b t)) (tip_built b t ok)
built (Fork s l h) t ok =
    let P : ℕ × List Node → Type 0 = λ p. IsBuilt (Fork s l h) t p.0 p.1 in
    let a = built l t ok in
    let b = built h (build l t).1 a.table in
    subst P (sym (build-fork s l h t)) (fork_built s l h t _ _ _ _ a b)

-- a tree that the table has keeps its place, and the table stays
pub build_there : (tree : Tree) (t : List Node) → IsTable t → (k : ℕ) → k < length t → tree_at t k ≡ tree → build tree t ≡ (k, t)
build_there (Tip b) t ok k h e = by (get_or t k no_node) refl (sym e ∙ ok.unfolds k h)
  where
    by : (n : Node) → get_or t k no_node ≡ n → Tip b ≡ tree_of_node (trees_of t) (get_or t k no_node) → build (Tip b) t ≡ (k, t)
    by (Leaf a) at same =
        let f : Tip b ≡ Tip a = same ∙ ap (tree_of_node (trees_of t)) at in
        let g : b ≡ a = cc in
        let p = put_there t (Leaf b) ok k h (at ∙ ap Leaf (sym g)) in
        build-tip b t ∙ (λ x. (p.0 x, p.1 x))
    by (Branch s i j) at same = let f : Tip b ≡ Fork s (tree_at t i) (tree_at t j) = same ∙ ap (tree_of_node (trees_of t)) at in (cc)
build_there (Fork s l r) t ok k h e = by (get_or t k no_node) refl (sym e ∙ ok.unfolds k h) (ok.below k h) (build_there l t ok) (build_there r t ok)
  where
    by : (n : Node) → get_or t k no_node ≡ n → Fork s l r ≡ tree_of_node (trees_of t) (get_or t k no_node) → HasChildrenBelow k (get_or t k no_node)
        → ((m : ℕ) → m < length t → tree_at t m ≡ l → build l t ≡ (m, t)) → ((m : ℕ) → m < length t → tree_at t m ≡ r → build r t ≡ (m, t))
        → build (Fork s l r) t ≡ (k, t)
    by (Leaf a) at same w lows highs = let f : Fork s l r ≡ Tip a = same ∙ ap (tree_of_node (trees_of t)) at in (cc)
    by (Branch s' i j) at same w lows highs =
        let f : Fork s l r ≡ Fork s' (tree_at t i) (tree_at t j) = same ∙ ap (tree_of_node (trees_of t)) at in
        let fs : s' ≡ s = cc in
        let fl : tree_at t i ≡ l = cc in
        let fr : tree_at t j ≡ r = cc in
        let within : HasChildrenBelow k (Branch s' i j) = subst (HasChildrenBelow k) at w in
        let one = lows i (omega (arith, within.0)) fl in
        let two = highs j (omega (arith, within.1)) fr in
        let p = put_there t (Branch s i j) ok k h (at ∙ ap (λ x. Branch x i j) fs) in
        build-fork_by s l r t i j t t one two ∙ (λ x. (p.0 x, p.1 x))

-- places with the same tree are the same
pub same_place : (t : List Node) → IsTable t → (i j : ℕ) → i < length t → j < length t → tree_at t i ≡ tree_at t j → i ≡ j
same_place t ok i j hi hj e =
    let a = build_there (tree_at t i) t ok i hi refl in
    let b = build_there (tree_at t i) t ok j hj (sym e) in
    ap (λ (p : ℕ × List Node). p.0) (sym a ∙ b)
