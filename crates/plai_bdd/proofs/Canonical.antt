-- Canonical lists: what was built into the empty table is one, and equal functions have equal lists.
use Rattle.std.proofs.Common.{◌≡◌, ◌≢◌, ℕ, suc, ◌+◌, ◌<◌, ◌≤◌, Bool, List, [], ◌∷◌, ◌++◌, length, get_or, sym, ap, subst, ◌∙◌, arith, ◌⊎◌, inl, inr}
use Rattle.std.proofs.Common.{length-append}
use Rattle.plai_bdd.specs.Assignment.{Assignment}
use Rattle.plai_bdd.specs.declared.node.Node.{Node}
use Rattle.plai_bdd.specs.declared.node.Node.TheVariants.{Leaf, Branch}
use Rattle.plai_bdd.specs.Tree.{Tree, Tip, Fork, value, IsReduced}
use Rattle.plai_bdd.specs.Nodes.{place_of, put, tree_at, build, root_of, holds, IsCanonical, IsFunction}
use Rattle.plai_bdd.specs.Table.{no_node, IsTable, IsGrown, Adds}
use Rattle.plai_bdd.proofs.Trees.{same_tree}
use Rattle.plai_bdd.proofs.Lists.{puts}
use Rattle.plai_bdd.proofs.Tables.{IsTable-empty, put_grown}
use Rattle.plai_bdd.proofs.Builds.{IsBuilt, built, build-tip, build-fork}

-- EQUAL FUNCTIONS HAVE EQUAL LISTS
pub same_nodes : (a b : List Node) → IsCanonical a → IsCanonical b → ((at : Assignment) → holds a at ≡ holds b at) → a ≡ b
same_nodes a b p q h =
    let e = same_tree (root_of a) (root_of b) p.reduced q.reduced h in
    sym p.numbered ∙ ap (λ t. (build t []).1) e ∙ q.numbered

abbrev size : Tree → ℕ
size (Tip b) = 0
size (Fork s l h) = suc (size l + size h)

abbrev Small : Tree → List Node → List Node → Type 0
Small tree t u = (k : ℕ) → k < length u → (k < length t) ⊎ (size (tree_at u k) ≤ size tree)

put_small : (node : Node) (t : List Node) (k : ℕ) → k < length (put node t) → (k < length t) ⊎ (k ≡ place_of node t)
put_small node t k h = by (puts node t).either
  where
    by : (put node t ≡ t) ⊎ ((put node t ≡ t ++ node ∷ []) × (place_of node t ≡ length t) × ((m : ℕ) → m < length t → get_or t m no_node ≢ node))
        → (k < length t) ⊎ (k ≡ place_of node t)
    by (inl e) = inl (subst (λ l. k < length l) e h)
    by (inr new) =
        let g : k < length (t ++ node ∷ []) = subst (λ l. k < length l) new.0 h in
        let n = length-append t (node ∷ []) in
        let last = new.1 in
        grind arith

-- what is added for a tree is no larger than the tree
small_fork : (s : ℕ) (l h : Tree) (t u v : List Node) (i j : ℕ) → IsGrown t u → IsGrown u v
    → IsBuilt (Fork s l h) t (place_of (Branch s i j) v) (put (Branch s i j) v)
    → Small l t u → Small h u v → Small (Fork s l h) t (put (Branch s i j) v)
small_fork s l h t u v i j g g' done first second k lt = by (put_small (Branch s i j) v k lt)
  where
    by_low : k < length v → k < length u → (k < length t) ⊎ (size (tree_at u k) ≤ size l)
        → (k < length t) ⊎ (size (tree_at (put (Branch s i j) v) k) ≤ size (Fork s l h))
    by_low hv hu (inl old) = inl old
    by_low hv hu (inr le) = let e = ap size ((put_grown v (Branch s i j)).trees k hv ∙ g'.trees k hu) in inr (omega (arith, e))

    by_high : k < length v → (k < length u) ⊎ (size (tree_at v k) ≤ size h) → (k < length t) ⊎ (size (tree_at (put (Branch s i j) v) k) ≤ size (Fork s l h))
    by_high hv (inl hu) = by_low hv hu (first k hu)
    by_high hv (inr le) = let e = ap size ((put_grown v (Branch s i j)).trees k hv) in inr (omega (arith, e))

    by : (k < length v) ⊎ (k ≡ place_of (Branch s i j) v) → (k < length t) ⊎ (size (tree_at (put (Branch s i j) v) k) ≤ size (Fork s l h))
    by (inl hv) = by_high hv (second k hv)
    by (inr e) = let f = ap size (ap (tree_at (put (Branch s i j) v)) e ∙ done.here) in inr (omega (arith, f))

small : (tree : Tree) (t : List Node) → IsTable t → Small tree t (build tree t).1
small (Tip b) t ok = subst (λ (p : ℕ × List Node). Small (Tip b) t p.1) (sym (build-tip b t)) (λ k lt. by k (put_small (Leaf b) t k lt))
  where
    done : IsBuilt (Tip b) t (place_of (Leaf b) t) (put (Leaf b) t)
    done = subst (λ (p : ℕ × List Node). IsBuilt (Tip b) t p.0 p.1) (build-tip b t) (built (Tip b) t ok)

    by : (k : ℕ) → (k < length t) ⊎ (k ≡ place_of (Leaf b) t) → (k < length t) ⊎ (size (tree_at (put (Leaf b) t) k) ≤ 0)
    by k (inl h) = inl h
    by k (inr e) = let f = ap size (ap (tree_at (put (Leaf b) t)) e ∙ done.here) in inr (omega (arith, f))
small (Fork s l h) t ok =
    let one = built l t ok in
    let two = built h (build l t).1 one.table in
    let done = subst (λ (p : ℕ × List Node). IsBuilt (Fork s l h) t p.0 p.1) (build-fork s l h t) (built (Fork s l h) t ok) in
    subst (λ (p : ℕ × List Node). Small (Fork s l h) t p.1) (sym (build-fork s l h t))
    (small_fork s l h t _ _ _ _ one.grown two.grown done (small l t ok) (small h (build l t).1 one.table))

-- a tree that the table lacks comes last
last_fork : (s : ℕ) (l h : Tree) (t u v : List Node) (i j : ℕ) → ((k : ℕ) → k < length t → tree_at t k ≢ Fork s l h) → IsGrown t u → IsGrown u v
    → IsBuilt (Fork s l h) t (place_of (Branch s i j) v) (put (Branch s i j) v) → Small l t u → Small h u v
    → suc (place_of (Branch s i j) v) ≡ length (put (Branch s i j) v)
last_fork s l h t u v i j fresh g g' done first second = by (puts (Branch s i j) v).either
  where
    by_low : (place_of (Branch s i j) v) < length v → (place_of (Branch s i j) v) < length u
        → ((place_of (Branch s i j) v) < length t) ⊎ (size (tree_at u (place_of (Branch s i j) v)) ≤ size l) → ⊥
    by_low hv hu (inl ht) = fresh (place_of (Branch s i j) v) ht
        (sym (g.trees (place_of (Branch s i j) v) ht) ∙ sym (g'.trees (place_of (Branch s i j) v) hu)
        ∙ sym ((put_grown v (Branch s i j)).trees (place_of (Branch s i j) v) hv) ∙ done.here)
    by_low hv hu (inr le) = let e = ap size (sym (g'.trees (place_of (Branch s i j) v) hu)
        ∙ sym ((put_grown v (Branch s i j)).trees (place_of (Branch s i j) v) hv) ∙ done.here) in omega (arith, e)

    by_high : (place_of (Branch s i j) v) < length v → ((place_of (Branch s i j) v) < length u) ⊎ (size (tree_at v (place_of (Branch s i j) v)) ≤ size h) → ⊥
    by_high hv (inl hu) = by_low hv hu (first (place_of (Branch s i j) v) hu)
    by_high hv (inr le) = let e = ap size (sym ((put_grown v (Branch s i j)).trees (place_of (Branch s i j) v) hv) ∙ done.here) in omega (arith, e)

    by : (put (Branch s i j) v ≡ v) ⊎ ((put (Branch s i j) v ≡ v ++ (Branch s i j) ∷ []) × (place_of (Branch s i j) v ≡ length v)
        × ((m : ℕ) → m < length v → get_or v m no_node ≢ (Branch s i j))) → suc (place_of (Branch s i j) v) ≡ length (put (Branch s i j) v)
    by (inl stays) = let hv : (place_of (Branch s i j) v) < length v = subst (λ w. (place_of (Branch s i j) v) < length w) stays done.inside in
        absurd (by_high hv (second (place_of (Branch s i j) v) hv))
    by (inr new) = omega (arith, new.1, ap length new.0, length-append v ((Branch s i j) ∷ []))

last : (tree : Tree) (t : List Node) → IsTable t → ((k : ℕ) → k < length t → tree_at t k ≢ tree) → suc (build tree t).0 ≡ length (build tree t).1
last (Tip b) t ok fresh = subst (λ (p : ℕ × List Node). suc p.0 ≡ length p.1) (sym (build-tip b t)) (by (puts (Leaf b) t).either)
  where
    done : IsBuilt (Tip b) t (place_of (Leaf b) t) (put (Leaf b) t)
    done = subst (λ (p : ℕ × List Node). IsBuilt (Tip b) t p.0 p.1) (build-tip b t) (built (Tip b) t ok)

    by : (put (Leaf b) t ≡ t) ⊎ ((put (Leaf b) t ≡ t ++ Leaf b ∷ []) × (place_of (Leaf b) t ≡ length t)
        × ((m : ℕ) → m < length t → get_or t m no_node ≢ Leaf b)) → suc (place_of (Leaf b) t) ≡ length (put (Leaf b) t)
    by (inl stays) = absurd (fresh (place_of (Leaf b) t) (subst (λ w. place_of (Leaf b) t < length w) stays done.inside)
        (ap (λ w. tree_at w (place_of (Leaf b) t)) (sym stays) ∙ done.here))
    by (inr new) = omega (arith, new.1, ap length new.0, length-append t (Leaf b ∷ []))
last (Fork s l h) t ok fresh =
    let one = built l t ok in
    let two = built h (build l t).1 one.table in
    let done = subst (λ (p : ℕ × List Node). IsBuilt (Fork s l h) t p.0 p.1) (build-fork s l h t) (built (Fork s l h) t ok) in
    subst (λ (p : ℕ × List Node). suc p.0 ≡ length p.1) (sym (build-fork s l h t))
    (last_fork s l h t _ _ _ _ fresh one.grown two.grown done (small l t ok) (small h (build l t).1 one.table))

-- the root of a canonical list is its last node
pub record IsRooted (t : List Node) : Type 0 where
  pub table : IsTable t
  pub some : 0 < length t

pub rooted : (t : List Node) → IsCanonical t → IsRooted t
rooted t c =
    let b = built (root_of t) [] IsTable-empty in
    record {
      table = subst IsTable c.numbered b.table;
      some = let h : (build (root_of t) []).0 < length t = subst (λ w. (build (root_of t) []).0 < length w) c.numbered b.inside in omega arith;
    }

-- WHAT WAS BUILT INTO THE EMPTY TABLE IS CANONICAL
pub finished : (t : List Node) (place : ℕ) (f : Assignment → Bool) → Adds [] place t 0 f → IsFunction t f
finished t place f a =
    let tree = tree_at t place in
    let l = last tree [] IsTable-empty (λ k h. absurd (omega arith)) in
    let l2 : suc place ≡ length t = subst (λ (p : ℕ × List Node). suc p.0 ≡ length p.1) a.built l in
    let root : root_of t ≡ tree = ap (tree_at t) (omega arith) in
    record {
      canonical = record {
        numbered = ap (λ x. (build x []).1) root ∙ ap (λ (p : ℕ × List Node). p.1) a.built;
        reduced = subst (IsReduced 0) (sym root) a.known.reduced;
      };
      answers = λ at. ap (λ x. value x at) root ∙ a.known.answers at;
    }
