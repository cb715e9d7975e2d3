-- Tables: how they grow.
use Rattle.std.proofs.Common.{◌≡◌, ◌≢◌, ℕ, ◌+◌, ◌<◌, ◌≤◌, false, List, [], ◌∷◌, ◌++◌, length, get_or, refl, sym, ap, subst, ◌∙◌, arith, ◌⊎◌, inl, inr}
use Rattle.std.proofs.Common.{length-append}
use Rattle.std.proofs.lemmas.List.{get_or_append_left, get_or_push}
use Rattle.plai_bdd.specs.declared.node.Node.{Node}
use Rattle.plai_bdd.specs.declared.node.Node.TheVariants.{Leaf, Branch}
use Rattle.plai_bdd.specs.Tree.{Tree, Tip, Fork}
use Rattle.plai_bdd.specs.Nodes.{place_of, put, tree_of_node, trees_of, tree_at}
use Rattle.plai_bdd.specs.Table.{no_node, HasChildrenBelow, IsTable, IsGrown}
use Rattle.plai_bdd.proofs.Lists.{puts, tree_at-before, tree_at-last}

HasChildrenBelow-more : (m n : ℕ) (node : Node) → m ≤ n → HasChildrenBelow m node → HasChildrenBelow n node
HasChildrenBelow-more m n (Leaf b) h w = tt
HasChildrenBelow-more m n (Branch s i j) h w = (omega arith, omega arith)

pub IsTable-empty : IsTable []
IsTable-empty = record {
  distinct = λ i j h. absurd (omega arith);
  unfolds = λ k h. absurd (omega arith);
  below = λ k h. absurd (omega arith);
}

pub IsGrown-same : (t : List Node) → IsGrown t t
IsGrown-same t = record { longer = omega arith; trees = λ k h. refl }

pub IsGrown-then : {t u v : List Node} → IsGrown t u → IsGrown u v → IsGrown t v
IsGrown-then {t} {u} {v} a b = record {
  longer = omega (arith, a.longer, b.longer);
  trees = λ k h. b.trees k (omega (arith, a.longer)) ∙ a.trees k h;
}

split_last : (k n m : ℕ) → k < m → m ≡ n + 1 → (k < n) ⊎ (k ≡ n)
split_last k n m h e = grind arith

-- a node's tree stays where the trees of its children do
node_kept : (old new : List Tree) (m : ℕ) (node : Node) → HasChildrenBelow m node → ((k : ℕ) → k < m → get_or new k (Tip false) ≡ get_or old k (Tip false))
    → tree_of_node new node ≡ tree_of_node old node
node_kept old new m (Leaf b) w same = refl
node_kept old new m (Branch s i j) w same = (λ x. Fork s (same i w.0 x) (same j w.1 x))

module _ (t : List Node) (node : Node) where
  push_length : length (t ++ node ∷ []) ≡ length t + 1
  push_length = length-append t (node ∷ [])

  push_before : (k : ℕ) → k < length t → get_or (t ++ node ∷ []) k no_node ≡ get_or t k no_node
  push_before k h = get_or_append_left t (node ∷ []) no_node k h

  push_last : (k : ℕ) → k ≡ length t → get_or (t ++ node ∷ []) k no_node ≡ node
  push_last k e = get_or_push t node no_node k (sym e)

  push_grown : IsGrown t (t ++ node ∷ [])
  push_grown = record { longer = omega (arith, push_length); trees = tree_at-before t node }

  push_table : IsTable t → HasChildrenBelow (length t) node → ((k : ℕ) → k < length t → get_or t k no_node ≢ node) → IsTable (t ++ node ∷ [])
  push_table ok w fresh = record {
    distinct = λ i j hi hj e. distinct_by i j (split_last i (length t) _ hi push_length) (split_last j (length t) _ hj push_length) e;
    unfolds = λ k h. unfolds_by k (split_last k (length t) _ h push_length);
    below = λ k h. below_by k (split_last k (length t) _ h push_length);
  }
    where
      distinct_by : (i j : ℕ) → (i < length t) ⊎ (i ≡ length t) → (j < length t) ⊎ (j ≡ length t)
          → get_or (t ++ node ∷ []) i no_node ≡ get_or (t ++ node ∷ []) j no_node → i ≡ j
      distinct_by i j (inl hi) (inl hj) e = ok.distinct i j hi hj (sym (push_before i hi) ∙ e ∙ push_before j hj)
      distinct_by i j (inl hi) (inr hj) e = absurd (fresh i hi (sym (push_before i hi) ∙ e ∙ push_last j hj))
      distinct_by i j (inr hi) (inl hj) e = absurd (fresh j hj (sym (push_before j hj) ∙ sym e ∙ push_last i hi))
      distinct_by i j (inr hi) (inr hj) e = hi ∙ sym hj

      kept : (k : ℕ) (n : Node) → k ≤ length t → HasChildrenBelow k n → tree_of_node (trees_of (t ++ node ∷ [])) n ≡ tree_of_node (trees_of t) n
      kept k n h within = node_kept (trees_of t) (trees_of (t ++ node ∷ [])) k n within (λ m lt. tree_at-before t node m (omega arith))

      unfolds_by : (k : ℕ) → (k < length t) ⊎ (k ≡ length t)
          → tree_at (t ++ node ∷ []) k ≡ tree_of_node (trees_of (t ++ node ∷ [])) (get_or (t ++ node ∷ []) k no_node)
      unfolds_by k (inl h) =
          tree_at-before t node k h ∙ ok.unfolds k h ∙ sym (kept k _ (omega arith) (ok.below k h))
          ∙ ap (tree_of_node (trees_of (t ++ node ∷ []))) (sym (push_before k h))
      unfolds_by k (inr e) =
          tree_at-last t node k (sym e) ∙ sym (kept (length t) node (omega arith) w) ∙ ap (tree_of_node (trees_of (t ++ node ∷ []))) (sym (push_last k e))

      below_by : (k : ℕ) → (k < length t) ⊎ (k ≡ length t) → HasChildrenBelow k (get_or (t ++ node ∷ []) k no_node)
      below_by k (inl h) = subst (HasChildrenBelow k) (sym (push_before k h)) (ok.below k h)
      below_by k (inr e) = subst (HasChildrenBelow k) (sym (push_last k e)) (subst (λ n. HasChildrenBelow n node) (sym e) w)

  pub put_grown : IsGrown t (put node t)
  put_grown = by (puts node t).either
    where
      by : (put node t ≡ t) ⊎ ((put node t ≡ t ++ node ∷ []) × (place_of node t ≡ length t) × ((k : ℕ) → k < length t → get_or t k no_node ≢ node))
          → IsGrown t (put node t)
      by (inl e) = subst (IsGrown t) (sym e) (IsGrown-same t)
      by (inr h) = subst (IsGrown t) (sym h.0) push_grown

  pub put_table : IsTable t → HasChildrenBelow (length t) node → IsTable (put node t)
  put_table ok w = by (puts node t).either
    where
      by : (put node t ≡ t) ⊎ ((put node t ≡ t ++ node ∷ []) × (place_of node t ≡ length t) × ((k : ℕ) → k < length t → get_or t k no_node ≢ node))
          → IsTable (put node t)
      by (inl e) = subst IsTable (sym e) ok
      by (inr h) = subst IsTable (sym h.0) (push_table ok w h.2)

  -- the tree of a node that was put
  pub put_tree : IsTable (put node t) → tree_at (put node t) (place_of node t) ≡ tree_of_node (trees_of (put node t)) node
  put_tree ok = ok.unfolds (place_of node t) (puts node t).inside ∙ ap (tree_of_node (trees_of (put node t))) (puts node t).here

  -- a node that is there has its place, and the table stays
  pub put_there : IsTable t → (k : ℕ) → k < length t → get_or t k no_node ≡ node → (place_of node t ≡ k) × (put node t ≡ t)
  put_there ok k h e = by (puts node t).either
    where
      by : (put node t ≡ t) ⊎ ((put node t ≡ t ++ node ∷ []) × (place_of node t ≡ length t) × ((k : ℕ) → k < length t → get_or t k no_node ≢ node))
          → (place_of node t ≡ k) × (put node t ≡ t)
      by (inl stays) = (
        ok.distinct (place_of node t) k (subst (λ l. place_of node t < length l) stays (puts node t).inside) h
            (ap (λ l. get_or l (place_of node t) no_node) (sym stays) ∙ (puts node t).here ∙ sym e),
        stays,
      )
      by (inr new) = absurd (new.2 k h e)
