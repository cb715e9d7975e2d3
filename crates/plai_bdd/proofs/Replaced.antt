-- How slots are replaced, node by node.
use Rattle.std.proofs.Common.{◌≡◌, ℕ, zero, suc, ◌+◌, ◌-◌, ◌<◌, Bool, true, false, cond, ◌&&◌, ◌||◌, IsTrue, List, [], ◌∷◌, ◌++◌, length, get_or}
use Rattle.std.proofs.Common.{refl, sym, ap, subst, ◌∙◌, true≢false, arith, ◌⊎◌, inl, inr, length-append}
use Rattle.std.specs.Bool.{beq}
use Rattle.std.proofs.lemmas.List.{get_or_append_left, get_or_push}
use Rattle.plai_bdd.specs.declared.node.Node.{Node}
use Rattle.plai_bdd.specs.declared.node.Node.TheVariants.{Leaf, Branch}
use Rattle.plai_bdd.specs.Assignment.{Assignment}
use Rattle.plai_bdd.specs.Slots.{conjunction}
use Rattle.plai_bdd.specs.Tree.{value}
use Rattle.plai_bdd.specs.Nodes.{IsFunction, holds, tree_at, tree_of_node, trees_of}
use Rattle.plai_bdd.specs.Table.{no_node, HasChildrenBelow, IsTable}
use Rattle.plai_bdd.specs.Replace.{replaced, replaced_node}
use Rattle.plai_bdd.proofs.Functions.{IsFunction-as}

-- a choice where the low answer implies the high one, and any choice
pub chosen_between : (t l h : Bool) → (IsTrue l → IsTrue h) → ((t && h) || l) ≡ cond t h l
chosen_between true l true up = refl
chosen_between true false false up = refl
chosen_between true true false up = absurd (true≢false (sym (up refl)))
chosen_between false l h up = refl

pub chosen : (t l h : Bool) → ((t && h) || (beq t false && l)) ≡ cond t h l
chosen true l true = refl
chosen true l false = refl
chosen false l h = refl

-- the functions of the first nodes, with their slots replaced
pub record IsReplacing (nodes : List Node) (sets : List ℕ) (count : ℕ) (made : List (List Node)) : Type 0 where
  pub size : length made ≡ count
  pub each : (k : ℕ) → k < count → IsFunction (get_or made k []) (λ at. value (tree_at nodes k) (replaced sets at))

pub replacing_none : (nodes : List Node) (sets : List ℕ) (made : List (List Node)) → made ≡ [] → IsReplacing nodes sets 0 made
replacing_none nodes sets made e = record { size = ap length e; each = λ k l. absurd (omega (arith, l)) }

module _ (nodes : List Node) (sets : List ℕ) (made : List (List Node)) (old : (k : ℕ) → k < length made
    → IsFunction (get_or made k []) (λ at. value (tree_at nodes k) (replaced sets at))) where
  -- a node by its children
  by_children : (node : Node) → HasChildrenBelow (length made) node → (at : Assignment)
      → replaced_node sets made node at ≡ value (tree_of_node (trees_of nodes) node) (replaced sets at)
  by_children (Leaf b) within at = refl
  by_children (Branch slot low high) within at =
      (λ i. cond (conjunction (get_or sets slot 0) at) ((old high within.1).answers at i) ((old low within.0).answers at i))

item_at : (xs : List Node) (i : ℕ) (d e : Node) → i < length xs → get_or xs i d ≡ get_or xs i e
item_at [] i d e l = absurd (omega (arith, l))
item_at (x ∷ xs) zero d e l = refl
item_at (x ∷ xs) (suc i) d e l = item_at xs i d e (omega (arith, l))

-- the children of the next node are made
pub children_made : (nodes : List Node) (sets : List ℕ) (i : ℕ) (made seen : List (List Node)) (d : Node) → IsTable nodes → i < length nodes
    → seen ≡ made → IsReplacing nodes sets i made → HasChildrenBelow (length seen) (get_or nodes i d)
children_made nodes sets i made seen d table inside e old =
    subst (λ n. HasChildrenBelow n (get_or nodes i d)) (sym (ap length e ∙ old.size))
    (subst (HasChildrenBelow i) (item_at nodes i no_node d inside) (table.below i inside))

module _ (nodes : List Node) (sets : List ℕ) (i : ℕ) (made seen longer : List (List Node)) (next : List Node) (d : Node) (table : IsTable nodes)
    (inside : i < length nodes) (pushed : longer ≡ made ++ next ∷ [])
    (seen_is : seen ≡ made) (made_is : IsFunction next (replaced_node sets seen (get_or nodes i d))) (old : IsReplacing nodes sets i made) where
  abbrev node : Node
  node = get_or nodes i d

  is : IsFunction next (replaced_node sets made node)
  is = subst (λ m. IsFunction next (replaced_node sets m node)) seen_is made_is

  node_is : get_or nodes i no_node ≡ node
  node_is = item_at nodes i no_node d inside

  here : IsFunction next (λ at. value (tree_at nodes i) (replaced sets at))
  here =
      let within : HasChildrenBelow (length made) node = children_made nodes sets i made made d table inside refl old in
      let tree : tree_at nodes i ≡ tree_of_node (trees_of nodes) node = table.unfolds i inside ∙ ap (tree_of_node (trees_of nodes)) node_is in
      IsFunction-as (λ at. by_children nodes sets made (λ k l. old.each k (omega (arith, l, old.size))) node within at
      ∙ ap (λ t. value t (replaced sets at)) (sym tree)) is

  each_of : (k : ℕ) → (k < i) ⊎ (k ≡ i) → IsFunction (get_or longer k []) (λ at. value (tree_at nodes k) (replaced sets at))
  each_of k (inl l) =
      let same : get_or longer k [] ≡ get_or made k [] = ap (λ fs. get_or fs k []) pushed
      ∙ get_or_append_left made (next ∷ []) [] k (omega (arith, l, old.size)) in
      subst (λ f. IsFunction f (λ at. value (tree_at nodes k) (replaced sets at))) (sym same) (old.each k l)
  each_of k (inr e) =
      let same : get_or longer k [] ≡ next = ap (λ fs. get_or fs k []) pushed ∙ get_or_push made next [] k (omega (arith, e, old.size)) in
      subst (λ f. IsFunction f (λ at. value (tree_at nodes k) (replaced sets at))) (sym same)
      (subst (λ n. IsFunction next (λ at. value (tree_at nodes n) (replaced sets at))) (sym e) here)

  pub replacing_more : IsReplacing nodes sets (i + 1) longer
  replacing_more = record {
    size = ap length pushed ∙ length-append made (next ∷ []) ∙ (omega (arith, old.size));
    each = λ k l. each_of k (last_or k l);
  }
    where
      last_or : (k : ℕ) → k < i + 1 → (k < i) ⊎ (k ≡ i)
      last_or k l = grind arith

-- all of the nodes, of which the last is the root
pub replaced_last : (nodes : List Node) (sets : List ℕ) (i : ℕ) (made rest : List (List Node)) (root : List Node) → i ≡ length nodes → IsReplacing nodes sets i made
    → made ≡ rest ++ root ∷ [] → IsFunction root (λ at. holds nodes (replaced sets at))
replaced_last nodes sets i made rest root all done popped =
    let size : length rest + 1 ≡ length made = sym (ap length popped ∙ length-append rest (root ∷ [])) in
    let last : get_or made (length nodes - 1) [] ≡ root = ap (λ fs. get_or fs (length nodes - 1) []) popped
    ∙ get_or_push rest root [] (length nodes - 1) (omega (arith, size, all, done.size)) in
    subst (λ f. IsFunction f (λ at. holds nodes (replaced sets at))) last (done.each (length nodes - 1) (omega (arith, size, all, done.size)))
