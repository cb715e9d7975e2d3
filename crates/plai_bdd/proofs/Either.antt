-- The four nodes of the function that one of two slots is true.
use Rattle.std.proofs.Common.{◌≡◌, ◌≢◌, ℕ, ◌+◌, ◌<◌, ◌≤◌, Bool, true, false, cond, nat_eq, min, max, ◌&&◌, ◌||◌, List, [], ◌∷◌, refl, sym, ap, subst, ◌∙◌}
use Rattle.std.proofs.Common.{arith, ◌⊎◌, inl, inr}
use Rattle.std.proofs.lemmas.Bool.Decides.{nat_tests}
use Rattle.plai_bdd.specs.Assignment.{Assignment}
use Rattle.plai_bdd.specs.declared.node.Node.{Node}
use Rattle.plai_bdd.specs.declared.node.Node.TheVariants.{Leaf, Branch}
use Rattle.plai_bdd.specs.declared.change.Change.TheVariants.{Keep}
use Rattle.plai_bdd.specs.Tree.{Tip, Fork, value, IsReduced}
use Rattle.plai_bdd.specs.Nodes.{trees_of, tree_at, put}
use Rattle.plai_bdd.specs.Table.{IsTable, IsSource}
use Rattle.plai_bdd.specs.Walk.{either_nodes, either_root}
use Rattle.plai_bdd.proofs.Tables.{IsTable-empty, put_table}
use Rattle.plai_bdd.proofs.Functions.{keeps}

either_table : (s t : ℕ) → IsTable (either_nodes s t)
either_table s t =
    let one : IsTable (Leaf false ∷ []) = put_table [] (Leaf false) IsTable-empty tt in
    let two : IsTable (Leaf false ∷ Leaf true ∷ []) = put_table (Leaf false ∷ []) (Leaf true) one tt in
    let three : IsTable (Leaf false ∷ Leaf true ∷ Branch t 0 1 ∷ []) = put_table (Leaf false ∷ Leaf true ∷ []) (Branch t 0 1) two (omega arith, omega arith) in
    let same : put (Branch s 2 1) (Leaf false ∷ Leaf true ∷ Branch t 0 1 ∷ []) ≡ either_nodes s t = new_node s t in
    subst IsTable same (put_table (Leaf false ∷ Leaf true ∷ Branch t 0 1 ∷ []) (Branch s 2 1) three (omega arith, omega arith))
  where
    new_by : (s t : ℕ) (b : Bool) → cond ((b && (false && true)) || false) (Leaf false ∷ Leaf true ∷ Branch t 0 1 ∷ []) (either_nodes s t) ≡ either_nodes s t
    new_by s t true = refl
    new_by s t false = refl

    new_node : (s t : ℕ) → put (Branch s 2 1) (Leaf false ∷ Leaf true ∷ Branch t 0 1 ∷ []) ≡ either_nodes s t
    new_node s t = new_by s t (nat_eq s t)

tree_three : (s t : ℕ) → tree_at (either_nodes s t) 3 ≡ Fork s (Fork t (Tip false) (Tip true)) (Tip true)
unfolding trees_of
tree_three s t = refl

tree_two : (s t : ℕ) → tree_at (either_nodes s t) 2 ≡ Fork t (Tip false) (Tip true)
unfolding trees_of
tree_two s t = refl

tips_differ : Tip false ≢ Tip true
tips_differ e = cc

fork_differs : (t : ℕ) → Fork t (Tip false) (Tip true) ≢ Tip true
fork_differs t e = cc

one_slot : (n t : ℕ) → n ≤ t → t < 64 → IsReduced n (Fork t (Tip false) (Tip true))
one_slot n t h k = (h, k, tips_differ, tt, tt)

-- a root whose function is that one of the slots is true
pub record IsEither (nodes : List Node) (root a b : ℕ) : Type 0 where
  pub source : IsSource Keep nodes root
  pub answers : (at : Assignment) → value (tree_at nodes root) at ≡ (at a || at b)

either_two : (x y : Bool) → cond x true (cond y true false) ≡ (x || y)
either_two true y = refl
either_two false true = refl
either_two false false = refl

either_other : (x y : Bool) → cond y true (cond x true false) ≡ (x || y)
either_other true true = refl
either_other true false = refl
either_other false true = refl
either_other false false = refl

either_one : (x : Bool) → cond x true false ≡ (x || x)
either_one true = refl
either_one false = refl

three_is : (s t : ℕ) → s < t → t < 64 → IsSource Keep (either_nodes s t) 3
three_is s t lt fits = record {
  table = either_table s t;
  inside = omega arith;
  reduced = subst (IsReduced 0) (sym (tree_three s t)) (omega arith, omega arith, fork_differs t, one_slot (s + 1) t (omega arith) fits, tt);
  fits = keeps (tree_at (either_nodes s t) 3);
}

two_is : (s t : ℕ) → t < 64 → IsSource Keep (either_nodes s t) 2
two_is s t fits = record {
  table = either_table s t;
  inside = omega arith;
  reduced = subst (IsReduced 0) (sym (tree_two s t)) (one_slot 0 t (omega arith) fits);
  fits = keeps (tree_at (either_nodes s t) 2);
}

three_either : (s t : ℕ) → s < t → t < 64 → IsEither (either_nodes s t) 3 s t
three_either s t lt fits = record { source = three_is s t lt fits; answers = λ at. ap (λ x. value x at) (tree_three s t) ∙ either_two (at s) (at t) }

three_other : (s t : ℕ) → s < t → t < 64 → IsEither (either_nodes s t) 3 t s
three_other s t lt fits = record { source = three_is s t lt fits; answers = λ at. ap (λ x. value x at) (tree_three s t) ∙ either_other (at t) (at s) }

pub either_is : (a b : ℕ) → a < 64 → b < 64 → IsEither (either_nodes (min a b) (max a b)) (either_root a b) a b
either_is a b fits_a fits_b = by (compared a b)
  where
    compared : (a b : ℕ) → (a < b) ⊎ ((b < a) ⊎ (a ≡ b))
    compared a b = grind arith

    differ : a ≢ b → either_root a b ≡ 3
    differ ne = let e : nat_eq a b ≡ false = grind (arith, nat_tests) in ap (λ c. cond c 2 3) e

    by : (a < b) ⊎ ((b < a) ⊎ (a ≡ b)) → IsEither (either_nodes (min a b) (max a b)) (either_root a b) a b
    by (inl lt) =
        let e : min a b ≡ a = omega arith in
        let f : max a b ≡ b = omega arith in
        let r = differ (omega arith) in
        let P : ℕ → Type 0 = λ s. IsEither (either_nodes s (max a b)) (either_root a b) a b in
        let Q : ℕ → Type 0 = λ t. IsEither (either_nodes a t) (either_root a b) a b in
        let R : ℕ → Type 0 = λ k. IsEither (either_nodes a b) k a b in
        subst P (sym e) (subst Q (sym f) (subst R (sym r) (three_either a b lt fits_b)))
    by (inr (inl lt)) =
        let e : min a b ≡ b = omega arith in
        let f : max a b ≡ a = omega arith in
        let r = differ (omega arith) in
        let P : ℕ → Type 0 = λ s. IsEither (either_nodes s (max a b)) (either_root a b) a b in
        let Q : ℕ → Type 0 = λ t. IsEither (either_nodes b t) (either_root a b) a b in
        let R : ℕ → Type 0 = λ k. IsEither (either_nodes b a) k a b in
        subst P (sym e) (subst Q (sym f) (subst R (sym r) (three_other b a lt fits_a)))
    by (inr (inr same)) =
        let f : max a b ≡ a = omega arith in
        let t : nat_eq a b ≡ true = grind (arith, nat_tests) in
        let r : either_root a b ≡ 2 = ap (λ c. cond c 2 3) t in
        let Q : ℕ → Type 0 = λ t. IsEither (either_nodes (min a b) t) (either_root a b) a b in
        let R : ℕ → Type 0 = λ k. IsEither (either_nodes (min a b) a) k a b in
        let S : ℕ → Type 0 = λ c. IsEither (either_nodes (min a b) a) 2 a c in
        subst Q (sym f) (subst R (sym r) (subst S same
        (record { source = two_is (min a b) a fits_a; answers = λ at. ap (λ x. value x at) (tree_two (min a b) a) ∙ either_one (at a) })))
