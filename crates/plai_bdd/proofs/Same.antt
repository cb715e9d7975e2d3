-- Lists compared, and what a walk to one of two slots says.
use Rattle.std.proofs.Common.{◌≡◌, ℕ, ◌<◌, Bool, true, ◌&&◌, ◌||◌, ◌↔◌, IsTrue, List, [], ◌∷◌, min, max, refl, sym, ap, subst, ◌∙◌, true≢false}
use Rattle.std.proofs.lemmas.Bool.{and_parts}
use Rattle.std.specs.Cmp.Lexicographic.{pointwise}
use Rattle.plai_bdd.specs.Assignment.{Assignment}
use Rattle.plai_bdd.specs.declared.node.Node.{Node}
use Rattle.plai_bdd.specs.declared.node.Node.TheVariants.{Leaf, Branch}
use Rattle.plai_bdd.specs.contracts.node.NodePartialEq.TheImpl as node_eq
use Rattle.plai_bdd.specs.Nodes.{same_node, tree_at, root_of, holds, IsCanonical, AreSameFunction}
use Rattle.plai_bdd.specs.Walk.{Implies, either_nodes, either_root}
use Rattle.plai_bdd.proofs.Lists.{same_node-true, same_node-same}
use Rattle.plai_bdd.proofs.Canonical.{same_nodes}
use Rattle.plai_bdd.proofs.Either.{IsEither, either_is}

-- the derived comparison of nodes
abbrev pub node_equal : Node → Node → Bool
node_equal = (node_eq.ghosts).eq

node_equal-is : (m n : Node) → node_equal m n ≡ same_node m n
node_equal-is (Leaf a) (Leaf b) = refl
node_equal-is (Leaf a) (Branch s i j) = refl
node_equal-is (Branch s i j) (Leaf b) = refl
node_equal-is (Branch s i j) (Branch t k l) = refl

pointwise-true : (a b : List Node) → pointwise node_equal a b ≡ true → a ≡ b
pointwise-true [] [] h = refl
pointwise-true [] (n ∷ b) h = absurd (true≢false (sym h))
pointwise-true (m ∷ a) [] h = absurd (true≢false (sym h))
pointwise-true (m ∷ a) (n ∷ b) h =
    let p = and_parts (node_equal m n) (pointwise node_equal a b) h in
    (λ x. same_node-true m n (sym (node_equal-is m n) ∙ p.0) x ∷ pointwise-true a b p.1 x)

pointwise-same : (a : List Node) → pointwise node_equal a a ≡ true
pointwise-same [] = refl
pointwise-same (m ∷ a) = (λ x. (node_equal-is m m ∙ same_node-same m) x && pointwise-same a x)

pub lists_decided : (r : Bool) (x y a b : List Node) → r ≡ pointwise node_equal a b → a ≡ x → b ≡ y → IsTrue r ↔ (x ≡ y)
lists_decided r x y a b e f g =
    (λ h. sym f ∙ pointwise-true a b (sym e ∙ h) ∙ g, λ same. e ∙ ap (pointwise node_equal a) (g ∙ sym same ∙ sym f) ∙ pointwise-same a)

pub functions_decided : (r : Bool) (x y : List Node) → IsTrue r ↔ (x ≡ y) → IsCanonical x → IsCanonical y → IsTrue r ↔ AreSameFunction x y
functions_decided r x y d cx cy = (λ h at. ap (λ l. holds l at) (d.0 h), λ same. d.1 (same_nodes x y cx cy same))

-- equal functions have equal lists, and equal lists equal functions
pub same_function : (x y : List Node) → IsCanonical x → IsCanonical y → AreSameFunction x y ↔ (x ≡ y)
same_function x y cx cy = (λ same. same_nodes x y cx cy same, λ e at. ap (λ l. holds l at) e)

-- what a walk from the roots of two lists decides
pub roots_decide : (r : Bool) (left right self other : List Node) → left ≡ self → right ≡ other → IsTrue r ↔ Implies (root_of left) (root_of right)
    → IsTrue r ↔ ((at : Assignment) → IsTrue (holds self at) → IsTrue (holds other at))
roots_decide r left right self other e f d =
    let P : List Node → Type 0 = λ l. IsTrue r ↔ Implies (root_of l) (root_of other) in
    subst P e (subst (λ l. IsTrue r ↔ Implies (root_of left) (root_of l)) f d)

pub either_at : (a b first second root : ℕ) (nodes : List Node) → a < 64 → b < 64 → first ≡ min a b → second ≡ max a b → nodes ≡ either_nodes first second
    → root ≡ either_root a b → IsEither nodes root a b
either_at a b first second root nodes fits_a fits_b e f g h =
    let all : nodes ≡ either_nodes (min a b) (max a b) = g ∙ (λ x. either_nodes (e x) (f x)) in
    let P : List Node → Type 0 = λ l. IsEither l root a b in
    subst P (sym all) (subst (λ k. IsEither (either_nodes (min a b) (max a b)) k a b) (sym h) (either_is a b fits_a fits_b))

pub forces_decided : (r : Bool) (self left right : List Node) (root a b : ℕ) → left ≡ self → IsEither right root a b
    → IsTrue r ↔ Implies (root_of left) (tree_at right root)
    → IsTrue r ↔ ((at : Assignment) → IsTrue (holds self at) → IsTrue (at a || at b))
forces_decided r self left right root a b e either d = (
  λ h at this. sym (either.answers at) ∙ d.0 h at (ap (λ l. holds l at) e ∙ this),
  λ all. d.1 (λ at this. either.answers at ∙ all at (ap (λ l. holds l at) (sym e) ∙ this)),
)
