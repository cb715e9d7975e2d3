-- The steps of a walk that tells whether one tree implies another.
use Rattle.std.proofs.Common.{◌≡◌, ℕ, ◌<◌, Bool, true, false, cond, ◌↔◌, IsTrue, List, sym, ap, ◌∙◌, arith}
use Rattle.plai_bdd.specs.Assignment.{Assignment, with_slot}
use Rattle.plai_bdd.specs.declared.node.Node.{Node}
use Rattle.plai_bdd.specs.declared.change.Change.TheVariants.{Keep}
use Rattle.plai_bdd.specs.Tree.{Tree, Tip, Fork, value, IsReduced}
use Rattle.plai_bdd.specs.Change.{top_of}
use Rattle.plai_bdd.specs.Nodes.{tree_at}
use Rattle.plai_bdd.specs.Walk.{Implies}
use Rattle.plai_bdd.proofs.Trees.{value-with_slot, with_slot_same}
use Rattle.plai_bdd.proofs.Splits.{IsSplit}

-- the answers of a tree at a slot that is fixed
module _ (t : Tree) (slot : ℕ) (low high : Tree) (n m : ℕ) (low_is : IsReduced n low) (high_is : IsReduced m high) (low_top : slot < n) (high_top : slot < m)
    (splits : (at : Assignment) → value t at ≡ cond (at slot) (value high at) (value low at)) where
  pub value_at-false : (at : Assignment) → value t (with_slot at slot false) ≡ value low at
  value_at-false at =
      splits (with_slot at slot false) ∙ ap (λ b. cond b (value high (with_slot at slot false)) (value low (with_slot at slot false)))
      (with_slot_same at slot false)
      ∙ value-with_slot low n low_is slot low_top at false

  pub value_at-true : (at : Assignment) → value t (with_slot at slot true) ≡ value high at
  value_at-true at =
      splits (with_slot at slot true) ∙ ap (λ b. cond b (value high (with_slot at slot true)) (value low (with_slot at slot true)))
      (with_slot_same at slot true)
      ∙ value-with_slot high m high_is slot high_top at true

tightened : (t : Tree) → IsReduced 0 t → IsReduced (top_of t) t
tightened (Tip b) r = tt
tightened (Fork s l h) r = (omega arith, r.1, r.2, r.3, r.4)

module _ (left right : List Node) (i j slot : ℕ) (cl cr : ℕ × ℕ) (left_split : IsSplit Keep left i slot cl.0 cl.1)
    (right_split : IsSplit Keep right j slot cr.0 cr.1) where
  pub implies_low : Implies (tree_at left i) (tree_at right j) → Implies (tree_at left cl.0) (tree_at right cr.0)
  implies_low h at this =
      sym (value_at-false (tree_at right j) slot (tree_at right cr.0) (tree_at right cr.1) _ _ (tightened _ right_split.low_is.reduced)
      (tightened _ right_split.high_is.reduced) right_split.low_top right_split.high_top right_split.splits at)
      ∙ h (with_slot at slot false)
      (value_at-false (tree_at left i) slot (tree_at left cl.0) (tree_at left cl.1) _ _ (tightened _ left_split.low_is.reduced)
      (tightened _ left_split.high_is.reduced) left_split.low_top left_split.high_top left_split.splits at ∙ this)

  pub implies_high : Implies (tree_at left i) (tree_at right j) → Implies (tree_at left cl.1) (tree_at right cr.1)
  implies_high h at this =
      sym (value_at-true (tree_at right j) slot (tree_at right cr.0) (tree_at right cr.1) _ _ (tightened _ right_split.low_is.reduced)
      (tightened _ right_split.high_is.reduced) right_split.low_top right_split.high_top right_split.splits at)
      ∙ h (with_slot at slot true)
      (value_at-true (tree_at left i) slot (tree_at left cl.0) (tree_at left cl.1) _ _ (tightened _ left_split.low_is.reduced)
      (tightened _ left_split.high_is.reduced) left_split.low_top left_split.high_top left_split.splits at ∙ this)

  pub implies_both : Implies (tree_at left cl.0) (tree_at right cr.0) → Implies (tree_at left cl.1) (tree_at right cr.1)
      → Implies (tree_at left i) (tree_at right j)
  implies_both low high at this = by (at slot) (sym (left_split.splits at) ∙ this) (right_split.splits at)
    where
      by : (b : Bool) → cond b (value (tree_at left cl.1) at) (value (tree_at left cl.0) at) ≡ true
          → value (tree_at right j) at ≡ cond b (value (tree_at right cr.1) at) (value (tree_at right cr.0) at)
          → value (tree_at right j) at ≡ true
      by true y e = e ∙ high at y
      by false y e = e ∙ low at y

-- a second leaf's answer decides where the first leaf is true
pub implies_leaf : (t u : Tree) (a b : Bool) → a ≡ true → ((at : Assignment) → value t at ≡ a) → ((at : Assignment) → value u at ≡ b) → IsTrue b ↔ Implies t u
implies_leaf t u a b e ta ub = (λ this at _. ub at ∙ this, λ all. sym (ub (λ _. false)) ∙ all (λ _. false) (ta (λ _. false) ∙ e))
