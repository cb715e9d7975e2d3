-- One place of a list, seen at a slot: its children, their trees and answers.
use Rattle.std.proofs.Common.{◌≡◌, ◌≢◌, ℕ, ◌+◌, ◌-◌, ◌<◌, ◌≤◌, Bool, true, false, cond, nat_eq, List, get_or, refl, sym, ap, subst, ◌∙◌, arith}
use Rattle.std.proofs.lemmas.Bool.Decides.{nat_tests}
use Rattle.plai_bdd.specs.Assignment.{Assignment}
use Rattle.plai_bdd.specs.declared.node.Node.{Node}
use Rattle.plai_bdd.specs.declared.node.Node.TheVariants.{Leaf, Branch}
use Rattle.plai_bdd.specs.declared.change.Change.{Change}
use Rattle.plai_bdd.specs.declared.change.Change.TheVariants.{Keep, Fix, Apart, Raise, Lower}
use Rattle.plai_bdd.specs.declared.change.Placed.TheVariants.{At, Fixed, Parted}
use Rattle.plai_bdd.specs.Tree.{Tree, Tip, Fork, value, IsReduced}
use Rattle.plai_bdd.specs.Change.{placed, can_place, moved, changed, AllSlots, top_of}
use Rattle.plai_bdd.specs.Nodes.{tree_of_node, trees_of, tree_at}
use Rattle.plai_bdd.specs.Table.{no_node, HasChildrenBelow, IsSource, slot_of, leaf_answer, children_of}

-- the top of a reduced tree
pub top_least : (t : Tree) (n : ℕ) → n ≤ 64 → IsReduced n t → n ≤ top_of t
top_least (Tip b) n h r = h
top_least (Fork s l u) n h r = r.0

reduced_zero : (t : Tree) (n : ℕ) → IsReduced n t → IsReduced 0 t
reduced_zero (Tip b) n r = tt
reduced_zero (Fork s l u) n r = (omega arith, r.1, r.2, r.3, r.4)

pub top_at_most : (t : Tree) (n : ℕ) → IsReduced n t → top_of t ≤ 64
top_at_most (Tip b) n r = omega arith
top_at_most (Fork s l u) n r = omega (arith, r.1)

-- what the children of a place have
pub record IsSplit (change : Change) (t : List Node) (place slot low high : ℕ) : Type 0 where
  pub low_is : IsSource change t low
  pub high_is : IsSource change t high
  pub low_within : low ≤ place
  pub high_within : high ≤ place
  pub low_below : top_of (tree_at t place) ≡ slot → low < place
  pub high_below : top_of (tree_at t place) ≡ slot → high < place
  pub low_top : slot < top_of (tree_at t low)
  pub high_top : slot < top_of (tree_at t high)
  pub splits : (at : Assignment) → value (tree_at t place) at ≡ cond (at slot) (value (tree_at t high) at) (value (tree_at t low) at)

same_both : (b x : Bool) → x ≡ cond b x x
same_both true x = refl
same_both false x = refl

-- a place whose top is another slot
stays : (change : Change) (t : List Node) (place slot : ℕ) → IsSource change t place → slot < top_of (tree_at t place) → IsSplit change t place slot place place
stays change t place slot src lt = record {
  low_is = src;
  high_is = src;
  low_within = omega arith;
  high_within = omega arith;
  low_below = λ e. absurd (omega arith);
  high_below = λ e. absurd (omega arith);
  low_top = lt;
  high_top = lt;
  splits = λ at. same_both (at slot) (value (tree_at t place) at);
}

-- a place whose top is the slot
splits_here : (change : Change) (t : List Node) (place slot i j : ℕ) → IsSource change t place → (i < place) × (j < place)
    → tree_at t place ≡ Fork slot (tree_at t i) (tree_at t j) → IsSplit change t place slot i j
splits_here change t place slot i j src w e =
    let r : IsReduced 0 (Fork slot (tree_at t i) (tree_at t j)) = subst (IsReduced 0) e src.reduced in
    let f : AllSlots (can_place change) (Fork slot (tree_at t i) (tree_at t j)) = subst (AllSlots (can_place change)) e src.fits in
    record {
      low_is = record { table = src.table; inside = omega (arith, w.0, src.inside); reduced = reduced_zero (tree_at t i) (slot + 1) r.3; fits = f.1 };
      high_is = record { table = src.table; inside = omega (arith, w.1, src.inside); reduced = reduced_zero (tree_at t j) (slot + 1) r.4; fits = f.2 };
      low_within = omega arith;
      high_within = omega arith;
      low_below = λ _. w.0;
      high_below = λ _. w.1;
      low_top = omega (arith, top_least (tree_at t i) (slot + 1) (omega (arith, r.1)) r.3);
      high_top = omega (arith, top_least (tree_at t j) (slot + 1) (omega (arith, r.1)) r.4);
      splits = λ at. ap (λ x. value x at) e;
    }

module _ (change : Change) (t : List Node) (place : ℕ) (node : Node) (src : IsSource change t place) (is : get_or t place no_node ≡ node) where
  tree_is : tree_at t place ≡ tree_of_node (trees_of t) node
  tree_is = src.table.unfolds place src.inside ∙ ap (tree_of_node (trees_of t)) is

  within_is : HasChildrenBelow place node
  within_is = subst (HasChildrenBelow place) is (src.table.below place src.inside)

-- the slot of a place's node is the top of its tree
pub top_is : (change : Change) (t : List Node) (place : ℕ) (node : Node) → IsSource change t place → get_or t place no_node ≡ node
    → top_of (tree_at t place) ≡ slot_of node
top_is change t place (Leaf b) src is = ap top_of (tree_is change t place (Leaf b) src is)
top_is change t place (Branch s i j) src is = ap top_of (tree_is change t place (Branch s i j) src is)

-- a leaf's answer is its tree's
pub leaf_is : (change : Change) (t : List Node) (place : ℕ) (node : Node) → IsSource change t place → get_or t place no_node ≡ node → 64 ≤ slot_of node
    → (at : Assignment) → value (tree_at t place) at ≡ leaf_answer node
leaf_is change t place (Leaf b) src is h at = ap (λ x. value x at) (tree_is change t place (Leaf b) src is)
leaf_is change t place (Branch s i j) src is h at =
    let r : IsReduced 0 (Fork s (tree_at t i) (tree_at t j)) = subst (IsReduced 0) (tree_is change t place (Branch s i j) src is) src.reduced in
    absurd (omega (arith, r.1))

pub children_split : (change : Change) (t : List Node) (place : ℕ) (node : Node) (slot : ℕ) → IsSource change t place → get_or t place no_node ≡ node
    → slot ≤ slot_of node → slot < 64 → IsSplit change t place slot (children_of node slot place).0 (children_of node slot place).1
children_split change t place (Leaf b) slot src is le lt = stays change t place slot src (omega (arith, top_is change t place (Leaf b) src is))
children_split change t place (Branch s i j) slot src is le lt = by (nat_eq s slot) refl
  where
    by : (b : Bool) → nat_eq s slot ≡ b → IsSplit change t place slot (children_of (Branch s i j) slot place).0 (children_of (Branch s i j) slot place).1
    by true e =
        let same : s ≡ slot = grind (arith, nat_tests) in
        let P : Bool → Type 0 = λ b. IsSplit change t place slot (cond {A = ℕ × ℕ} b (i, j) (place, place)).0 (cond {A = ℕ × ℕ} b (i, j) (place, place)).1 in
        subst P (sym e) (splits_here change t place slot i j src (within_is change t place (Branch s i j) src is)
        (tree_is change t place (Branch s i j) src is ∙ ap (λ x. Fork x (tree_at t i) (tree_at t j)) same))
    by false e =
        let other : s ≢ slot = λ x. grind (arith, nat_tests) in
        let P : Bool → Type 0 = λ b. IsSplit change t place slot (cond {A = ℕ × ℕ} b (i, j) (place, place)).0 (cond {A = ℕ × ℕ} b (i, j) (place, place)).1 in
        subst P (sym e) (stays change t place slot src (omega (arith, top_is change t place (Branch s i j) src is)))

-- the top slot of a place can be placed
pub top_fits : (change : Change) (t : Tree) (slot : ℕ) → AllSlots (can_place change) t → top_of t ≡ slot → slot < 64 → can_place change slot
top_fits change (Tip b) slot f e lt = absurd (omega arith)
top_fits change (Fork s l u) slot f e lt = subst (can_place change) e f.0

-- where a slot comes to stand, and what it answers
pub placed_at : (change : Change) (slot m : ℕ) → placed change slot ≡ At m → can_place change slot → slot < 64
    → (m ≡ moved change slot) × (m < 64) × ((side : Bool) (at : Assignment) → changed change side at slot ≡ at m)
placed_at Keep slot m e can lt = let f : slot ≡ m = cc in (sym f, omega arith, λ side at. ap at f)
placed_at (Raise by) slot m e can lt = let f : slot + by ≡ m = cc in (sym f, omega arith, λ side at. ap at f)
placed_at (Lower by) slot m e can lt = let f : slot - by ≡ m = cc in (sym f, omega arith, λ side at. ap at f)
placed_at (Fix fixed answer) slot m e can lt = at_by (nat_eq slot fixed) refl
  where
    at_by : (b : Bool) → nat_eq slot fixed ≡ b → (m ≡ slot) × (m < 64) × ((side : Bool) (at : Assignment) → cond (nat_eq slot fixed) answer (at slot) ≡ at m)
    at_by true h = let g : Fixed answer ≡ At m = sym (ap (λ b. cond b (Fixed answer) (At slot)) h) ∙ e in (cc)
    at_by false h =
        let g : At slot ≡ At m = sym (ap (λ b. cond b (Fixed answer) (At slot)) h) ∙ e in
        let f : slot ≡ m = cc in
        (sym f, omega arith, λ side at. ap (λ b. cond b answer (at slot)) h ∙ ap at f)
placed_at (Apart parted) slot m e can lt = at_by (nat_eq slot parted) refl
  where
    at_by : (b : Bool) → nat_eq slot parted ≡ b → (m ≡ slot) × (m < 64) × ((side : Bool) (at : Assignment) → cond (nat_eq slot parted) side (at slot) ≡ at m)
    at_by true h = let g : Parted ≡ At m = sym (ap (λ b. cond b Parted (At slot)) h) ∙ e in (cc)
    at_by false h =
        let g : At slot ≡ At m = sym (ap (λ b. cond b Parted (At slot)) h) ∙ e in
        let f : slot ≡ m = cc in
        (sym f, omega arith, λ side at. ap (λ b. cond b side (at slot)) h ∙ ap at f)

pub placed_fixed : (change : Change) (slot : ℕ) (answer : Bool) → placed change slot ≡ Fixed answer
    → (moved change slot ≡ slot) × ((side : Bool) (at : Assignment) → changed change side at slot ≡ answer)
placed_fixed Keep slot answer e = (cc)
placed_fixed (Raise by) slot answer e = (cc)
placed_fixed (Lower by) slot answer e = (cc)
placed_fixed (Fix fixed given) slot answer e = (refl, λ side at. fixed_by (nat_eq slot fixed) refl at)
  where
    fixed_by : (b : Bool) → nat_eq slot fixed ≡ b → (at : Assignment) → cond (nat_eq slot fixed) given (at slot) ≡ answer
    fixed_by true h at =
        let g : Fixed given ≡ Fixed answer = sym (ap (λ b. cond b (Fixed given) (At slot)) h) ∙ e in
        let f : given ≡ answer = cc in
        ap (λ b. cond b given (at slot)) h ∙ f
    fixed_by false h at = let g : At slot ≡ Fixed answer = sym (ap (λ b. cond b (Fixed given) (At slot)) h) ∙ e in (cc)
placed_fixed (Apart parted) slot answer e = absurd (never (nat_eq slot parted) e)
  where
    never : (b : Bool) → cond b Parted (At slot) ≡ Fixed answer → ⊥
    never true g = cc
    never false g = cc

-- a slot that goes with an answer for each side
pub placed_parted : (change : Change) (slot : ℕ) → placed change slot ≡ Parted
    → (moved change slot ≡ slot) × ((side : Bool) (at : Assignment) → changed change side at slot ≡ side)
placed_parted Keep slot e = (cc)
placed_parted (Raise by) slot e = (cc)
placed_parted (Lower by) slot e = (cc)
placed_parted (Fix fixed given) slot e = absurd (never (nat_eq slot fixed) e)
  where
    never : (b : Bool) → cond b (Fixed given) (At slot) ≡ Parted → ⊥
    never true g = cc
    never false g = cc
placed_parted (Apart parted) slot e = (refl, λ side at. parted_by (nat_eq slot parted) refl side at)
  where
    parted_by : (b : Bool) → nat_eq slot parted ≡ b → (side : Bool) (at : Assignment) → cond (nat_eq slot parted) side (at slot) ≡ side
    parted_by true h side at = ap (λ b. cond b side (at slot)) h
    parted_by false h side at = let g : At slot ≡ Parted = sym (ap (λ b. cond b Parted (At slot)) h) ∙ e in (cc)

-- the slots below one stay below it
pub moved_more : (change : Change) (slot low : ℕ) → can_place change slot → slot < low → moved change slot + 1 ≤ moved change low
moved_more Keep slot low can lt = omega arith
moved_more (Fix fixed answer) slot low can lt = omega arith
moved_more (Apart parted) slot low can lt = omega arith
moved_more (Raise by) slot low can lt = omega arith
moved_more (Lower by) slot low can lt = omega arith
