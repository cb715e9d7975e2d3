-- A list without a branch on a slot stands for a function that does not depend on it.
use Rattle.std.proofs.Common.{◌≡◌, ℕ, zero, suc, ◌<◌, Bool, true, false, cond, nat_eq, ◌||◌, ◌-◌, List, [], ◌∷◌, length, get_or, refl, sym, ap, subst, ◌∙◌}
use Rattle.std.proofs.Common.{true≢false, arith}
use Rattle.std.specs.List.{list_any}
use Rattle.plai_base.specs.Mask.{has_slot}
use Rattle.plai_bdd.specs.declared.node.Node.{Node}
use Rattle.plai_bdd.specs.declared.node.Node.TheVariants.{Leaf, Branch}
use Rattle.plai_bdd.specs.Assignment.{Assignment, with_slot, IsFree}
use Rattle.plai_bdd.specs.Tree.{Tree, value}
use Rattle.plai_bdd.specs.Nodes.{tree_of_node, trees_of, tree_at, holds, IsCanonical, IsFunction}
use Rattle.plai_bdd.specs.Slots.{some_slot}
use Rattle.plai_bdd.specs.Table.{no_node, slot_of, HasChildrenBelow, IsTable}
use Rattle.plai_bdd.proofs.Canonical.{rooted}

none_first : (a b : Bool) → (a || b) ≡ false → a ≡ false
none_first true b h = absurd (true≢false h)
none_first false b h = refl

none_rest : (a b : Bool) → (a || b) ≡ false → b ≡ false
none_rest true b h = absurd (true≢false h)
none_rest false b h = h

none_at : (p : Node → Bool) (t : List Node) (k : ℕ) → list_any p t ≡ false → k < length t → p (get_or t k no_node) ≡ false
none_at p [] k h lt = absurd (omega arith)
none_at p (n ∷ t) zero h lt = none_first (p n) (list_any p t) h
none_at p (n ∷ t) (suc k) h lt = none_at p t k (none_rest (p n) (list_any p t) h) (omega arith)

module _ (t : List Node) (ok : IsTable t) (slot : ℕ) (none : list_any (λ node. nat_eq (slot_of node) slot) t ≡ false) (at : Assignment) (b : Bool) where
  abbrev Alike : Tree → Type 0
  Alike tree = value tree (with_slot at slot b) ≡ value tree at

  alike_by : (k : ℕ) (node : Node) → HasChildrenBelow k node → nat_eq (slot_of node) slot ≡ false → ((m : ℕ) → m < k → Alike (tree_at t m))
      → Alike (tree_of_node (trees_of t) node)
  alike_by k (Leaf answer) within other below = refl
  alike_by k (Branch s i j) within other below =
      let here : with_slot at slot b s ≡ at s = ap (λ c. cond c b (at s)) other in
      (λ x. cond (here x) (below j within.1 x) (below i within.0 x))

  alike : (n k : ℕ) → k < n → k < length t → Alike (tree_at t k)
  alike zero k lt inside = absurd (omega arith)
  alike (suc n) k lt inside =
      let is = ok.unfolds k inside in
      ap (λ tree. value tree (with_slot at slot b)) is
      ∙ alike_by k (get_or t k no_node) (ok.below k inside) (none_at (λ node. nat_eq (slot_of node) slot) t k none inside)
      (λ m le. alike n m (omega arith) (omega arith))
      ∙ sym (ap (λ tree. value tree at) is)

pub unused_free : (t : List Node) (slot : ℕ) → IsCanonical t → list_any (λ node. nat_eq (slot_of node) slot) t ≡ false → IsFree (holds t) slot
unused_free t slot c none at b =
    let r = rooted t c in
    alike t r.table slot none at b (length t) (length t - 1) (omega (arith, r.some)) (omega (arith, r.some))

-- so it is what it is at some answer of that slot
pub some_unused : (f : Assignment → Bool) (slot : ℕ) → IsFree f slot → (mask : ℕ) (at : Assignment) → f at ≡ some_slot mask slot f at
some_unused f slot free mask at = by (has_slot mask slot)
  where
    twice : (x y z : Bool) → x ≡ z → y ≡ z → z ≡ (x || y)
    twice true y z e g = sym e
    twice false y z e g = sym g

    by : (c : Bool) → f at ≡ cond c (f (with_slot at slot false) || f (with_slot at slot true)) (f at)
    by true = twice _ _ _ (free at false) (free at true)
    by false = refl

-- the same by the slice of the nodes
pub unused_seen : (self inside seen : List Node) (slot : ℕ) (r : Bool) → IsCanonical inside → seen ≡ inside → inside ≡ self
    → r ≡ list_any (λ node. nat_eq (slot_of node) slot) seen → r ≡ false → IsFree (holds self) slot
unused_seen self inside seen slot r c e f found none =
    unused_free self slot (subst IsCanonical f c) (sym (ap (list_any (λ node. nat_eq (slot_of node) slot)) (e ∙ f)) ∙ sym found ∙ none)

-- the two ways in which nothing is to be done for a slot
pub unused_is : (self : List Node) (slot mask : ℕ) → IsCanonical self → IsFree (holds self) slot → IsFunction self (some_slot mask slot (holds self))
unused_is self slot mask c free = record { canonical = c; answers = some_unused (holds self) slot free mask }

pub without_slot : (self : List Node) (slot mask : ℕ) (r : Bool) → IsCanonical self → r ≡ has_slot mask slot → r ≡ false
    → IsFunction self (some_slot mask slot (holds self))
without_slot self slot mask r c has none = record {
  canonical = c;
  answers = λ at. sym (ap (λ b. cond b (holds self (with_slot at slot false) || holds self (with_slot at slot true)) (holds self at)) (sym has ∙ none));
}
