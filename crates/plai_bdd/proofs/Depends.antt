-- Each slot of a reduced tree is one that its function depends on.
use Rattle.std.proofs.Common.{◌≡◌, ℕ, ◌+◌, ◌<◌, ◌≤◌, Bool, true, false, cond, nat_eq, List, refl, sym, ap, ◌∙◌, arith, ◌⊎◌, inl, inr}
use Rattle.std.proofs.lemmas.Bool.Decides.{nat_tests}
use Rattle.plai_bdd.specs.Assignment.{Assignment, with_slot, IsFree}
use Rattle.plai_bdd.specs.declared.node.Node.{Node}
use Rattle.plai_bdd.specs.Tree.{Tree, Tip, Fork, value, IsReduced}
use Rattle.plai_bdd.specs.declared.change.Change.{Change}
use Rattle.plai_bdd.specs.declared.change.Change.TheVariants.{Keep, Fix, Apart, Raise, Lower}
use Rattle.plai_bdd.specs.Change.{AllSlots, can_place, IsPlaceable}
use Rattle.plai_bdd.specs.Nodes.{root_of, holds, IsCanonical, IsOver}
use Rattle.plai_bdd.proofs.Trees.{value-with_slot, value-low, value-high, children_same, same_below}

below_or : (s t : ℕ) → (t < s + 1) ⊎ (s < t)
below_or s t = grind arith

swapped : (at : Assignment) (s t : ℕ) (b c : Bool) → s < t → (k : ℕ) → with_slot (with_slot at t b) s c k ≡ with_slot (with_slot at s c) t b k
swapped at s t b c lt k = by (nat_eq k s) (nat_eq k t) refl refl
  where
    by : (x y : Bool) → nat_eq k s ≡ x → nat_eq k t ≡ y → cond (nat_eq k s) c (cond (nat_eq k t) b (at k)) ≡ cond (nat_eq k t) b (cond (nat_eq k s) c (at k))
    by true true e f = let h : s ≡ t = grind (arith, nat_tests) in absurd (omega arith)
    by true false e f = (λ i. cond (e i) c (cond (f i) b (at k))) ∙ sym (λ i. cond (f i) b (cond (e i) c (at k)))
    by false true e f = (λ i. cond (e i) c (cond (f i) b (at k))) ∙ sym (λ i. cond (f i) b (cond (e i) c (at k)))
    by false false e f = (λ i. cond (e i) c (cond (f i) b (at k))) ∙ sym (λ i. cond (f i) b (cond (e i) c (at k)))

module _ (s : ℕ) (l h : Tree) (n : ℕ) (r : IsReduced n (Fork s l h)) (t : ℕ) (free : IsFree (value (Fork s l h)) t) where
  low_free : IsFree (value l) t
  low_free at b = by (below_or s t)
    where
      by : (t < s + 1) ⊎ (s < t) → value l (with_slot at t b) ≡ value l at
      by (inl lt) = value-with_slot l (s + 1) r.3 t lt at b
      by (inr lt) =
          sym (value-low s l h n r (with_slot at t b)) ∙ ap (value (Fork s l h)) (λ i k. swapped at s t b false lt k i)
          ∙ free (with_slot at s false) b ∙ value-low s l h n r at

  high_free : IsFree (value h) t
  high_free at b = by (below_or s t)
    where
      by : (t < s + 1) ⊎ (s < t) → value h (with_slot at t b) ≡ value h at
      by (inl lt) = value-with_slot h (s + 1) r.4 t lt at b
      by (inr lt) =
          sym (value-high s l h n r (with_slot at t b)) ∙ ap (value (Fork s l h)) (λ i k. swapped at s t b true lt k i)
          ∙ free (with_slot at s true) b ∙ value-high s l h n r at

-- what holds of each slot that the function depends on holds of each slot of its tree
pub AllSlots-depends : (P : ℕ → Type 0) (t : Tree) (n : ℕ) → IsReduced n t → ((slot : ℕ) → (IsFree (value t) slot → ⊥) → P slot) → AllSlots P t
AllSlots-depends P (Tip b) n r all = tt
AllSlots-depends P (Fork s l h) n r all = (
  all s (λ free. r.2 (same_below l h (s + 1) r.3 r.4 (children_same s l h n r (value (Fork s l h)) free (λ at. refl)))),
  AllSlots-depends P l (s + 1) r.3 (λ slot bound. all slot (λ free. bound (low_free s l h n r slot free))),
  AllSlots-depends P h (s + 1) r.4 (λ slot bound. all slot (λ free. bound (high_free s l h n r slot free))),
)

-- for a list: what holds of each slot that its function depends on holds of each slot of its tree
AllSlots-holds : (P : ℕ → Type 0) (nodes : List Node) → IsCanonical nodes → ((slot : ℕ) → (IsFree (holds nodes) slot → ⊥) → P slot) → AllSlots P (root_of nodes)
AllSlots-holds P nodes c all = AllSlots-depends P (root_of nodes) 0 c.reduced all

-- the slots of a list whose function can be changed can be placed
pub AllSlots-placeable : (change : Change) (nodes : List Node) → IsCanonical nodes → IsPlaceable change (holds nodes)
    → AllSlots (can_place change) (root_of nodes)
AllSlots-placeable change nodes c all = AllSlots-holds (can_place change) nodes c (λ slot bound. by slot bound (all slot))
  where
    by : (slot : ℕ) → (IsFree (holds nodes) slot → ⊥) → can_place change slot ⊎ IsFree (holds nodes) slot → can_place change slot
    by slot bound (inl can) = can
    by slot bound (inr free) = absurd (bound free)

pub keep_places : (f : Assignment → Bool) → IsPlaceable Keep f
keep_places f slot = inl tt

pub fix_places : (fixed : ℕ) (answer : Bool) (f : Assignment → Bool) → IsPlaceable (Fix fixed answer) f
fix_places fixed answer f slot = inl tt

pub apart_places : (parted : ℕ) (f : Assignment → Bool) → IsPlaceable (Apart parted) f
apart_places parted f slot = inl tt

below_or_not : (a b : ℕ) → (a < b) ⊎ (b ≤ a)
below_or_not a b = grind arith

pub raise_places : (by : ℕ) (f : Assignment → Bool) → ((slot : ℕ) → 64 ≤ slot + by → IsFree f slot) → IsPlaceable (Raise by) f
raise_places by f free slot = place (below_or_not (slot + by) 64)
  where
    place : (slot + by < 64) ⊎ (64 ≤ slot + by) → (slot + by < 64) ⊎ IsFree f slot
    place (inl fits) = inl fits
    place (inr over) = inr (free slot over)

pub lower_places : (by : ℕ) (f : Assignment → Bool) → ((slot : ℕ) → slot < by → IsFree f slot) → IsPlaceable (Lower by) f
lower_places by f free slot = place (below_or_not slot by)
  where
    place : (slot < by) ⊎ (by ≤ slot) → (by ≤ slot) ⊎ IsFree f slot
    place (inl under) = inr (free slot under)
    place (inr fits) = inl fits

-- a tree whose slots are all below the bound answers alike where the assignments agree below it
value-below : (t : Tree) (bound : ℕ) → AllSlots (λ slot. slot < bound) t → (at other : Assignment) → ((k : ℕ) → k < bound → at k ≡ other k)
    → value t at ≡ value t other
value-below (Tip b) bound r at other same = refl
value-below (Fork s l h) bound r at other same =
    (λ i. cond (same s r.0 i) (value-below h bound r.2 at other same i) (value-below l bound r.1 at other same i))

-- a function of slots below the bound alone answers alike where the assignments agree below it
pub holds-below : (nodes : List Node) (bound : ℕ) → IsCanonical nodes → IsOver bound nodes → (at other : Assignment) → ((k : ℕ) → k < bound → at k ≡ other k)
    → holds nodes at ≡ holds nodes other
holds-below nodes bound c over at other same =
    value-below (root_of nodes) bound (AllSlots-holds (λ slot. slot < bound) nodes c (λ slot depends. by slot depends (below_or_not slot bound))) at other same
  where
    by : (slot : ℕ) → (IsFree (holds nodes) slot → ⊥) → (slot < bound) ⊎ (bound ≤ slot) → slot < bound
    by slot depends (inl lt) = lt
    by slot depends (inr le) = absurd (depends (over slot le))
