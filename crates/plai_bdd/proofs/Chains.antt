-- Chains: how the diagram of a conjunction grows, slot by slot.
use Rattle.std.proofs.Common.{◌≡◌, ◌≢◌, ℕ, ◌+◌, ◌-◌, ◌<◌, ◌≤◌, Bool, true, false, cond, not, nat_eq, ◌&&◌, ◌||◌, IsTrue, List, [], ◌∷◌, ◌++◌, length, get_or}
use Rattle.std.proofs.Common.{refl, sym, ap, subst, ◌∙◌, true≢false, arith, ◌⊎◌, inl, inr, length-append}
use Rattle.std.proofs.Math.Bool.{and-true}
use Rattle.std.proofs.lemmas.Bool.Decides.{nat_tests}
use Rattle.std.proofs.lemmas.Nat.Bits.{bit_at-pow_same, bit_at-pow_other}
use Rattle.plai_base.specs.Mask.{has_slot, mask_of}
use Rattle.plai_bdd.specs.Assignment.{Assignment}
use Rattle.plai_bdd.specs.Slots.{all_hold, conjunction}
use Rattle.plai_bdd.specs.declared.node.Node.{Node}
use Rattle.plai_bdd.specs.declared.node.Node.TheVariants.{Leaf, Branch}
use Rattle.plai_bdd.specs.Nodes.{place_of, put, IsFunction}
use Rattle.plai_bdd.specs.Chain.{IsChain}
use Rattle.plai_bdd.specs.Table.{no_node, HasChildrenBelow, IsTable, Adds, joined_place, joined_table}
use Rattle.plai_bdd.proofs.Lists.{puts}
use Rattle.plai_bdd.proofs.Tables.{IsTable-empty}
use Rattle.plai_bdd.proofs.Adding.{Adds-as, Adds-leaf, Adds-there, Adds-join}
use Rattle.plai_bdd.proofs.Canonical.{finished}
use Rattle.plai_bdd.proofs.Functions.{IsFunction-as}
use Rattle.plai_bdd.proofs.Shown.{no_slots}
use Rattle.plai_bdd.proofs.Slots.{all_hold-more, all_hold-none, all_hold-Decides, same_truth}

-- the leaf false, built into nothing
bottom : (least : ℕ) → Adds [] 0 (Leaf false ∷ []) least (λ _. false)
bottom least = Adds-leaf false [] least IsTable-empty

pub chain_start : (all : ℕ) → IsChain all 64 (Leaf false ∷ Leaf true ∷ [])
chain_start all = record {
  rest = λ _. true;
  leaves = omega arith;
  inner = Adds-leaf true (Leaf false ∷ []) 64 (bottom 64).table;
  outer = λ slot from below has. absurd (omega arith);
  left = λ at. and-true (conjunction all at);
}

-- a node above the last one is new
pushed : (t : List Node) (slot i j : ℕ) → IsTable t → length t ≡ j + 1 → i ≢ j
    → (joined_place slot i j t ≡ length t) × (joined_table slot i j t ≡ t ++ Branch slot i j ∷ [])
pushed t slot i j ok e apart = new (puts node t).either
  where
    node : Node
    node = Branch slot i j

    two : nat_eq i j ≡ false
    two = grind (arith, nat_tests)

    found : put node t ≡ t → ⊥
    found stays =
        let inside : place_of node t < length t = subst (λ l. place_of node t < length l) stays (puts node t).inside in
        let here : get_or t (place_of node t) no_node ≡ node = subst (λ l. get_or l (place_of node t) no_node ≡ node) stays (puts node t).here in
        let within : HasChildrenBelow (place_of node t) node = subst (HasChildrenBelow (place_of node t)) here (ok.below (place_of node t) inside) in
        omega (arith, within.1)

    new : (put node t ≡ t) ⊎ ((put node t ≡ t ++ node ∷ []) × (place_of node t ≡ length t) × ((m : ℕ) → m < length t → get_or t m no_node ≢ node))
        → (joined_place slot i j t ≡ length t) × (joined_table slot i j t ≡ t ++ node ∷ [])
    new (inl stays) = absurd (found stays)
    new (inr p) = (ap (λ b. cond b i (place_of node t)) two ∙ p.1, ap (λ b. cond b t (put node t)) two ∙ p.0)

module _ (k : ℕ) (t : List Node) (rest : Assignment → Bool) (below : k < 64) (leaves : 2 ≤ length t)
    (high : Adds (Leaf false ∷ []) (length t - 1) t (k + 1) rest) where
  -- false where the slot is false, and else the rest
  abbrev link : Assignment → Bool
  link at = cond (at k) (rest at) false

  abbrev longer : List Node
  longer = t ++ Branch k 0 (length t - 1) ∷ []

  linked : {start : List Node} → Adds start 0 (Leaf false ∷ []) (k + 1) (λ _. false) → Adds start (length longer - 1) longer k link
  linked {start} low =
      let joined : Adds start (joined_place k 0 (length t - 1) t) (joined_table k 0 (length t - 1) t) k link = Adds-join low high below (λ at. refl) in
      let e = pushed t k 0 (length t - 1) high.table (omega arith) (λ same. omega arith) in
      let last : length t ≡ length longer - 1 = omega (arith, length-append t (Branch k 0 (length t - 1) ∷ [])) in
      subst (λ p. Adds start p longer k link) last
      (subst (λ u. Adds start (length t) u k link) e.1 (subst (λ p. Adds start p (joined_table k 0 (length t - 1) t) k link) e.0 joined))

and_link : (a b r : Bool) → (a && cond b r false) ≡ ((a && b) && r)
and_link true true r = refl
and_link true false r = refl
and_link false b r = refl

module _ (all k m : ℕ) (t : List Node) (next : m ≡ k + 1) (old : IsChain all m t) where
  from_next : IsChain all (k + 1) t
  from_next = subst (λ n. IsChain all n t) next old

  held : (b : Bool) → has_slot all k ≡ b → (at : Assignment) → ((all_hold all k at && (not b || at k)) && from_next.rest at) ≡ conjunction all at
  held b e at =
      ap (λ c. (all_hold all k at && (not c || at k)) && from_next.rest at) (sym e)
      ∙ ap (λ c. c && from_next.rest at) (sym (all_hold-more all k at))
      ∙ from_next.left at

  -- a slot that is in the set, and one that isn't
  pub chain_with : k < 64 → has_slot all k ≡ true → IsChain all k (t ++ Branch k 0 (length t - 1) ∷ [])
  chain_with below has = record {
    rest = link k t from_next.rest below from_next.leaves from_next.inner;
    leaves = omega (arith, from_next.leaves, length-append t (Branch k 0 (length t - 1) ∷ []));
    inner = linked k t from_next.rest below from_next.leaves from_next.inner (Adds-there (bottom (k + 1)).table (bottom (k + 1)).known);
    outer = λ slot from within some. linked k t from_next.rest below from_next.leaves from_next.inner (bottom (k + 1));
    left = λ at. and_link (all_hold all k at) (at k) (from_next.rest at) ∙ held true has at;
  }

  pub chain_without : has_slot all k ≡ false → IsChain all k t
  chain_without none = record {
    rest = from_next.rest;
    leaves = from_next.leaves;
    inner = Adds-as (omega arith) (λ at. refl) from_next.inner;
    outer = λ slot from within some. Adds-as (omega arith) (λ at. refl) (from_next.outer slot (above slot from some) within some);
    left = λ at. ap (λ c. c && from_next.rest at) (sym (and-true (all_hold all k at))) ∙ held false none at;
  }
    where
      above : (slot : ℕ) → k ≤ slot → IsTrue (has_slot all slot) → k + 1 ≤ slot
      above slot from some = by (first_or slot k from)
        where
          first_or : (slot k : ℕ) → k ≤ slot → (slot ≡ k) ⊎ (k + 1 ≤ slot)
          first_or slot k from = grind arith

          by : (slot ≡ k) ⊎ (k + 1 ≤ slot) → k + 1 ≤ slot
          by (inl same) = absurd (true≢false (sym some ∙ ap (has_slot all) same ∙ none))
          by (inr more) = more

-- the whole set, which has some slot
pub chain_is : (all k : ℕ) (t : List Node) → k ≡ 0 → (slot : ℕ) → slot < 64 → IsTrue (has_slot all slot) → IsChain all k t → IsFunction t (conjunction all)
chain_is all k t e slot within some chain =
    let whole : IsChain all 0 t = subst (λ n. IsChain all n t) e chain in
    let all_of : (at : Assignment) → whole.rest at ≡ conjunction all at = λ at. ap (λ c. c && whole.rest at) (sym (all_hold-none all at)) ∙ whole.left at in
    finished t (length t - 1) (conjunction all) (Adds-as (omega arith) all_of (whole.outer slot (omega arith) within some))

-- the set of one slot
pub single_is : (all slot : ℕ) (t : List Node) → slot < 64 → all ≡ mask_of slot → IsFunction t (λ at. at slot) → IsFunction t (conjunction all)
single_is all slot t lt e f = IsFunction-as (λ at. same_truth (at slot) (conjunction all at) (up at) (down at)) f
  where
    same_or_not : (a b : ℕ) → (a ≡ b) ⊎ (a ≢ b)
    same_or_not a b = grind arith

    only : (k : ℕ) → has_slot (mask_of slot) k ≡ true → (k ≡ slot) ⊎ (k ≢ slot) → k ≡ slot
    only k has (inl same) = same
    only k has (inr apart) = absurd (true≢false (sym has ∙ ap (λ b. nat_eq b 1) (bit_at-pow_other slot k apart)))

    up : (at : Assignment) → at slot ≡ true → conjunction all at ≡ true
    up at h = (all_hold-Decides all 64 at).1 (λ k within has. ap at (only k (sym (ap (λ m. has_slot m k) e) ∙ has) (same_or_not k slot)) ∙ h)

    down : (at : Assignment) → conjunction all at ≡ true → at slot ≡ true
    down at h = (all_hold-Decides all 64 at).0 h slot lt (ap (λ m. has_slot m slot) e ∙ ap (λ b. nat_eq b 1) (bit_at-pow_same slot))

-- the empty set
pub empty_is : (all : ℕ) (t : List Node) → all ≡ 0 → IsFunction t (λ _. true) → IsFunction t (conjunction all)
empty_is all t e f = IsFunction-as (λ at. sym
    ((all_hold-Decides all 64 at).1 (λ k within has. absurd (true≢false (sym has ∙ ap (λ n. has_slot n k) e ∙ no_slots k))))) f
