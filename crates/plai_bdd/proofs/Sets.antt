-- The slots that a list of nodes branches on, as a set; a list that is true at all assignments.
use Rattle.std.proofs.Common.{◌≡◌, ◌≢◌, ℕ, ◌+◌, ◌^◌, ◌<◌, ◌≤◌, Bool, true, false, ◌||◌, ◌↔◌, IsTrue, nat_eq, bit_or, List, [], ◌∷◌, length, get_or, take}
use Rattle.std.proofs.Common.{refl, sym, ap, subst, ◌∙◌, ◌⊎◌, inl, inr, arith}
use Rattle.std.specs.List.{list_any}
use Rattle.std.specs.Int.{bit_at}
use Rattle.std.proofs.Math.Bool.{or-true}
use Rattle.std.proofs.lemmas.Bool.{eq-eqb, ne_eqb}
use Rattle.std.proofs.lemmas.List.{take_all}
use Rattle.std.proofs.lemmas.List.Folds.{list_any_more}
use Rattle.std.proofs.lemmas.Nat.Bits.{bit_at-zero, bit_at_or, bit_at-pow_same, bit_at-pow_other, bit_at-lt}
use Rattle.plai_base.specs.Mask.{has_slot, mask_of}
use Rattle.plai_bdd.specs.declared.node.Node.{Node}
use Rattle.plai_bdd.specs.declared.node.Node.TheVariants.{Leaf}
use Rattle.plai_bdd.specs.Assignment.{Assignment}
use Rattle.plai_bdd.specs.Nodes.{holds, IsCanonical}
use Rattle.plai_bdd.specs.Table.{slot_of}
use Rattle.plai_bdd.proofs.Canonical.{same_nodes}
use Rattle.plai_bdd.proofs.Functions.{constant_is}

same_or_not : (a b : ℕ) → (a ≡ b) ⊎ (a ≢ b)
same_or_not a b = grind arith

or_none : (b : Bool) → (b || false) ≡ b
or_none true = refl
or_none false = refl

-- a set with one slot more
pub has_slot-insert : (mask slot k : ℕ) → has_slot (bit_or mask (mask_of slot)) k ≡ (has_slot mask k || nat_eq slot k)
has_slot-insert mask slot k = by (same_or_not k slot)
  where
    by : (k ≡ slot) ⊎ (k ≢ slot) → has_slot (bit_or mask (mask_of slot)) k ≡ (has_slot mask k || nat_eq slot k)
    by (inl same) =
        eq-eqb _ 1 (omega (arith, bit_at_or mask (2 ^ slot) k, ap (bit_at (2 ^ slot)) same ∙ bit_at-pow_same slot, bit_at-lt mask k))
        ∙ sym (ap (λ b. has_slot mask k || b) (eq-eqb slot k (sym same)) ∙ or-true (has_slot mask k))
    by (inr other) =
        ap (λ b. nat_eq b 1) (omega (arith, bit_at_or mask (2 ^ slot) k, bit_at-pow_other slot k other))
        ∙ sym (ap (λ b. has_slot mask k || b) (ne_eqb slot k (λ e. other (sym e))) ∙ or_none (has_slot mask k))

-- the slots of nodes, one node more
pub record AreBranches (slots : ℕ) (nodes : List Node) : Type 0 where
  pub branched : (slot : ℕ) → slot < 64 → has_slot slots slot ≡ list_any (λ node. nat_eq (slot_of node) slot) nodes

pub branches_none : (slots : ℕ) (nodes : List Node) → slots ≡ 0 → nodes ≡ [] → AreBranches slots nodes
branches_none slots nodes e f = record {
  branched = λ slot lt. ap (λ m. has_slot m slot) e ∙ none slot ∙ sym (ap (list_any (λ node. nat_eq (slot_of node) slot)) f);
}
  where
    none : (slot : ℕ) → has_slot 0 slot ≡ false
    none slot = ap (λ b. nat_eq b 1) (bit_at-zero slot)

pub branches_more : (slots more : ℕ) (nodes : List Node) (i : ℕ) (node : Node) → i < length nodes → node ≡ get_or nodes i node
    → ((slot : ℕ) → slot < 64 → has_slot more slot ≡ (has_slot slots slot || nat_eq (slot_of node) slot))
    → AreBranches slots (take i nodes) → AreBranches more (take (i + 1) nodes)
branches_more slots more nodes i node lt e step old = record {
  branched = λ slot less.
      step slot less
      ∙ (λ x. old.branched slot less x || nat_eq (slot_of (e x)) slot)
      ∙ sym (list_any_more (λ n. nat_eq (slot_of n) slot) nodes i node lt);
}

pub branches_all : (slots : ℕ) (nodes : List Node) (i : ℕ) → length nodes ≤ i → AreBranches slots (take i nodes) → AreBranches slots nodes
branches_all slots nodes i le old = subst (AreBranches slots) (take_all i nodes le) old

-- the leaf true alone
pub always_decides : (self : List Node) (r : Bool) → IsCanonical self → IsTrue r ↔ (self ≡ Leaf true ∷ [])
    → IsTrue r ↔ ((at : Assignment) → IsTrue (holds self at))
always_decides self r c d =
    let leaf = constant_is true in (
      λ yes at. ap (λ l. holds l at) (d.0 yes) ∙ leaf.answers at,
      λ all. d.1 (same_nodes self (Leaf true ∷ []) c leaf.canonical (λ at. all at ∙ sym (leaf.answers at))),
    )

-- the slot of one node more
pub branch_added : (slots result slot : ℕ) (node : Node) (k : ℕ) → slot ≡ slot_of node → result ≡ bit_or slots (mask_of slot)
    → has_slot result k ≡ (has_slot slots k || nat_eq (slot_of node) k)
branch_added slots result slot node k e f =
    ap (λ m. has_slot m k) f ∙ has_slot-insert slots slot k ∙ ap (λ s. has_slot slots k || nat_eq s k) e
