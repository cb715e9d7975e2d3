-- Slots may be quantified in any order: a slot of the set goes first, and then the others.
use Rattle.std.proofs.Common.{◌≡◌, ◌≢◌, ℕ, ◌<◌, Bool, true, false, cond, ◌||◌, ◌⊎◌, inl, inr, IsTrue, sym, ap, subst, ◌∙◌, arith}
use Rattle.std.proofs.lemmas.Bool.{or_cases, ne_eqb}
use Rattle.plai_base.specs.Mask.{has_slot}
use Rattle.plai_bdd.specs.Assignment.{Assignment, with_slot}
use Rattle.plai_bdd.specs.Slots.{some_slot, quantified, DifferWithin, Somewhere}
use Rattle.plai_bdd.proofs.Slots.{some_hold-Decides, or_right, same_truth}
use Rattle.plai_bdd.proofs.Differing.{put_back}
use Rattle.plai_bdd.proofs.Trees.{with_slot_same}

pub same_or_not : (a b : ℕ) → (a ≡ b) ⊎ (a ≢ b)
same_or_not a b = grind arith

module _ (mask rest slot : ℕ) (lt : slot < 64) (has : has_slot mask slot ≡ true)
    (others : (k : ℕ) → k < 64 → k ≢ slot → has_slot rest k ≡ has_slot mask k) (f g : Assignment → Bool)
    (goes : (at : Assignment) → g at ≡ some_slot mask slot f at) where
  either : (at : Assignment) → g at ≡ (f (with_slot at slot false) || f (with_slot at slot true))
  either at = goes at ∙ ap (λ c. cond c (f (with_slot at slot false) || f (with_slot at slot true)) (f at)) has

  replaced_other : (other : Assignment) (b : Bool) (k : ℕ) → k ≢ slot → with_slot other slot b k ≡ other k
  replaced_other other b k apart = ap (λ c. cond c b (other k)) (ne_eqb k slot apart)

  -- what differs within the rest, with any answer of the slot, differs within the set
  wider : (other at : Assignment) (b : Bool) → DifferWithin rest other at → DifferWithin mask (with_slot other slot b) at
  wider other at b d k = by (d k) (same_or_not k slot)
    where
      by : (other k ≡ at k) ⊎ ((k < 64) × IsTrue (has_slot rest k)) → (k ≡ slot) ⊎ (k ≢ slot)
          → (with_slot other slot b k ≡ at k) ⊎ ((k < 64) × IsTrue (has_slot mask k))
      by _ (inl same) = inr (subst (λ n. n < 64) (sym same) lt, ap (has_slot mask) same ∙ has)
      by (inl e) (inr apart) = inl (replaced_other other b k apart ∙ e)
      by (inr p) (inr apart) = inr (p.0, sym (others k p.0 apart) ∙ p.1)

  -- what differs within the set, with the answer that the slot had, differs within the rest
  narrower : (other at : Assignment) → DifferWithin mask other at → DifferWithin rest (with_slot other slot (at slot)) at
  narrower other at d k = by (d k) (same_or_not k slot)
    where
      by : (other k ≡ at k) ⊎ ((k < 64) × IsTrue (has_slot mask k)) → (k ≡ slot) ⊎ (k ≢ slot)
          → (with_slot other slot (at slot) k ≡ at k) ⊎ ((k < 64) × IsTrue (has_slot rest k))
      by _ (inl same) = inl (let P : ℕ → Type 0 = λ m. with_slot other slot (at slot) m ≡ at m in subst P (sym same) (with_slot_same other slot (at slot)))
      by (inl e) (inr apart) = inl (replaced_other other (at slot) k apart ∙ e)
      by (inr p) (inr apart) = inr (p.0, others k p.0 apart ∙ p.1)

  down : (at : Assignment) → Somewhere rest g at → Somewhere mask f at
  down at s = by (or_cases (f (with_slot s.0 slot false)) (f (with_slot s.0 slot true)) (sym (either s.0) ∙ s.1.1))
    where
      by : (f (with_slot s.0 slot false) ≡ true) ⊎ (f (with_slot s.0 slot true) ≡ true) → Somewhere mask f at
      by (inl h) = (with_slot s.0 slot false, (wider s.0 at false s.1.0, h))
      by (inr h) = (with_slot s.0 slot true, (wider s.0 at true s.1.0, h))

  up : (at : Assignment) → Somewhere mask f at → Somewhere rest g at
  up at s = (here, (narrower s.0 at s.1.0, either here ∙ put (s.0 slot) (ap f back ∙ s.1.1)))
    where
      here : Assignment
      here = with_slot s.0 slot (at slot)

      back : with_slot here slot (s.0 slot) ≡ s.0
      back = λ i k. put_back s.0 slot (at slot) k i

      put : (v : Bool) → IsTrue (f (with_slot here slot v)) → (f (with_slot here slot false) || f (with_slot here slot true)) ≡ true
      put true h = or_right (f (with_slot here slot false)) _ h
      put false h = ap (λ c. c || f (with_slot here slot true)) h

  pub goes_first : (at : Assignment) → quantified rest g at ≡ quantified mask f at
  goes_first at =
      let r = some_hold-Decides rest 64 g at in
      let m = some_hold-Decides mask 64 f at in
      same_truth _ _ (λ h. m.1 (down at (r.0 h))) (λ h. r.1 (up at (m.0 h)))
