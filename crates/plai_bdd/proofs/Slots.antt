-- What conjunction and quantification over a set of slots say.
use Rattle.std.proofs.Common.{◌≡◌, ℕ, zero, suc, ◌+◌, ◌<◌, Bool, true, false, cond, not, ◌&&◌, ◌||◌, ◌↔◌, IsTrue, List, refl, sym, ap, ◌∙◌, true≢false, arith}
use Rattle.std.proofs.Common.{◌⊎◌, inl, inr, add-one}
use Rattle.std.proofs.lemmas.Bool.{and_parts, or_cases}
use Rattle.std.specs.Bool.{beq}
use Rattle.plai_base.specs.Mask.{has_slot}
use Rattle.plai_bdd.specs.Assignment.{Assignment, with_slot, IsFree}
use Rattle.plai_bdd.specs.Slots.{all_hold, some_hold, some_slot, conjunction, quantified, AllTrue, Somewhere}
use Rattle.plai_bdd.specs.declared.node.Node.{Node}
use Rattle.plai_bdd.specs.Nodes.{holds, IsCanonical, IsFunction}
use Rattle.plai_bdd.proofs.Differing.{DifferBelow, last_or, same_at, more_without, more_with, less_without, less_with, differ_with, differ_then, differ_back}
use Rattle.plai_bdd.proofs.Differing.{put_back}

-- the words of specs/Slots.antt, of the slots below a bound
abbrev SomewhereBelow : ℕ → ℕ → (Assignment → Bool) → Assignment → Type 0
SomewhereBelow mask bound f at = (other : Assignment) × (DifferBelow mask bound other at × IsTrue (f other))

pub all_hold-more : (mask n : ℕ) (at : Assignment) → all_hold mask (n + 1) at ≡ (all_hold mask n at && (not (has_slot mask n) || at n))
unfolding all_hold
all_hold-more mask n at = rw add-one refl

pub all_hold-none : (mask : ℕ) (at : Assignment) → all_hold mask 0 at ≡ true
unfolding all_hold
all_hold-none mask at = refl

some_hold-more : (mask n : ℕ) (f : Assignment → Bool) (at : Assignment) → some_hold mask (n + 1) f at ≡ some_hold mask n (some_slot mask n f) at
unfolding some_hold
some_hold-more mask n f at = rw add-one refl

some_hold-none : (mask : ℕ) (f : Assignment → Bool) (at : Assignment) → some_hold mask 0 f at ≡ f at
unfolding some_hold
some_hold-none mask f at = refl

has_of : (a b : Bool) → (not a || b) ≡ true → a ≡ true → b ≡ true
has_of true b h e = h
has_of false b h e = absurd (true≢false (sym e))

-- ALL: each slot of the set below the bound is true
pub all_hold-Decides : (mask n : ℕ) (at : Assignment) → IsTrue (all_hold mask n at) ↔ ((k : ℕ) → k < n → IsTrue (has_slot mask k) → IsTrue (at k))
unfolding all_hold
all_hold-Decides mask zero at = (λ _ k lt. absurd (omega arith), λ _. refl)
all_hold-Decides mask (suc n) at = down_up (all_hold-Decides mask n at)
  where
    down_up : IsTrue (all_hold mask n at) ↔ ((k : ℕ) → k < n → IsTrue (has_slot mask k) → IsTrue (at k))
        → IsTrue (all_hold mask n at && (not (has_slot mask n) || at n)) ↔ ((k : ℕ) → k < suc n → IsTrue (has_slot mask k) → IsTrue (at k))
    down_up d = (
      λ h k lt has. down (and_parts (all_hold mask n at) _ h) k has (last_or k n lt),
      λ all. (λ i. d.1 (λ k lt has. all k (omega arith) has) i && up all (has_slot mask n) refl i),
    )
      where
        down : (all_hold mask n at ≡ true) × ((not (has_slot mask n) || at n) ≡ true) → (k : ℕ) → IsTrue (has_slot mask k) → (k < n) ⊎ (k ≡ n) → IsTrue (at k)
        down p k has (inl lt) = d.0 p.0 k lt has
        down p k has (inr e) = ap at e ∙ has_of (has_slot mask n) (at n) p.1 (sym (ap (has_slot mask) e) ∙ has)

        up : ((k : ℕ) → k < suc n → IsTrue (has_slot mask k) → IsTrue (at k)) → (b : Bool) → has_slot mask n ≡ b → (not (has_slot mask n) || at n) ≡ true
        up all true e = ap (λ b. not b || at n) e ∙ all n (omega arith) e
        up all false e = ap (λ b. not b || at n) e

pub or_right : (a b : Bool) → b ≡ true → (a || b) ≡ true
or_right true b e = refl
or_right false b e = e

module _ (mask n : ℕ) (f : Assignment → Bool) (at : Assignment) where
  -- one slot's answers, where the slot is in the set and where it is not
  some_with : has_slot mask n ≡ true → (other : Assignment) → some_slot mask n f other ≡ (f (with_slot other n false) || f (with_slot other n true))
  some_with e other = ap (λ c. cond c (f (with_slot other n false) || f (with_slot other n true)) (f other)) e

  some_without : has_slot mask n ≡ false → (other : Assignment) → some_slot mask n f other ≡ f other
  some_without e other = ap (λ c. cond c (f (with_slot other n false) || f (with_slot other n true)) (f other)) e

  more : SomewhereBelow mask n (some_slot mask n f) at → SomewhereBelow mask (suc n) f at
  more s = by (has_slot mask n) refl
    where
      one : (v : Bool) → has_slot mask n ≡ true → IsTrue (f (with_slot s.0 n v)) → SomewhereBelow mask (suc n) f at
      one v e h = (with_slot s.0 n v, (more_with mask n s.0 at v e s.1.0, h))

      any : has_slot mask n ≡ true → (f (with_slot s.0 n false) ≡ true) ⊎ (f (with_slot s.0 n true) ≡ true) → SomewhereBelow mask (suc n) f at
      any e (inl h) = one false e h
      any e (inr h) = one true e h

      by : (b : Bool) → has_slot mask n ≡ b → SomewhereBelow mask (suc n) f at
      by true e = any e (or_cases _ _ (sym (some_with e s.0) ∙ s.1.1))
      by false e = (s.0, (more_without mask n s.0 at s.1.0, sym (some_without e s.0) ∙ s.1.1))

  less : SomewhereBelow mask (suc n) f at → SomewhereBelow mask n (some_slot mask n f) at
  less s = by (has_slot mask n) refl
    where
      at_one : Assignment
      at_one = with_slot s.0 n (at n)

      put : (v : Bool) → IsTrue (f (with_slot at_one n v)) → (f (with_slot at_one n false) || f (with_slot at_one n true)) ≡ true
      put true h = or_right (f (with_slot at_one n false)) _ h
      put false h = ap (λ c. c || f (with_slot at_one n true)) h

      by : (b : Bool) → has_slot mask n ≡ b → SomewhereBelow mask n (some_slot mask n f) at
      by true e =
          let back : with_slot at_one n (s.0 n) ≡ s.0 = (λ i k. put_back s.0 n (at n) k i) in
          (at_one, (less_with mask n s.0 at s.1.0, some_with e at_one ∙ put (s.0 n) (ap f back ∙ s.1.1)))
      by false e = (s.0, (less_without mask n s.0 at e s.1.0, some_without e s.0 ∙ s.1.1))

-- SOME: the function is true at an assignment that differs only within the set
pub some_hold-Decides : (mask n : ℕ) (f : Assignment → Bool) (at : Assignment) → IsTrue (some_hold mask n f at) ↔ SomewhereBelow mask n f at
unfolding some_hold
some_hold-Decides mask zero f at =
    (λ h. (at, (λ k. inl refl, h)), λ s. let e : s.0 ≡ at = (λ i k. same_at mask s.0 at s.1.0 k i) in ap f (sym e) ∙ s.1.1)
some_hold-Decides mask (suc n) f at =
    let d = some_hold-Decides mask n (some_slot mask n f) at in
    (λ h. more mask n f at (d.0 h), λ s. d.1 (less mask n f at s))

-- one slot less is left to quantify, and none
pub left_step : (mask n m : ℕ) (f rest new : Assignment → Bool) → m ≡ n + 1 → ((at : Assignment) → some_hold mask m rest at ≡ quantified mask f at)
    → ((at : Assignment) → new at ≡ some_slot mask n rest at) → (at : Assignment) → some_hold mask n new at ≡ quantified mask f at
left_step mask n m f rest new e old step at =
    ap (λ g. some_hold mask n g at) (λ i other. step other i)
    ∙ sym (some_hold-more mask n rest at)
    ∙ ap (λ k. some_hold mask k rest at) (sym e)
    ∙ old at

pub left_all : (mask n : ℕ) (f rest : Assignment → Bool) → n ≡ 0 → ((at : Assignment) → some_hold mask n rest at ≡ quantified mask f at)
    → (at : Assignment) → rest at ≡ quantified mask f at
left_all mask n f rest e left at = sym (some_hold-none mask rest at) ∙ ap (λ k. some_hold mask k rest at) (sym e) ∙ left at

-- what is left to quantify of a function, below a bound
pub record HasLeft (mask bound : ℕ) (self rest : List Node) : Type 0 where
  pub canonical : IsCanonical rest
  pub left : (at : Assignment) → some_hold mask bound (holds rest) at ≡ quantified mask (holds self) at

pub left_start : (mask : ℕ) (self rest : List Node) → rest ≡ self → IsCanonical rest → HasLeft mask 64 self rest
left_start mask self rest e c = record { canonical = c; left = λ at. ap (λ l. some_hold mask 64 (holds l) at) e }

pub left_kept : (mask n m : ℕ) (self rest new : List Node) → m ≡ n + 1 → HasLeft mask m self rest → IsFunction new (some_slot mask n (holds rest))
    → HasLeft mask n self new
left_kept mask n m self rest new e old step =
    record { canonical = step.canonical; left = left_step mask n m (holds self) (holds rest) (holds new) e old.left step.answers }

pub left_none : (mask n : ℕ) (self rest : List Node) → n ≡ 0 → HasLeft mask n self rest → IsFunction rest (quantified mask (holds self))
left_none mask n self rest e h = record { canonical = h.canonical; answers = left_all mask n (holds self) (holds rest) e h.left }

pub some_meaning : (mask : ℕ) (f : Assignment → Bool) (t : List Node) → IsFunction t (quantified mask f) → (at : Assignment)
    → IsTrue (holds t at) ↔ Somewhere mask f at
some_meaning mask f t h at =
    let d = some_hold-Decides mask 64 f at in
    (λ this. d.0 (sym (h.answers at) ∙ this), λ s. h.answers at ∙ d.1 s)

pub same_truth : (a b : Bool) → (a ≡ true → b ≡ true) → (b ≡ true → a ≡ true) → a ≡ b
same_truth true b f g = sym (f refl)
same_truth false true f g = g refl
same_truth false false f g = refl

-- what was quantified does not depend on the slots of the set
quantified-free : (mask slot : ℕ) → slot < 64 → has_slot mask slot ≡ true → (f : Assignment → Bool) → IsFree (quantified mask f) slot
quantified-free mask slot lt e f at b =
    let other = with_slot at slot b in
    let here = some_hold-Decides mask 64 f at in
    let there = some_hold-Decides mask 64 f other in
    let d = differ_with mask slot lt e at b in
    same_truth _ _
    (λ h. let s = there.0 h in here.1 (s.0, (differ_then mask 64 s.0 other at s.1.0 d, s.1.1)))
    (λ h. let s = here.0 h in there.1 (s.0, (differ_then mask 64 s.0 at other s.1.0 (differ_back mask 64 other at d), s.1.1)))

pub some_free : (mask : ℕ) (f : Assignment → Bool) (t : List Node) → IsFunction t (quantified mask f) → (slot : ℕ) → slot < 64 → IsTrue (has_slot mask slot)
    → IsFree (holds t) slot
some_free mask f t h slot lt e at b = h.answers (with_slot at slot b) ∙ quantified-free mask slot lt e f at b ∙ sym (h.answers at)

pub all_meaning : (mask : ℕ) (t : List Node) → IsFunction t (conjunction mask) → (at : Assignment) → IsTrue (holds t at) ↔ AllTrue mask at
all_meaning mask t h at =
    let d = all_hold-Decides mask 64 at in
    (λ this. d.0 (sym (h.answers at) ∙ this), λ all. h.answers at ∙ d.1 all)

beq-Decides : (a b : Bool) → IsTrue (beq a b) ↔ (IsTrue a ↔ IsTrue b)
beq-Decides true true = (λ _. (λ h. h, λ h. h), λ _. refl)
beq-Decides false false = (λ _. (λ h. h, λ h. h), λ _. refl)
beq-Decides true false = (λ h. absurd (true≢false (sym h)), λ d. d.0 refl)
beq-Decides false true = (λ h. absurd (true≢false (sym h)), λ d. d.1 refl)

pub iff_meaning : (slot mask : ℕ) (t : List Node) → IsFunction t (λ at. beq (at slot) (conjunction mask at)) → (at : Assignment)
    → IsTrue (holds t at) ↔ (IsTrue (at slot) ↔ AllTrue mask at)
iff_meaning slot mask t h at =
    let d = all_hold-Decides mask 64 at in
    let b = beq-Decides (at slot) (all_hold mask 64 at) in (
      λ this. let p = b.0 (sym (h.answers at) ∙ this) in (λ own. d.0 (p.0 own), λ all. p.1 (d.1 all)),
      λ p. h.answers at ∙ b.1 (λ own. d.1 (p.0 own), λ all. p.1 (d.0 all)),
    )
