-- Terms and their slots, assignment by assignment.
use Rattle.std.proofs.Common.{◌≡◌, ℕ, zero, suc, ◌+◌, ◌<◌, ◌≤◌, Bool, true, false, true≢false, nat_lt, ◌&&◌, bit_or, IsTrue, List, [], ◌∷◌, ◌++◌, length}
use Rattle.std.proofs.Common.{get_or, ◌⊎◌, inl, inr, refl, sym, ap, subst, ◌∙◌, arith, rules}
use Rattle.std.specs.Bool.{beq}
use Rattle.std.proofs.Math.ListN.{get_or-append}
use Rattle.std.proofs.Math.Seq.{get_or-append_seam}
use Rattle.std.proofs.lemmas.List.{length-append}
use Rattle.std.proofs.lemmas.Bool.{ltb-true, and_parts}
use Rattle.plai_base.specs.Mask.{has_slot, mask_of}
use Rattle.plai_terms.specs.declared.term.Term.{Term, Var, the_lemmas}
use Rattle.plai_terms.specs.Term.{has_variables_below}
use Rattle.plai_domain.specs.Instances.{all_below}
use Rattle.plai_bdd.specs.Assignment.{Assignment}
use Rattle.plai_bdd.specs.Slots.{conjunction}
use Rattle.plai_pos_laws.specs.Assignments.{agree, holds}
use Rattle.plai_pos_laws.proofs.Holds.{holds-Var}
use Rattle.plai_pos.specs.TermSlots.{IsBelow, AreSlotsOf}
use Rattle.plai_pos.proofs.Masks.{no_slots, slot_or, conjunction-insert, conjunction-none}

-- ---- variables within their limit

below_var : (limit v : ℕ) → has_variables_below limit (Var v) ≡ nat_lt v limit
below_var limit v = search (rules, the_lemmas)

pub var_below : (limit v : ℕ) (t : Term) → t ≡ Var v → has_variables_below limit t ≡ true → v < limit
var_below limit v t e h = ltb-true v limit (sym (ap (has_variables_below limit) e ∙ below_var limit v) ∙ h)

pub below_at : (limit : ℕ) (args : List Term) (j : ℕ) → all_below limit args ≡ true → j < length args → has_variables_below limit (get_or args j (Var 0)) ≡ true
below_at limit [] j e l = absurd (omega (arith, l))
below_at limit (t ∷ ts) zero e l = (and_parts (has_variables_below limit t) (all_below limit ts) e).0
below_at limit (t ∷ ts) (suc j) e l = below_at limit ts j (and_parts (has_variables_below limit t) (all_below limit ts) e).1 (omega (arith, l))

pub get_or_same : {X : Type 0} (args : List X) (j : ℕ) (d e : X) → j < length args → get_or args j d ≡ get_or args j e
get_or_same [] j d e l = absurd (omega (arith, l))
get_or_same (t ∷ ts) zero d e l = refl
get_or_same (t ∷ ts) (suc j) d e l = get_or_same ts j d e (omega (arith, l))

get_or_past : (xs : List ℕ) (j d : ℕ) → length xs ≤ j → get_or xs j d ≡ d
get_or_past [] j d l = refl
get_or_past (x ∷ xs) zero d l = absurd (omega (arith, l))
get_or_past (x ∷ xs) (suc j) d l = get_or_past xs j d (omega (arith, l))

pub term_at : (args : List Term) (j : ℕ) (t : Term) → t ≡ get_or args j t → j < length args → t ≡ get_or args j (Var 0)
term_at args j t e l = e ∙ get_or_same args j t (Var 0) l

pub term_below : (limit : ℕ) (args : List Term) (j : ℕ) (t : Term) → all_below limit args ≡ true → t ≡ get_or args j t → j < length args
    → has_variables_below limit t ≡ true
term_below limit args j t h e l = ap (has_variables_below limit) (term_at args j t e l) ∙ below_at limit args j h l

-- ---- the slots of a term

pub var_added : (slots result v u : ℕ) (t : Term) → t ≡ Var u → has_variables_below v t ≡ true → v ≤ 64 → result ≡ bit_or slots (mask_of u)
    → (at : Assignment) → conjunction result at ≡ (conjunction slots at && holds at t)
var_added slots result v u t e h room is at =
    let less : u < 64 = omega (arith, var_below v u t e h, room) in
    ap (λ m. conjunction m at) is ∙ conjunction-insert slots u at less
    ∙ ap (λ b. conjunction slots at && b) (sym (ap (holds at) e ∙ holds-Var at u))

pub var_within : (slots result v u : ℕ) (t : Term) → t ≡ Var u → has_variables_below v t ≡ true → result ≡ bit_or slots (mask_of u) → IsBelow v slots
    → IsBelow v result
var_within slots result v u t e h is below slot has = by (slot_or slots u slot (subst (λ m. IsTrue (has_slot m slot)) is has))
  where
    by : IsTrue (has_slot slots slot) ⊎ (slot ≡ u) → slot < v
    by (inl old) = below slot old
    by (inr same) = omega (arith, same, var_below v u t e h)

pub none_below : (v m : ℕ) → m ≡ 0 → IsBelow v m
none_below v m e slot h = absurd (true≢false (sym h ∙ ap (λ k. has_slot k slot) e ∙ no_slots slot))

pub alone : (m : ℕ) (result : ℕ) (t : Term) → m ≡ 0 → ((at : Assignment) → conjunction result at ≡ (conjunction m at && holds at t))
    → (at : Assignment) → conjunction result at ≡ holds at t
alone m result t e h at = h at ∙ ap (λ b. b && holds at t) (ap (λ k. conjunction k at) e ∙ conjunction-none at)

-- ---- equal truths

pub beq_same : (a b : Bool) → beq a b ≡ true → a ≡ b
beq_same true true e = refl
beq_same true false e = sym e
beq_same false true e = e
beq_same false false e = refl

pub same_beq : (a b : Bool) → a ≡ b → beq a b ≡ true
same_beq true b e = ap (beq true) (sym e)
same_beq false b e = ap (beq false) (sym e)

pub beq_agree : (a b : Bool) → beq a b ≡ agree a b
beq_agree true true = refl
beq_agree true false = refl
beq_agree false true = refl
beq_agree false false = refl

pub last_or : (j i : ℕ) → j < i + 1 → (j < i) ⊎ (j ≡ i)
last_or j i l = grind arith

-- ---- sets of slots

pub none_slots : (v : ℕ) (terms : List Term) (slots : List ℕ) → slots ≡ [] → AreSlotsOf v 0 terms slots
none_slots v terms slots e = record {
  size = ap length e;
  below = λ j. none_below v _ (ap (λ xs. get_or xs j 0) e);
  truths = λ j l. absurd (omega (arith, l));
}

pub slots_more : (v i : ℕ) (terms : List Term) (t : Term) (slots new : List ℕ) (set : ℕ) → t ≡ get_or terms i t → i < length terms → IsBelow v set
    → ((at : Assignment) → conjunction set at ≡ holds at t) → new ≡ slots ++ set ∷ [] → AreSlotsOf v i terms slots → AreSlotsOf v (i + 1) terms new
slots_more v i terms t slots new set at_i within below is e h = record {
  size = ap length e ∙ length-append {A = ℕ} slots (set ∷ []) ∙ (let q = h.size in omega (arith, q));
  below = λ j. subst (λ xs. IsBelow v (get_or xs j 0)) (sym e) (low j (before_or j i));
  truths = λ j l at. ap (λ xs. conjunction (get_or xs j 0) at) e ∙ by j at (last_or j i l);
}
  where
    before_or : (j i : ℕ) → (j < i) ⊎ ((j ≡ i) ⊎ (i < j))
    before_or j i = grind arith

    seam : (j : ℕ) → j ≡ i → get_or (slots ++ set ∷ []) j 0 ≡ set
    seam j q = ap (λ k. get_or (slots ++ set ∷ []) k 0) (q ∙ sym h.size) ∙ get_or-append_seam slots set [] 0

    first : (j : ℕ) → j < i → get_or (slots ++ set ∷ []) j 0 ≡ get_or slots j 0
    first j l = let inside : j < length slots = omega (arith, l, h.size) in get_or-append slots (set ∷ []) 0 j inside

    low : (j : ℕ) → (j < i) ⊎ ((j ≡ i) ⊎ (i < j)) → IsBelow v (get_or (slots ++ set ∷ []) j 0)
    low j (inl l) = subst (IsBelow v) (sym (first j l)) (h.below j)
    low j (inr (inl q)) = subst (IsBelow v) (sym (seam j q)) below
    low j (inr (inr m)) = none_below v _ (get_or_past (slots ++ set ∷ []) j 0 (omega (arith, m, length-append {A = ℕ} slots (set ∷ []), h.size)))

    by : (j : ℕ) (at : Assignment) → (j < i) ⊎ (j ≡ i) → conjunction (get_or (slots ++ set ∷ []) j 0) at ≡ holds at (get_or terms j (Var 0))
    by j at (inl l) = ap (λ m. conjunction m at) (first j l) ∙ h.truths j l at
    by j at (inr q) = ap (λ m. conjunction m at) (seam j q) ∙ is at ∙ ap (holds at) (term_at terms i t at_i within)
        ∙ sym (ap (λ k. holds at (get_or terms k (Var 0))) q)

-- what is read of a list of sets
pub set_at : (seen sets : List ℕ) (j set : ℕ) (at : Assignment) → seen ≡ sets → set ≡ get_or seen j set → j < length sets
    → conjunction set at ≡ conjunction (get_or sets j 0) at
set_at seen sets j set at e is l = ap (λ m. conjunction m at) (is ∙ ap (λ xs. get_or xs j set) e ∙ get_or_same sets j set 0 l)
