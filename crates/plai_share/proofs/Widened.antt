-- Sets of groups by their parts, and new slots one at a time.
use Rattle.std.proofs.Common.{◌≡◌, ℕ, zero, suc, ◌+◌, ◌-◌, ◌≤◌, List, ◌∷◌, [], ◌++◌, bit_or, refl, sym, ap, ◌∙◌, arith}
use Rattle.plai_base.specs.Mask.{mask_of}
use Rattle.plai_share_laws.specs.Shares.{Shares, widen, widen_by}

pub built : (n m : ℕ) (gs hs : List ℕ) (f g : ℕ) → n ≡ m → gs ≡ hs → f ≡ g
    → ◌≡◌ {A = Shares} (record { slots = n; groups = gs; free = f }) (record { slots = m; groups = hs; free = g })
built n m gs hs f g a b c = cc

widen_last : (n : ℕ) (v : Shares) → widen_by (suc n) v ≡ widen (widen_by n v)
widen_last zero v = refl
widen_last (suc n) v = widen_last n (widen v)

pub wide_slots : (n : ℕ) (v : Shares) → (widen_by n v).slots ≡ v.slots + n
wide_slots zero v = let e : v.slots ≡ v.slots + 0 = omega arith in e
wide_slots (suc n) v = wide_slots n (widen v) ∙ (let e : suc v.slots + n ≡ v.slots + suc n = omega arith in e)

pub wide_none : (first : ℕ) (v : Shares) → v ≡ widen_by (first - first) v
wide_none first v = ap (λ k. widen_by k v) (let e : 0 ≡ first - first = omega arith in e)

pub wide_more : (first slot : ℕ) (gs next : List ℕ) (f free : ℕ) (v : Shares) → first ≤ slot
    → ◌≡◌ {A = Shares} (record { slots = slot; groups = gs; free = f }) (widen_by (slot - first) v)
    → next ≡ gs ++ (mask_of slot ∷ []) → free ≡ bit_or f (mask_of slot)
    → ◌≡◌ {A = Shares} (record { slots = slot + 1; groups = next; free = free }) (widen_by (slot + 1 - first) v)
wide_more first slot gs next f free v l e a b =
    built (slot + 1) (suc slot) next (gs ++ (mask_of slot ∷ [])) free (bit_or f (mask_of slot)) (let h : slot + 1 ≡ suc slot = omega arith in h) a b
    ∙ ap widen e ∙ sym (widen_last (slot - first) v) ∙ ap (λ k. widen_by k v) (let h : suc (slot - first) ≡ slot + 1 - first = omega arith in h)
