-- Properties, one at a time.
use Rattle.std.proofs.Common.{◌≡◌, ℕ, zero, suc, ◌+◌, ◌-◌, ◌<◌, ◌≤◌, List, [], ◌∷◌, ◌++◌, length, drop, get_or, refl, sym, ap, ◌∙◌, arith}
use Rattle.std.specs.List.{range_with_len}
use Rattle.std.proofs.lemmas.List.{drop_more}
use Rattle.plai_terms.specs.declared.prop.Prop.{Prop}
use Rattle.plai_terms.specs.declared.prop.Prop.TheVariants as property
use Rattle.plai_share_laws.specs.Shares.{Shares}
use Rattle.plai_share_laws.specs.Properties.{with_property, with_all}

range_push : (a n : ℕ) → range_with_len a (suc n) ≡ range_with_len a n ++ ((a + n) ∷ [])
range_push a zero = λ i. (let e : a ≡ a + 0 = omega arith in e) i ∷ []
range_push a (suc n) = ap (λ xs. a ∷ xs) (range_push (a + 1) n ∙ ap (λ k. range_with_len (a + 1) n ++ (k ∷ []))
    (let e : a + 1 + n ≡ a + suc n = omega arith in e))

pub range_more : (bits : ℕ) (groups next : List ℕ) (mask : ℕ) → 1 ≤ bits → groups ≡ range_with_len 1 (bits - 1) → mask ≡ bits → next ≡ groups ++ (mask ∷ [])
    → next ≡ range_with_len 1 (bits + 1 - 1)
range_more bits groups next mask l e m n =
    n ∙ ap (λ xs. xs ++ (mask ∷ [])) e ∙ ap (λ k. range_with_len 1 (bits - 1) ++ (k ∷ [])) (m ∙ (let f : bits ≡ 1 + (bits - 1) = omega arith in f))
    ∙ sym (range_push 1 (bits - 1)) ∙ ap (range_with_len 1) (let f : suc (bits - 1) ≡ bits + 1 - 1 = omega arith in f)

pub kept_slots : (p : Prop) (v : Shares) → (with_property p v).slots ≡ v.slots
kept_slots (property.Ground k) v = refl
kept_slots (property.Var k) v = refl
kept_slots (property.Nonvar k) v = refl
kept_slots (property.Int k) v = refl
kept_slots (property.Indep k l) v = refl

pub property_more : (pre : List Prop) (i : ℕ) (p : Prop) (v w whole : Shares) → i < length pre → p ≡ get_or pre i p → w ≡ with_property p v
    → with_all (drop i pre) v ≡ whole → with_all (drop (i + 1) pre) w ≡ whole
property_more pre i p v w whole l at e h =
    ap (with_all (drop (i + 1) pre)) (e ∙ ap (λ q. with_property q v) at) ∙ ap (λ qs. with_all qs v) (sym (drop_more pre i p l)) ∙ h

past : (pre : List Prop) (i : ℕ) → length pre ≤ i → drop i pre ≡ []
past [] zero l = refl
past [] (suc i) l = refl
past (p ∷ ps) zero l = absurd (omega arith)
past (p ∷ ps) (suc i) l = past ps i (omega arith)

pub property_end : (pre : List Prop) (i : ℕ) (v whole : Shares) → length pre ≤ i → with_all (drop i pre) v ≡ whole → v ≡ whole
property_end pre i v whole l h = ap (λ qs. with_all qs v) (sym (past pre i l)) ∙ h
