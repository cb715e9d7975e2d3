-- Different predicates have different texts, and so have different names of rows of groundness.
use Rattle.std.proofs.Common.{◌≡◌, ℕ, ◌^◌, ◌<◌, true, List, [], ◌∷◌, ◌++◌, drop, refl, sym, ap, ◌∙◌, subst, arith, append_assoc, codes}
use Rattle.std.specs.Fmt.{decimal}
use Rattle.plai_terms.specs.Atom.{name_text}
use Rattle.plai_terms.specs.Pattern.{pattern_text, IsGroundness}
use Rattle.plai_terms.specs.declared.plain_row.PlainRow.{PlainRow}
use Rattle.plai_terms.specs.declared.pred_key.PredKey.{PredKey}
use Rattle.plai_terms.proofs.Reading.{stops, no_digit, decimals_apart}
use Rattle.plai_terms.proofs.AtomTexts.{names_apart}
use Rattle.plai_terms.proofs.PatternTexts.{patterns_differ}
use Rattle.plai_render.specs.Block.{pred_text}
use Rattle.plai_render.specs.Order.{HasGroundnessCall}

regroup : (m n a us : List ℕ) → ((((m ++ 58 ∷ []) ++ n) ++ 47 ∷ []) ++ a) ++ us ≡ m ++ 58 ∷ (n ++ 47 ∷ (a ++ us))
regroup m n a us = simp append_assoc

pub preds_apart : (p q : PredKey) (us vs : List ℕ) → p.arity < 10 ^ 64 → q.arity < 10 ^ 64 → stops no_digit us ≡ true → stops no_digit vs ≡ true
    → pred_text p ++ us ≡ pred_text q ++ vs → (p ≡ q) × (us ≡ vs)
preds_apart p q us vs l k s t e =
    let f = sym (regroup (name_text p.module) (name_text p.name) (decimal p.arity) us) ∙ e
    ∙ regroup (name_text q.module) (name_text q.name) (decimal q.arity) vs in
    let (m, g) = names_apart p.module q.module (58 ∷ (name_text p.name ++ 47 ∷ (decimal p.arity ++ us)))
    (58 ∷ (name_text q.name ++ 47 ∷ (decimal q.arity ++ vs))) refl refl f in
    let (n, h) = names_apart p.name q.name (47 ∷ (decimal p.arity ++ us)) (47 ∷ (decimal q.arity ++ vs)) refl refl (ap (drop 1) g) in
    let (a, u) = decimals_apart p.arity q.arity us vs l k s t (ap (drop 1) h) in
    (λ i. record { «module» = m i; name = n i; arity = a i }, u)

pub preds_differ : (p q : PredKey) → p.arity < 2 ^ 32 → q.arity < 2 ^ 32 → pred_text p ≡ pred_text q → p ≡ q
preds_differ p q l k e = (preds_apart p q [] [] (omega (arith, l)) (omega (arith, k)) refl refl (ap (λ z. z ++ []) e)).0

pub names_differ : (r s : PlainRow) → HasGroundnessCall r → HasGroundnessCall s
    → pred_text r.name.pred ++ codes " call " ++ pattern_text r.name.call ≡ pred_text s.name.pred ++ codes " call " ++ pattern_text s.name.call
    → r.name ≡ s.name
names_differ r s h k e =
    let f = sym (append_assoc (pred_text r.name.pred) (codes " call ") (pattern_text r.name.call)) ∙ e
    ∙ append_assoc (pred_text s.name.pred) (codes " call ") (pattern_text s.name.call) in
    let (p, g) = preds_apart r.name.pred s.name.pred (codes " call " ++ pattern_text r.name.call) (codes " call " ++ pattern_text s.name.call)
    (omega (arith, h.0)) (omega (arith, k.0)) refl refl f in
    let n : r.name.pred.arity ≡ s.name.pred.arity = ap (λ (p : PredKey). p.arity) p in
    let c : r.name.call ≡ s.name.call =
    patterns_differ r.name.pred.arity r.name.call s.name.call (omega (arith, h.0)) h.1 (subst (λ a. IsGroundness a s.name.call) (sym n) k.1) (ap (drop 6) g) in
    λ i. record { pred = p i; call = c i }
