-- The test for equal predicates.
use Rattle.std.proofs.Common.{◌≡◌, ◌∙◌, Bool, true, false, ◌&&◌, nat_eq, eqb-true, eq-eqb, refl, sym, subst}
use Rattle.std.specs.Cmp.Lexicographic.{pointwise, same_text, nat_list_eq_equiv}
use Rattle.plai_theory.proofs.Options.{by_test}
use Rattle.plai_terms.specs.declared.pred_key.PredKey.{PredKey}
use Rattle.plai_clauses.specs.Program.{same_pred}

both : (p q : Bool) → (p && q) ≡ true → (p ≡ true) × (q ≡ true)
both true q e = (refl, e)
both false q e = cc

pub same_pred-true : (a b : PredKey) → same_pred a b ≡ true → a ≡ b
same_pred-true a b e =
    let (m, rest) = both (pointwise nat_eq a.module b.module) (pointwise nat_eq a.name b.name && nat_eq a.arity b.arity) e in
    let (n, k) = both (pointwise nat_eq a.name b.name) (nat_eq a.arity b.arity) rest in
    let p : a.module ≡ b.module = same_text a.module b.module (sym m) in
    let q : a.name ≡ b.name = same_text a.name b.name (sym n) in
    let r : a.arity ≡ b.arity = eqb-true a.arity b.arity k in
    λ i. record { «module» = p i; name = q i; arity = r i }

pub same_pred-refl : (a : PredKey) → same_pred a a ≡ true
same_pred-refl a = rw (nat_list_eq_equiv.refl a.module, nat_list_eq_equiv.refl a.name) (eq-eqb a.arity a.arity refl)

pub same_pred-same : (a b : PredKey) → a ≡ b → same_pred a b ≡ true
same_pred-same a b e = subst (λ (x : PredKey). same_pred a x ≡ true) e (same_pred-refl a)

-- a predicate that is equal to the second and not to the first tells them apart
pub same_pred-apart : (a b c : PredKey) → same_pred b a ≡ false → same_pred c a ≡ true → same_pred c b ≡ false
same_pred-apart a b c differs same =
    by_test (same_pred c b)
    (λ t.
    let e : b ≡ a = sym (same_pred-true c b t) ∙ same_pred-true c a same in
    let no' : true ≡ false = sym (same_pred-same b a e) ∙ differs in cc)
    (λ t. t)
