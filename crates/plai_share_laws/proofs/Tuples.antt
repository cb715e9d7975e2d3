-- The literal's arguments under an instance are the tuple of their terms.
use Rattle.std.proofs.Common.{◌≡◌, ℕ, zero, suc, ◌+◌, ◌<◌, Bool, true, false, ◌&&◌, nat_lt, List, [], ◌∷◌, map, length, Some, refl, sym, subst, ◌∙◌, inl, inr}
use Rattle.std.proofs.Common.{arith}
use Rattle.std.proofs.lemmas.Bool.Decides.{nat_tests}
use Rattle.plai_terms.specs.Term.{occurs}
use Rattle.plai_terms.specs.declared.term.Term.{Term}
use Rattle.plai_share_laws.proofs.Members.{IsIn}
use Rattle.plai_share_laws.specs.Groups.{Has}
use Rattle.plai_share_laws.specs.Shares.{Shares, Side, slots_of}
use Rattle.plai_share_laws.proofs.Meaning.{IsInstance, Describes, side_occurs, side_variable, arguments, AreBelow}
use Rattle.plai_share_laws.specs.Calls.{call}
use Rattle.plai_share_laws.proofs.Masks.{by_test}
use Rattle.plai_share_laws.proofs.Lists.{in_map}
use Rattle.plai_share_laws.proofs.Parts.{and_parts, and_both}
use Rattle.plai_share_laws.proofs.Unify.{touch_meets, meets_touch}
use Rattle.plai_share_laws.proofs.Extend.{call_describes}
use Rattle.plai_share_laws.proofs.NewSlots.{IsLike, like_describes}
use Rattle.plai_terms.specs.Substitution.{under}
use Rattle.plai_share_laws.specs.Sides.{variable_of, side_of}
use Rattle.plai_share_laws.proofs.Placed.{placed, term_at, tuple_of}
use Rattle.plai_share_laws.proofs.TermMoves.{touch_occurs, occurs_touch, side_variable_is, variable_side_is, side_below}

pub lower : (k n : ℕ) → nat_lt k n ≡ true → k < n
lower k n t = grind (arith, nat_tests)

pub lower_test : (k n : ℕ) → k < n → nat_lt k n ≡ true
lower_test k n l = grind (arith, nat_tests)

equal : (p q : Bool) → (p ≡ true → q ≡ true) → (q ≡ true → p ≡ true) → p ≡ q
equal true q f g = sym (f refl)
equal false true f g = g refl
equal false false f g = refl

module _ (base n number : ℕ) (terms : ℕ → Term) (wf : IsInstance n number (placed n terms)) where
  abbrev pub fill : Term → Term
  fill t = under (λ v. terms (base + v)) t

  -- each argument's variables have slots below n
  abbrev pub AreWithin : List Term → Type 0
  AreWithin args = (t : Term) → IsIn t args → (v : ℕ) → occurs v t ≡ true → base + v < n

  occurs_same : (args : List Term) → AreWithin args → (w k : ℕ)
      → side_occurs n (map (side_of base) args) (placed n terms) w k ≡ (nat_lt k (length (map fill args)) && occurs w (term_at (map fill args) k))
  occurs_same [] low w k = equal _ _ (λ e. cc) (λ e. let l = lower k 0 (and_parts _ _ e).0 in absurd (omega arith))
  occurs_same (t ∷ ts) low w zero = equal _ _
      (λ e. and_both _ _ (lower_test 0 (suc (length (map fill ts))) (omega arith))
      (touch_occurs base n terms t (low t (inl refl)) w (meets_touch n number (placed n terms) wf (slots_of (side_of base t)) w e)))
      (λ e. touch_meets n number (placed n terms) wf (slots_of (side_of base t)) w (occurs_touch base n terms t (low t (inl refl)) w (and_parts _ _ e).1))
  occurs_same (t ∷ ts) low w (suc k) = occurs_same ts (λ x m. low x (inr m)) w k ∙ equal _ _
      (λ e. let (a, b) = and_parts _ _ e in let l = lower k (length (map fill ts)) a in
      and_both _ _ (lower_test (suc k) (suc (length (map fill ts))) (omega arith)) b)
      (λ e. let (a, b) = and_parts _ _ e in let l = lower (suc k) (suc (length (map fill ts))) a in
      and_both _ _ (lower_test k (length (map fill ts)) (omega arith)) b)

  variable_to : (args : List Term) → AreWithin args → (k y : ℕ) → side_variable (map (side_of base) args) (placed n terms) k ≡ Some y
      → (k < length (map fill args)) × (variable_of (term_at (map fill args) k) ≡ Some y)
  variable_to [] low k y e = cc
  variable_to (t ∷ ts) low zero y e = (omega arith, side_variable_is base n terms t (low t (inl refl)) y e)
  variable_to (t ∷ ts) low (suc k) y e = let (l, f) = variable_to ts (λ x m. low x (inr m)) k y e in (omega arith, f)

  variable_back : (args : List Term) → AreWithin args → (k y : ℕ) → k < length (map fill args) → variable_of (term_at (map fill args) k) ≡ Some y
      → side_variable (map (side_of base) args) (placed n terms) k ≡ Some y
  variable_back [] low k y l e = absurd (omega arith)
  variable_back (t ∷ ts) low zero y l e = variable_side_is base n terms t (low t (inl refl)) y e
  variable_back (t ∷ ts) low (suc k) y l e = variable_back ts (λ x m. low x (inr m)) k y (omega arith) e

  pub arguments_like : (args : List Term) → AreWithin args → IsLike (arguments n (map (side_of base) args) (placed n terms)) (tuple_of (map fill args))
  arguments_like args low = record {
    occurs = λ w k. occurs_same args low w k;
    variable = λ k y e. let (l, f) = variable_to args low k y e in rw (lower_test k (length (map fill args)) l) f;
    variable_back = λ k y e. by_test (nat_lt k (length (map fill args)))
        (λ t. variable_back args low k y (lower k (length (map fill args)) t) (rw t at e)) (λ t. let f = rw t at e in cc);
  }

  pub sides_below : (args : List Term) → AreWithin args → AreBelow n (map (side_of base) args)
  sides_below args low s i k h =
      let (t, j, e) = in_map (side_of base) args s i in
      side_below base n terms t (low t j) k (subst (λ (z : Side). Has (slots_of z) k) (sym e) h)

  -- call, over terms
  pub call_tuple : (args : List Term) → AreWithin args → (v : Shares) → v.slots ≡ n → Describes v (placed n terms)
      → Describes (call n (map (side_of base) args) v) (tuple_of (map fill args))
  call_tuple args low v size d = like_describes (call n (map (side_of base) args) v) _ (tuple_of (map fill args)) (arguments_like args low)
      (call_describes n number (map (side_of base) args) v (placed n terms) size (sides_below args low) wf d)
