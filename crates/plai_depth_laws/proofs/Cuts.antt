-- Cutting is a closure: it goes up, it keeps the order, and twice is as once.
use Rattle.std.proofs.Common.{◌-◌, ◌≤◌, arith, ◌≡◌, ℕ, zero, suc, ℤ, Bool, true, false, cond, List, [], ◌∷◌, map, refl, sym, ap, ◌∙◌, subst}
use Rattle.plai_terms.specs.Term.{integer_fits}
use Rattle.plai_terms.specs.declared.skeleton.Skeleton.{Skeleton, out-Skeleton, Integer, Int, Compound}
use Rattle.plai_terms.specs.declared.skeleton.Skeleton.TheOpen.{Skeleton-F}
use Rattle.plai_terms.specs.declared.skeleton.Skeleton.TheVariants.{outs-Any, outs-Integer, outs-Int, outs-Atom, outs-Compound}
use Rattle.plai_depth_laws.specs.Skeletons.{cut_layer, cut}
use Rattle.plai_depth_laws.specs.Order.{IsUnder, same, any, integer, compound, AreUnder, none, more}
use Rattle.plai_depth_laws.proofs.Equations.{is-Any, is-Integer, is-Int, is-Atom}
use Rattle.plai_depth_laws.proofs.Order.{IsUnder-trans, IsUnder-antisym}

-- ---- it goes up

integer_goes_up : (s : Skeleton) (n : ℤ) → out-Skeleton s ≡ Skeleton-F.Int n → (b : Bool) → IsUnder s (cond b (Int n) Integer)
integer_goes_up s n e true = same (is-Int s n e)
integer_goes_up s n e false = integer n e outs-Integer

module _ (f : Skeleton → Skeleton) (up : (s : Skeleton) → IsUnder s (f s)) where
  all_go_up : (ss : List Skeleton) → AreUnder ss (map f ss)
  all_go_up [] = none
  all_go_up (s ∷ ss) = more (up s) (all_go_up ss)

  layer_goes_up : (s : Skeleton) (x : Skeleton-F Skeleton) → out-Skeleton s ≡ x → IsUnder s (cut_layer f x)
  layer_goes_up s Skeleton-F.Any e = same (is-Any s e)
  layer_goes_up s Skeleton-F.Integer e = same (is-Integer s e)
  layer_goes_up s (Skeleton-F.Int n) e = integer_goes_up s n e (integer_fits n)
  layer_goes_up s (Skeleton-F.Atom a) e = same (is-Atom s a e)
  layer_goes_up s (Skeleton-F.Compound name ss) e = compound name ss (map f ss) e (outs-Compound name (map f ss)) (all_go_up ss)

pub cut_up : (k : ℕ) (s : Skeleton) → IsUnder s (cut k s)
cut_up zero s = any outs-Any
cut_up (suc k) s = layer_goes_up (cut k) (cut_up k) s (out-Skeleton s) refl

-- ---- it keeps the order

integer_keeps : (n : ℤ) (b : Bool) → IsUnder (cond b (Int n) Integer) Integer
integer_keeps n true = integer n (outs-Int n) outs-Integer
integer_keeps n false = same refl

module _ (f : Skeleton → Skeleton) (keeps : (s t : Skeleton) → IsUnder s t → IsUnder (f s) (f t)) where
  pub all_keep : {ss ts : List Skeleton} → AreUnder ss ts → AreUnder (map f ss) (map f ts)
  all_keep none = none
  all_keep (more p ps) = more (keeps _ _ p) (all_keep ps)

  layer_keeps : {s t : Skeleton} → IsUnder s t → IsUnder (cut_layer f (out-Skeleton s)) (cut_layer f (out-Skeleton t))
  layer_keeps (same e) = same (ap (λ s. cut_layer f (out-Skeleton s)) e)
  layer_keeps (any e) = any (ap (λ y. out-Skeleton (cut_layer f y)) e ∙ outs-Any)
  layer_keeps {s} {t} (integer n e g) =
      subst (λ y. IsUnder (cut_layer f y) (cut_layer f (out-Skeleton t))) (sym e)
      (subst (λ y. IsUnder (cut_layer f (Skeleton-F.Int n)) (cut_layer f y)) (sym g) (integer_keeps n (integer_fits n)))
  layer_keeps (compound name ss ts e g ps) =
      compound name (map f ss) (map f ts)
      (ap (λ y. out-Skeleton (cut_layer f y)) e ∙ outs-Compound name (map f ss))
      (ap (λ y. out-Skeleton (cut_layer f y)) g ∙ outs-Compound name (map f ts))
      (all_keep ps)

pub cut_keeps : (k : ℕ) (s t : Skeleton) → IsUnder s t → IsUnder (cut k s) (cut k t)
cut_keeps zero s t p = same refl
cut_keeps (suc k) s t p = layer_keeps (cut k) (cut_keeps k) p

pub cuts_keep : (k : ℕ) {ss ts : List Skeleton} → AreUnder ss ts → AreUnder (map (cut k) ss) (map (cut k) ts)
cuts_keep k ps = all_keep (cut k) (cut_keeps k) ps

-- ---- deeper cuts are smaller

module _ (f g : Skeleton → Skeleton) (less : (s : Skeleton) → IsUnder (f s) (g s)) where
  all_less : (ss : List Skeleton) → AreUnder (map f ss) (map g ss)
  all_less [] = none
  all_less (s ∷ ss) = more (less s) (all_less ss)

  layer_less : (x : Skeleton-F Skeleton) → IsUnder (cut_layer f x) (cut_layer g x)
  layer_less Skeleton-F.Any = same refl
  layer_less Skeleton-F.Integer = same refl
  layer_less (Skeleton-F.Int n) = same refl
  layer_less (Skeleton-F.Atom a) = same refl
  layer_less (Skeleton-F.Compound name ss) = compound name (map f ss) (map g ss) (outs-Compound name (map f ss)) (outs-Compound name (map g ss)) (all_less ss)

pub cut_deeper : (k : ℕ) (s : Skeleton) → IsUnder (cut (suc k) s) (cut k s)
cut_deeper zero s = any outs-Any
cut_deeper (suc k) s = layer_less (cut (suc k)) (cut k) (cut_deeper k) (out-Skeleton s)

-- ---- twice is as once

integer_twice : (f : Skeleton → Skeleton) (n : ℤ) (b : Bool) → integer_fits n ≡ b → cut_layer f (out-Skeleton (cond b (Int n) Integer)) ≡ cond b (Int n) Integer
integer_twice f n true e = ap (cut_layer f) (outs-Int n) ∙ ap (λ b. cond b (Int n) Integer) e
integer_twice f n false e = ap (cut_layer f) outs-Integer

module _ (f : Skeleton → Skeleton) (twice : (s : Skeleton) → f (f s) ≡ f s) where
  all_twice : (ss : List Skeleton) → map f (map f ss) ≡ map f ss
  all_twice [] = refl
  all_twice (s ∷ ss) = let a = twice s in let b = all_twice ss in λ i. a i ∷ b i

  layer_twice : (x : Skeleton-F Skeleton) → cut_layer f (out-Skeleton (cut_layer f x)) ≡ cut_layer f x
  layer_twice Skeleton-F.Any = ap (cut_layer f) outs-Any
  layer_twice Skeleton-F.Integer = ap (cut_layer f) outs-Integer
  layer_twice (Skeleton-F.Int n) = integer_twice f n (integer_fits n) refl
  layer_twice (Skeleton-F.Atom a) = ap (cut_layer f) (outs-Atom a)
  layer_twice (Skeleton-F.Compound name ss) = ap (cut_layer f) (outs-Compound name (map f ss)) ∙ ap (Compound name) (all_twice ss)

pub cut_twice : (k : ℕ) (s : Skeleton) → cut k (cut k s) ≡ cut k s
cut_twice zero s = refl
cut_twice (suc k) s = layer_twice (cut k) (cut_twice k) (out-Skeleton s)

pub cuts_twice : (k : ℕ) (ss : List Skeleton) → map (cut k) (map (cut k) ss) ≡ map (cut k) ss
cuts_twice k ss = all_twice (cut k) (cut_twice k) ss

-- ---- cut skeletons

-- what lies above its cut is cut
pub cut_from_above : (k : ℕ) (s : Skeleton) → IsUnder (cut k s) s → cut k s ≡ s
cut_from_above k s p = IsUnder-antisym p (cut_up k s)

-- one cut at a depth is cut at the next
pub cut_at_next : (k : ℕ) (s : Skeleton) → cut k s ≡ s → cut (suc k) s ≡ s
cut_at_next k s e = cut_from_above (suc k) s (IsUnder-trans (cut_deeper k s) (same e))

-- at a depth above zero
pub cut-positive : (k : ℕ) (s : Skeleton) → 1 ≤ k → cut k s ≡ cut_layer (cut (k - 1)) (out-Skeleton s)
cut-positive zero s l = absurd (omega (arith, l))
cut-positive (suc k) s l = let e : k ≡ suc k - 1 = omega arith in ap (λ d. cut_layer (cut d) (out-Skeleton s)) e
