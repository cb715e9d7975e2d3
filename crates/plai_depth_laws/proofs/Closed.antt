-- Pushes into cut skeletons leave them cut, and joins of cut skeletons are cut.
use Rattle.std.proofs.Common.{◌≡◌, ℕ, zero, suc, true, List, [], ◌∷◌, map, length, Some, refl, sym, ap, ◌∙◌, subst}
use Rattle.std.specs.List.{AllByRecursion}
use Rattle.plai_terms.specs.declared.term.Term.{Term, Var, Int as number, Atom as constant, Compound as structure}
use Rattle.plai_terms.proofs.Terms.{induction}
use Rattle.plai_terms.specs.declared.skeleton.Skeleton.{Skeleton, out-Skeleton, Any}
use Rattle.plai_terms.specs.declared.skeleton.Skeleton.TheVariants.{outs-Any, outs-Compound}
use Rattle.plai_domain.specs.Instances.{all_below}
use Rattle.plai_depth_laws.specs.Skeletons.{cut_layer, cut}
use Rattle.plai_depth_laws.specs.Moves.{skeleton_at, pull, push_all}
use Rattle.plai_depth_laws.specs.Order.{IsUnder, same, any, compound, AreUnder, none, more}
use Rattle.plai_depth_laws.proofs.Order.{IsUnder-trans, AreUnder-trans, AreUnder-antisym}
use Rattle.plai_depth_laws.proofs.Cuts.{cut_up, cuts_keep, cut_deeper}
use Rattle.plai_depth_laws.proofs.Moves.{pull-Var, pull-Int, pull-Atom, pull-Compound, pushes_lower, pushes_greatest}

-- ---- a pull out of cut skeletons lies below the cut pull

at_cut : (k : ℕ) (ss : List Skeleton) (v : ℕ) → IsUnder (skeleton_at (map (cut k) ss) v) (cut k (skeleton_at ss v))
at_cut k [] v = cut_up k Any
at_cut k (s ∷ ss) zero = same refl
at_cut k (s ∷ ss) (suc v) = at_cut k ss v

module _ (ss : List Skeleton) where
  abbrev Shrinks : Term → Type 0
  Shrinks t = (k : ℕ) → IsUnder (pull (map (cut k) ss) t) (cut k (pull ss t))

  all_shrink : (k : ℕ) (args : List Term) → AllByRecursion Shrinks args → AreUnder (map (pull (map (cut (suc k)) ss)) args) (map (cut k) (map (pull ss) args))
  all_shrink k [] h = none
  all_shrink k (a ∷ args) h = more (IsUnder-trans (h.0 (suc k)) (cut_deeper k (pull ss a))) (all_shrink k args h.1)

  compound_shrinks : (name : List ℕ) (args : List Term) → AllByRecursion Shrinks args → Shrinks (structure name args)
  compound_shrinks name args h zero = any outs-Any
  compound_shrinks name args h (suc k) =
      compound name (map (pull (map (cut (suc k)) ss)) args) (map (cut k) (map (pull ss) args))
      (ap out-Skeleton (pull-Compound (map (cut (suc k)) ss) name args) ∙ outs-Compound name (map (pull (map (cut (suc k)) ss)) args))
      (ap (λ s. out-Skeleton (cut_layer (cut k) (out-Skeleton s))) (pull-Compound ss name args)
      ∙ ap (λ y. out-Skeleton (cut_layer (cut k) y)) (outs-Compound name (map (pull ss) args))
      ∙ outs-Compound name (map (cut k) (map (pull ss) args)))
      (all_shrink k args h)

  pub pull_shrinks : (t : Term) (k : ℕ) → IsUnder (pull (map (cut k) ss) t) (cut k (pull ss t))
  pull_shrinks = induction Shrinks
      (λ v k. subst (λ s. IsUnder s (cut k (pull ss (Var v)))) (sym (pull-Var (map (cut k) ss) v))
      (subst (λ s. IsUnder (skeleton_at (map (cut k) ss) v) (cut k s)) (sym (pull-Var ss v)) (at_cut k ss v)))
      (λ n k. IsUnder-trans (same (pull-Int (map (cut k) ss) n ∙ sym (pull-Int ss n))) (cut_up k (pull ss (number n))))
      (λ a k. IsUnder-trans (same (pull-Atom (map (cut k) ss) a ∙ sym (pull-Atom ss a))) (cut_up k (pull ss (constant a))))
      compound_shrinks

  pub pulls_shrink : (ts : List Term) (k : ℕ) → AreUnder (map (pull (map (cut k) ss)) ts) (map (cut k) (map (pull ss) ts))
  pulls_shrink [] k = none
  pulls_shrink (t ∷ ts) k = more (pull_shrinks t k) (pulls_shrink ts k)

-- ---- pushes

pub cuts_up : (k : ℕ) (ss : List Skeleton) → AreUnder ss (map (cut k) ss)
cuts_up k [] = none
cuts_up k (s ∷ ss) = more (cut_up k s) (cuts_up k ss)

pub pushes_cut : (k limit : ℕ) (ts : List Term) → all_below limit ts ≡ true → (as' : List Skeleton) → length ts ≡ length as' → (ss ss' : List Skeleton)
    → length ss ≡ limit
    → map (cut k) as' ≡ as' → map (cut k) ss ≡ ss → push_all ts as' ss ≡ Some ss' → map (cut k) ss' ≡ ss'
pushes_cut k limit ts w as' l ss ss' len ca cs e =
    let (under, fit) = pushes_lower limit ts w as' l ss ss' len e in
    let below : AreUnder (map (cut k) ss') ss = subst (AreUnder (map (cut k) ss')) cs (cuts_keep k under) in
    let fits : AreUnder (map (pull (map (cut k) ss')) ts) as' =
    AreUnder-trans (pulls_shrink ss' ts k) (subst (AreUnder (map (cut k) (map (pull ss') ts))) ca (cuts_keep k fit)) in
    let (top, f, g) = pushes_greatest (map (cut k) ss') ts as' ss below fits in
    let is : top ≡ ss' = cc in
    AreUnder-antisym (subst (AreUnder (map (cut k) ss')) is g) (cuts_up k ss')
