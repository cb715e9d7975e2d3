-- What the text of a value tells.
use Rattle.std.proofs.Common.{◌≡◌, ℕ, zero, suc, ℤ, Bool, true, false, cond, List, [], ◌∷◌, map, drop, refl, sym, ap, ◌∙◌}
use Rattle.plai_terms.specs.Term.{integer_fits}
use Rattle.plai_terms.specs.Pattern as text
use Rattle.plai_terms.specs.Pattern.{skeleton_text}
use Rattle.plai_terms.specs.declared.abs.Abs.{Abs}
use Rattle.plai_terms.specs.declared.abs.Abs.TheVariants.{Nothing, Terms}
use Rattle.plai_terms.specs.declared.skeleton.Skeleton.{Skeleton, roll-Skeleton, out-Skeleton, roll-out-Skeleton, Integer, Int}
use Rattle.plai_terms.specs.declared.skeleton.Skeleton.TheOpen.{Skeleton-F}
use Rattle.plai_terms.specs.declared.skeleton.Skeleton.TheVariants.{outs-Any, outs-Integer, outs-Compound}
use Rattle.plai_domain.specs.Conditions.{IsValue}
use Rattle.plai_domain.specs.Printed.{IsPrinted}
use Rattle.plai_depth_laws.specs.Skeletons.{cut_layer, cut}
use Rattle.plai_depth_laws.specs.DepthK.{skeletons_of, depth_k}
use Rattle.plai_depth_laws.proofs.Equations.{both_true}
use Rattle.plai_depth_laws.proofs.Texts.{fits, all_fit, layer_fits, fits-roll, lists_apart}

-- ---- the integers of cut skeletons are within 128 bits

fits-layer : (s : Skeleton) (x : Skeleton-F Skeleton) → out-Skeleton s ≡ x → fits s ≡ layer_fits x
fits-layer s x e = ap fits (sym (roll-out-Skeleton s)) ∙ ap (λ y. fits (roll-Skeleton y)) e ∙ fits-roll x

integer_cut : (n : ℤ) (s : Skeleton) → out-Skeleton s ≡ Skeleton-F.Int n → (b : Bool) → integer_fits n ≡ b → cond b (Int n) Integer ≡ s → integer_fits n ≡ true
integer_cut n s e true q p = q
integer_cut n s e false q p = let f : Skeleton-F.Integer ≡ Skeleton-F.Int n = sym outs-Integer ∙ ap out-Skeleton p ∙ e in absurd cc

module _ (k : ℕ) (tells : (s : Skeleton) → cut k s ≡ s → fits s ≡ true) where
  all_tell : (ss : List Skeleton) → map (cut k) ss ≡ ss → all_fit ss ≡ true
  all_tell [] e = refl
  all_tell (s ∷ ss) e = let a : cut k s ≡ s = cc in let b : map (cut k) ss ≡ ss = cc in both_true (tells s a) (all_tell ss b)

  layer_tells : (s : Skeleton) (x : Skeleton-F Skeleton) → out-Skeleton s ≡ x → cut_layer (cut k) x ≡ s → layer_fits x ≡ true
  layer_tells s Skeleton-F.Any e p = refl
  layer_tells s Skeleton-F.Integer e p = refl
  layer_tells s (Skeleton-F.Int n) e p = integer_cut n s e (integer_fits n) refl p
  layer_tells s (Skeleton-F.Atom a) e p = refl
  layer_tells s (Skeleton-F.Compound name args) e p =
      let f : Skeleton-F.Compound name (map (cut k) args) ≡ Skeleton-F.Compound name args =
      sym (outs-Compound name (map (cut k) args)) ∙ ap out-Skeleton p ∙ e in
      let g : map (cut k) args ≡ args = cc in
      all_tell args g

cut_fits : (k : ℕ) (s : Skeleton) → cut k s ≡ s → fits s ≡ true
cut_fits zero s e = fits-layer s Skeleton-F.Any (ap out-Skeleton (sym e) ∙ outs-Any)
cut_fits (suc k) s e = fits-layer s (out-Skeleton s) refl ∙ layer_tells k (cut_fits k) s (out-Skeleton s) refl e

-- ---- values

not_nothing : (k n : ℕ) (a : Abs) → IsValue (depth_k k) n a → a ≡ Nothing → ⊥
not_nothing k n a h e = let same : Nothing ≡ Terms (skeletons_of a) = sym e ∙ h.first_is in cc

apart : (k n : ℕ) (a b : Abs) → IsValue (depth_k k) n a → IsValue (depth_k k) n b → text.pattern_text a ≡ text.pattern_text b → a ≡ b
apart k n a b h g e =
    let ss : List Skeleton = skeletons_of a in
    let ts : List Skeleton = skeletons_of b in
    let f : text.tuple_text ss ≡ text.tuple_text ts = ap text.pattern_text (sym h.first_is) ∙ e ∙ ap text.pattern_text g.first_is in
    let same : ss ≡ ts = lists_apart ss ts (all_tell k (cut_fits k) ss h.order.first.cut) (all_tell k (cut_fits k) ts g.order.first.cut) (ap (drop 1) f) in
    h.first_is ∙ ap Terms same ∙ sym g.first_is

-- Theorem: no value is the pattern of no answer, and different ones have different texts.
pub depth_k_printed : (k : ℕ) → IsPrinted (depth_k k)
depth_k_printed k = record {
  some = not_nothing k;
  arity = λ n a h. ap text.arity_of h.first_is ∙ h.order.first.count;
  apart = λ n a b few. apart k n a b;
}
