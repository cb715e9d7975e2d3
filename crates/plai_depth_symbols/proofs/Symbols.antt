-- The symbols of skeletons, layer by layer; those of a skeleton are among those of each one below it.
use Rattle.std.proofs.Common.{◌≡◌, ℕ, ℤ, List, [], ◌∷◌, ◌++◌, map, length, refl, sym, ap, ◌∙◌, subst, inl, inr}
use Rattle.std.specs.List.{flat_map, AllByRecursion}
use Rattle.std.proofs.lemmas.List.{length-map}
use Rattle.plai_theory.specs.Words.{IsIn}
use Rattle.plai_terms.specs.declared.skeleton.Skeleton.{Skeleton, out-Skeleton, fold-roll-Skeleton, roll-out-Skeleton, map-Skeleton, Any, Integer, Int, Atom}
use Rattle.plai_terms.specs.declared.skeleton.Skeleton.{Compound}
use Rattle.plai_terms.specs.declared.skeleton.Skeleton.TheOpen.{Skeleton-F}
use Rattle.plai_terms.specs.declared.skeleton.Skeleton.TheVariants.{outs-Any, outs-Integer, outs-Int, outs-Atom, outs-Compound}
use Rattle.plai_depth_laws.specs.Order.{IsUnder, same, any, integer, compound, AreUnder, none, more}
use Rattle.plai_depth_laws.proofs.Order.{length-AreUnder}
use Rattle.plai_depth_symbols.specs.Symbols.{Symbol, Number, Constant, Functor}
use Rattle.plai_depth_symbols.specs.Patterns.{skeleton_step, skeleton_symbols, IsSkeletonOver}

-- ---- members of joined lists

pub in_either : {A : Type 0} {P : Type 0} (x : A) (xs ys : List A) → IsIn x (xs ++ ys) → (IsIn x xs → P) → (IsIn x ys → P) → P
in_either x [] ys i h k = k i
in_either x (y ∷ xs) ys (inl e) h k = h (inl e)
in_either x (y ∷ xs) ys (inr i) h k = in_either x xs ys i (λ j. h (inr j)) k

pub in_first : {A : Type 0} (x : A) (xs ys : List A) → IsIn x xs → IsIn x (xs ++ ys)
in_first x [] ys i = absurd i
in_first x (y ∷ xs) ys (inl e) = inl e
in_first x (y ∷ xs) ys (inr i) = inr (in_first x xs ys i)

pub in_second : {A : Type 0} (x : A) (xs ys : List A) → IsIn x ys → IsIn x (xs ++ ys)
in_second x [] ys i = i
in_second x (y ∷ xs) ys i = inr (in_second x xs ys i)

pub in_part : {A B : Type 0} (f : A → List B) (x : B) (a : A) (xs : List A) → IsIn a xs → IsIn x (f a) → IsIn x (flat_map f xs)
in_part f x a [] i j = absurd i
in_part f x a (b ∷ xs) (inl e) j = in_first x (f b) (flat_map f xs) (subst (λ c. IsIn x (f c)) (sym e) j)
in_part f x a (b ∷ xs) (inr i) j = in_second x (f b) (flat_map f xs) (in_part f x a xs i j)

-- ---- layers

symbols_at : (s : Skeleton) (x : Skeleton-F Skeleton) → out-Skeleton s ≡ x
    → skeleton_symbols s ≡ skeleton_step (map-Skeleton Skeleton (List Symbol) skeleton_symbols x)
symbols_at s x e =
    ap skeleton_symbols (sym (roll-out-Skeleton s))
    ∙ fold-roll-Skeleton (List Symbol) skeleton_step (out-Skeleton s)
    ∙ ap (λ y. skeleton_step (map-Skeleton Skeleton (List Symbol) skeleton_symbols y)) e

module _ (signature : List Symbol) where
  abbrev pub Over : Skeleton → Type 0
  Over = IsSkeletonOver signature

  abbrev pub AllOver : List Skeleton → Type 0
  AllOver = AllByRecursion Over

  abbrev pub LayerOver : Skeleton-F Skeleton → Type 0
  LayerOver Skeleton-F.Any = Unit {0}
  LayerOver Skeleton-F.Integer = Unit {0}
  LayerOver (Skeleton-F.Int n) = IsIn (Number n) signature
  LayerOver (Skeleton-F.Atom name) = IsIn (Constant name) signature
  LayerOver (Skeleton-F.Compound name args) = IsIn (Functor name (length args)) signature × AllOver args

  args_over : (args : List Skeleton) → ((x : Symbol) → IsIn x (flat_map (λ symbols. symbols) (map skeleton_symbols args)) → IsIn x signature) → AllOver args
  args_over [] h = tt
  args_over (s ∷ args) h = (
    λ x i. h x (in_first x (skeleton_symbols s) (flat_map (λ symbols. symbols) (map skeleton_symbols args)) i),
    args_over args (λ x i. h x (in_second x (skeleton_symbols s) (flat_map (λ symbols. symbols) (map skeleton_symbols args)) i)),
  )

  over_args : (args : List Skeleton) → AllOver args → (x : Symbol) → IsIn x (flat_map (λ symbols. symbols) (map skeleton_symbols args)) → IsIn x signature
  over_args [] h x i = absurd i
  over_args (s ∷ args) h x i = in_either x (skeleton_symbols s) (flat_map (λ symbols. symbols) (map skeleton_symbols args)) i (h.0 x) (over_args args h.1 x)

  layer_of_step : (x : Skeleton-F Skeleton)
      → ((y : Symbol) → IsIn y (skeleton_step (map-Skeleton Skeleton (List Symbol) skeleton_symbols x)) → IsIn y signature) → LayerOver x
  layer_of_step Skeleton-F.Any h = tt
  layer_of_step Skeleton-F.Integer h = tt
  layer_of_step (Skeleton-F.Int n) h = h (Number n) (inl refl)
  layer_of_step (Skeleton-F.Atom name) h = h (Constant name) (inl refl)
  layer_of_step (Skeleton-F.Compound name args) h = (
    subst (λ n. IsIn (Functor name n) signature) (length-map args skeleton_symbols) (h (Functor name (length (map skeleton_symbols args))) (inl refl)),
    args_over args (λ y i. h y (inr i)),
  )

  step_of_layer : (x : Skeleton-F Skeleton) → LayerOver x → (y : Symbol) → IsIn y (skeleton_step (map-Skeleton Skeleton (List Symbol) skeleton_symbols x))
      → IsIn y signature
  step_of_layer Skeleton-F.Any h y i = absurd i
  step_of_layer Skeleton-F.Integer h y i = absurd i
  step_of_layer (Skeleton-F.Int n) h y (inl e) = subst (λ z. IsIn z signature) e h
  step_of_layer (Skeleton-F.Int n) h y (inr i) = absurd i
  step_of_layer (Skeleton-F.Atom name) h y (inl e) = subst (λ z. IsIn z signature) e h
  step_of_layer (Skeleton-F.Atom name) h y (inr i) = absurd i
  step_of_layer (Skeleton-F.Compound name args) h y (inl e) =
      subst (λ z. IsIn z signature) e (subst (λ n. IsIn (Functor name n) signature) (sym (length-map args skeleton_symbols)) h.0)
  step_of_layer (Skeleton-F.Compound name args) h y (inr i) = over_args args h.1 y i

  -- a skeleton is over the signature where its layer is
  pub layer_over : (s : Skeleton) (x : Skeleton-F Skeleton) → out-Skeleton s ≡ x → Over s → LayerOver x
  layer_over s x e h = layer_of_step x (λ y i. h y (subst (λ l. IsIn y l) (sym (symbols_at s x e)) i))

  pub over_layer : (s : Skeleton) (x : Skeleton-F Skeleton) → out-Skeleton s ≡ x → LayerOver x → Over s
  over_layer s x e h y i = step_of_layer x h y (subst (λ l. IsIn y l) (symbols_at s x e) i)

  -- ---- by variants

  pub over-Any : Over Any
  over-Any = over_layer Any Skeleton-F.Any outs-Any tt

  pub over-Integer : Over Integer
  over-Integer = over_layer Integer Skeleton-F.Integer outs-Integer tt

  pub over-Int : (n : ℤ) → IsIn (Number n) signature → Over (Int n)
  over-Int n = over_layer (Int n) (Skeleton-F.Int n) (outs-Int n)

  pub over-Atom : (name : List ℕ) → IsIn (Constant name) signature → Over (Atom name)
  over-Atom name = over_layer (Atom name) (Skeleton-F.Atom name) (outs-Atom name)

  pub over-Compound : (name : List ℕ) (args : List Skeleton) → IsIn (Functor name (length args)) signature → AllOver args → Over (Compound name args)
  over-Compound name args i h = over_layer (Compound name args) (Skeleton-F.Compound name args) (outs-Compound name args) (i, h)

  -- ---- what lies above has no more symbols

  mutual
    pub over_above : {s t : Skeleton} → IsUnder s t → Over s → Over t
    over_above (same e) h = subst Over e h
    over_above {s} {t} (any e) h = over_layer t Skeleton-F.Any e tt
    over_above {s} {t} (integer n e f) h = over_layer t Skeleton-F.Integer f tt
    over_above {s} {t} (compound name ss ts e f ps) h =
        let l = layer_over s (Skeleton-F.Compound name ss) e h in
        over_layer t (Skeleton-F.Compound name ts) f (subst (λ n. IsIn (Functor name n) signature) (length-AreUnder ps) l.0, all_above ps l.1)

    pub all_above : {ss ts : List Skeleton} → AreUnder ss ts → AllOver ss → AllOver ts
    all_above none h = tt
    all_above (more p ps) h = (over_above p h.0, all_above ps h.1)
