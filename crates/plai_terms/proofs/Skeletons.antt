-- Induction over skeletons, layer by layer.
use Rattle.std.proofs.Common.{List, [], ◌∷◌, map, subst}
use Rattle.std.specs.List.{AllByRecursion}
use Rattle.plai_terms.specs.declared.skeleton.Skeleton.{Skeleton, ind-Skeleton, map-Skeleton, roll-Skeleton}
use Rattle.plai_terms.specs.declared.skeleton.Skeleton.TheOpen.{Skeleton-F}

-- the arguments of a layer
abbrev pub arguments : {A : Type 0} → Skeleton-F A → List A
arguments (Skeleton-F.Compound _ args) = args
arguments _ = []

module _ (P : Skeleton → Type 0)
    (on_layer : (x : Skeleton-F Skeleton) → AllByRecursion P (arguments x) → P (roll-Skeleton x)) where
  abbrev Proved : Type 0
  Proved = (s : Skeleton) × P s

  all_proved : (es : List Proved) → AllByRecursion P (map (λ e. e.0) es)
  all_proved [] = tt
  all_proved (e ∷ es) = (e.1, all_proved es)

  its_arguments : (y : Skeleton-F Proved) → AllByRecursion P (arguments (map-Skeleton Proved Skeleton (λ e. e.0) y))
  its_arguments (Skeleton-F.Compound _ es) = all_proved es
  its_arguments _ = tt

  pub induction : (s : Skeleton) → P s
  induction = ind-Skeleton P (λ x y is.
      subst (λ z. P (roll-Skeleton z)) is (on_layer (map-Skeleton Proved Skeleton (λ e. e.0) y) (its_arguments y)))
