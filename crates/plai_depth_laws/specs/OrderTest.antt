-- The test of the order of skeletons (Sato and Tamaki 1984).
use Rattle.std.specs.Prelude.{Bool, true, false, ◌&&◌, nat_eq, List, ◌∷◌, length}
use Rattle.std.specs.Cmp.Lexicographic.{pointwise}
use Rattle.std.specs.Ordering.{int_eq}
use Rattle.plai_terms.specs.declared.skeleton.Skeleton.{Skeleton, fold-Skeleton, out-Skeleton}
use Rattle.plai_terms.specs.declared.skeleton.Skeleton.TheOpen.{Skeleton-F}
use Rattle.plai_depth_laws.specs.Skeletons.{same_functor}

-- argument by argument
abbrev pub are_under : List (Skeleton → Bool) → List Skeleton → Bool
are_under (u ∷ us) (t ∷ ts) = u t && are_under us ts
are_under _ _ = true

-- one layer against another, where the first one's arguments have their tests already
abbrev pub under_layer : Skeleton-F (Skeleton → Bool) → Skeleton-F Skeleton → Bool
under_layer _ Skeleton-F.Any = true
under_layer Skeleton-F.Integer Skeleton-F.Integer = true
under_layer (Skeleton-F.Int m) Skeleton-F.Integer = true
under_layer (Skeleton-F.Int m) (Skeleton-F.Int n) = int_eq m n
under_layer (Skeleton-F.Atom a) (Skeleton-F.Atom b) = pointwise nat_eq a b
under_layer (Skeleton-F.Compound a us) (Skeleton-F.Compound b ts) = same_functor a (length us) b (length ts) && are_under us ts
under_layer _ _ = false

-- whether the first lies at or below the second
abbrev pub is_under : Skeleton → Skeleton → Bool
is_under = fold-Skeleton (Skeleton → Bool) (λ x t. under_layer x (out-Skeleton t))
