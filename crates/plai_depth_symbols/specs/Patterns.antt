-- Patterns over a signature: terms cut at a depth whose integers, atoms and functors are of it; `int` and `any` are no symbols
-- (Sato and Tamaki 1984).
use Rattle.std.specs.Prelude.{◌≡◌, List, [], ◌∷◌, length}
use Rattle.std.specs.List.{flat_map}
use Rattle.plai_theory.specs.Words.{IsIn}
use Rattle.plai_terms.specs.declared.skeleton.Skeleton.{Skeleton, fold-Skeleton}
use Rattle.plai_terms.specs.declared.skeleton.Skeleton.TheOpen.{Skeleton-F}
use Rattle.plai_terms.specs.declared.abs.Abs.{Abs}
use Rattle.plai_terms.specs.declared.abs.Abs.TheVariants.{Terms}
use Rattle.plai_depth_laws.specs.DepthK.{skeletons_of}
use Rattle.plai_depth_symbols.specs.Symbols.{Symbol, Number, Constant, Functor}

-- one layer, whose arguments have their symbols already
abbrev pub skeleton_step : Skeleton-F (List Symbol) → List Symbol
skeleton_step Skeleton-F.Any = []
skeleton_step Skeleton-F.Integer = []
skeleton_step (Skeleton-F.Int n) = Number n ∷ []
skeleton_step (Skeleton-F.Atom name) = Constant name ∷ []
skeleton_step (Skeleton-F.Compound name found) = Functor name (length found) ∷ flat_map (λ symbols. symbols) found

-- the symbols that stand in a skeleton
abbrev pub skeleton_symbols : Skeleton → List Symbol
skeleton_symbols = fold-Skeleton (List Symbol) skeleton_step

-- each symbol that stands in the skeleton is of the signature
abbrev pub IsSkeletonOver : List Symbol → Skeleton → Type 0
IsSkeletonOver signature s = (x : Symbol) → IsIn x (skeleton_symbols s) → IsIn x signature

-- a pattern of skeletons over the signature
pub record IsPatternOver (signature : List Symbol) (a : Abs) : Type 0 where
  pub terms : a ≡ Terms (skeletons_of a)
  pub over : (s : Skeleton) → IsIn s (skeletons_of a) → IsSkeletonOver signature s
