-- The order of skeletons (Sato and Tamaki 1984).
use Rattle.std.specs.Prelude.{◌≡◌, ℤ, ℕ, List, [], ◌∷◌}
use Rattle.plai_terms.specs.declared.skeleton.Skeleton.{Skeleton, out-Skeleton}
use Rattle.plai_terms.specs.declared.skeleton.Skeleton.TheOpen.{Skeleton-F}

mutual
  -- integers lie below `int`, all below `any`, functors argument by argument
  pub data IsUnder : Skeleton → Skeleton → Type 0 where
    same : {s t : Skeleton} → s ≡ t → IsUnder s t
    any : {s t : Skeleton} → out-Skeleton t ≡ Skeleton-F.Any → IsUnder s t
    integer : {s t : Skeleton} (n : ℤ) → out-Skeleton s ≡ Skeleton-F.Int n → out-Skeleton t ≡ Skeleton-F.Integer → IsUnder s t
    compound : {s t : Skeleton} (name : List ℕ) (ss ts : List Skeleton) → out-Skeleton s ≡ Skeleton-F.Compound name ss
        → out-Skeleton t ≡ Skeleton-F.Compound name ts → AreUnder ss ts → IsUnder s t

  pub data AreUnder : List Skeleton → List Skeleton → Type 0 where
    none : AreUnder [] []
    more : {s t : Skeleton} {ss ts : List Skeleton} → IsUnder s t → AreUnder ss ts → AreUnder (s ∷ ss) (t ∷ ts)
