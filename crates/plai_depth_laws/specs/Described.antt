-- What terms a skeleton describes (Sato and Tamaki 1984).
use Rattle.std.specs.Prelude.{◌≡◌, ℤ, ℕ, List, [], ◌∷◌}
use Rattle.plai_terms.specs.declared.term.Term.{Term, out-Term}
use Rattle.plai_terms.specs.declared.term.Term.TheOpen.{Term-F}
use Rattle.plai_terms.specs.declared.skeleton.Skeleton.{Skeleton, out-Skeleton}
use Rattle.plai_terms.specs.declared.skeleton.Skeleton.TheOpen.{Skeleton-F}

mutual
  -- `any` describes all terms, `int` all integers, the rest themselves argument by argument
  pub data DescribedBy : Skeleton → Term → Type 0 where
    any : {s : Skeleton} {t : Term} → out-Skeleton s ≡ Skeleton-F.Any → DescribedBy s t
    integer : {s : Skeleton} {t : Term} (n : ℤ) → out-Skeleton s ≡ Skeleton-F.Integer → out-Term t ≡ Term-F.Int n → DescribedBy s t
    number : {s : Skeleton} {t : Term} (n : ℤ) → out-Skeleton s ≡ Skeleton-F.Int n → out-Term t ≡ Term-F.Int n → DescribedBy s t
    atom : {s : Skeleton} {t : Term} (a : List ℕ) → out-Skeleton s ≡ Skeleton-F.Atom a → out-Term t ≡ Term-F.Atom a → DescribedBy s t
    compound : {s : Skeleton} {t : Term} (name : List ℕ) (ss : List Skeleton) (ts : List Term) → out-Skeleton s ≡ Skeleton-F.Compound name ss
        → out-Term t ≡ Term-F.Compound name ts → AllDescribedBy ss ts → DescribedBy s t

  -- each term by its skeleton
  pub data AllDescribedBy : List Skeleton → List Term → Type 0 where
    none : AllDescribedBy [] []
    more : {s : Skeleton} {t : Term} {ss : List Skeleton} {ts : List Term} → DescribedBy s t → AllDescribedBy ss ts → AllDescribedBy (s ∷ ss) (t ∷ ts)
