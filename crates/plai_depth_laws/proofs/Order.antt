-- The order of skeletons is one.
use Rattle.std.proofs.Common.{◌≡◌, ◌⊎◌, inl, inr, ℕ, suc, ℤ, List, [], ◌∷◌, length, refl, sym, ap, ◌∙◌, subst}
use Rattle.plai_terms.specs.declared.skeleton.Skeleton.{Skeleton, out-Skeleton}
use Rattle.plai_terms.specs.declared.skeleton.Skeleton.TheOpen.{Skeleton-F}
use Rattle.plai_depth_laws.specs.Order.{IsUnder, same, any, integer, compound, AreUnder, none, more}
use Rattle.plai_depth_laws.proofs.Equations.{same_layer}

pub refl_all : (ss : List Skeleton) → AreUnder ss ss
refl_all [] = none
refl_all (s ∷ ss) = more (same refl) (refl_all ss)

pub length-AreUnder : {ss ts : List Skeleton} → AreUnder ss ts → length ss ≡ length ts
length-AreUnder none = refl
length-AreUnder (more p ps) = ap suc (length-AreUnder ps)

mutual
  pub IsUnder-trans : {s t u : Skeleton} → IsUnder s t → IsUnder t u → IsUnder s u
  IsUnder-trans {s} {t} {u} (same e) q = subst (λ x. IsUnder x u) (sym e) q
  IsUnder-trans {s} {t} {u} p (same e) = subst (IsUnder s) e p
  IsUnder-trans p (any e) = any e
  IsUnder-trans (any e) (integer n f g) = absurd cc
  IsUnder-trans (any e) (compound name ss ts f g qs) = absurd cc
  IsUnder-trans (integer n e f) (integer m g h) = absurd cc
  IsUnder-trans (integer n e f) (compound name ss ts g h qs) = absurd cc
  IsUnder-trans (compound name ss ts e f ps) (integer m g h) = absurd cc
  IsUnder-trans (compound name ss ts e f ps) (compound name' ts' us g h qs) =
      let a : ts' ≡ ts = cc in
      let b : name' ≡ name = cc in
      compound name ss us e (h ∙ ap (λ n. Skeleton-F.Compound n us) b) (AreUnder-trans ps (subst (λ x. AreUnder x us) a qs))

  pub AreUnder-trans : {ss ts us : List Skeleton} → AreUnder ss ts → AreUnder ts us → AreUnder ss us
  AreUnder-trans none none = none
  AreUnder-trans (more p ps) (more q qs) = more (IsUnder-trans p q) (AreUnder-trans ps qs)

mutual
  pub IsUnder-antisym : {s t : Skeleton} → IsUnder s t → IsUnder t s → s ≡ t
  IsUnder-antisym (same e) q = e
  IsUnder-antisym p (same e) = sym e
  IsUnder-antisym {s} {t} (any e) (any f) = same_layer s t (f ∙ sym e)
  IsUnder-antisym (any e) (integer n f g) = absurd cc
  IsUnder-antisym (any e) (compound name ss ts f g qs) = absurd cc
  IsUnder-antisym (integer n e f) (any g) = absurd cc
  IsUnder-antisym (integer n e f) (integer m g h) = absurd cc
  IsUnder-antisym (integer n e f) (compound name ss ts g h qs) = absurd cc
  IsUnder-antisym (compound name ss ts e f ps) (any g) = absurd cc
  IsUnder-antisym (compound name ss ts e f ps) (integer m g h) = absurd cc
  IsUnder-antisym {s} {t} (compound name ss ts e f ps) (compound name' ts' ss' g h qs) =
      let a : ts' ≡ ts = cc in
      let b : ss' ≡ ss = cc in
      let c : ss ≡ ts = AreUnder-antisym ps (subst (λ x. AreUnder x ss) a (subst (AreUnder ts') b qs)) in
      same_layer s t (e ∙ ap (Skeleton-F.Compound name) c ∙ sym f)

  pub AreUnder-antisym : {ss ts : List Skeleton} → AreUnder ss ts → AreUnder ts ss → ss ≡ ts
  AreUnder-antisym none none = refl
  AreUnder-antisym (more p ps) (more q qs) = let a = IsUnder-antisym p q in let b = AreUnder-antisym ps qs in λ i. a i ∷ b i

-- ---- what lies below an integer or an atom, and above a compound

pub under_number : {m s : Skeleton} (n : ℤ) → IsUnder m s → out-Skeleton s ≡ Skeleton-F.Int n → m ≡ s
under_number n (same e) i = e
under_number n (any e) i = absurd cc
under_number n (integer m e f) i = absurd cc
under_number n (compound name ss ts e f ps) i = absurd cc

pub under_atom : {m s : Skeleton} (a : List ℕ) → IsUnder m s → out-Skeleton s ≡ Skeleton-F.Atom a → m ≡ s
under_atom a (same e) i = e
under_atom a (any e) i = absurd cc
under_atom a (integer m e f) i = absurd cc
under_atom a (compound name ss ts e f ps) i = absurd cc

-- it is `any`, or a compound of the same functor with arguments above
abbrev pub Over : List ℕ → List Skeleton → Skeleton → Type 0
Over name ss t = (out-Skeleton t ≡ Skeleton-F.Any)
    ⊎ record { args : List Skeleton; is : out-Skeleton t ≡ Skeleton-F.Compound name args; under : AreUnder ss args }

pub over_compound : {s t : Skeleton} (name : List ℕ) (ss : List Skeleton) → IsUnder s t → out-Skeleton s ≡ Skeleton-F.Compound name ss → Over name ss t
over_compound name ss (same e) i = inr (record { args = ss; is = ap out-Skeleton (sym e) ∙ i; under = refl_all ss })
over_compound name ss (any e) i = inl e
over_compound name ss (integer m e f) i = absurd cc
over_compound name ss (compound other ss' ts e f ps) i =
    let a : other ≡ name = cc in
    let b : ss' ≡ ss = cc in
    inr (record { args = ts; is = f ∙ ap (λ n. Skeleton-F.Compound n ts) a; under = subst (λ l. AreUnder l ts) b ps })

-- above `any` there is `any` alone
pub over_any : {s t : Skeleton} → IsUnder s t → out-Skeleton s ≡ Skeleton-F.Any → out-Skeleton t ≡ Skeleton-F.Any
over_any (same e) i = ap out-Skeleton (sym e) ∙ i
over_any (any e) i = e
over_any (integer m e f) i = absurd cc
over_any (compound name ss ts e f ps) i = absurd cc

pub over_number : {s t : Skeleton} (n : ℤ) → IsUnder s t → out-Skeleton s ≡ Skeleton-F.Int n
    → (out-Skeleton t ≡ Skeleton-F.Any) ⊎ ((out-Skeleton t ≡ Skeleton-F.Integer) ⊎ (out-Skeleton t ≡ Skeleton-F.Int n))
over_number n (same e) i = inr (inr (ap out-Skeleton (sym e) ∙ i))
over_number n (any e) i = inl e
over_number n (integer m e f) i = inr (inl f)
over_number n (compound name ss ts e f ps) i = absurd cc

pub over_atom : {s t : Skeleton} (a : List ℕ) → IsUnder s t → out-Skeleton s ≡ Skeleton-F.Atom a
    → (out-Skeleton t ≡ Skeleton-F.Any) ⊎ (out-Skeleton t ≡ Skeleton-F.Atom a)
over_atom a (same e) i = inr (ap out-Skeleton (sym e) ∙ i)
over_atom a (any e) i = inl e
over_atom a (integer m e f) i = absurd cc
over_atom a (compound name ss ts e f ps) i = absurd cc
