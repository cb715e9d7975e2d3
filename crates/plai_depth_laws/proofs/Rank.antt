-- The rank falls with each strict growth.
use Rattle.std.proofs.Common.{◌≡◌, ◌⊎◌, inl, inr, ℕ, ◌+◌, ◌<◌, ℤ, List, ◌∷◌, refl, sym, ap, ◌∙◌, arith, rules}
use Rattle.plai_terms.specs.declared.skeleton.Skeleton.{Skeleton, out-Skeleton, Any, Integer, Int, Atom, Compound, the_lemmas}
use Rattle.plai_terms.specs.declared.skeleton.Skeleton.TheOpen.{Skeleton-F}
use Rattle.plai_depth_laws.specs.Order.{IsUnder, same, any, integer, compound, AreUnder, none, more}
use Rattle.plai_depth_laws.specs.Operations.{rank, rank_of}
use Rattle.plai_depth_laws.proofs.Equations.{is-Any, is-Integer, is-Int, is-Atom, is-Compound}

rank-Any : rank Any ≡ 0
rank-Any = search (rules, the_lemmas)

rank-Integer : rank Integer ≡ 1
rank-Integer = search (rules, the_lemmas)

rank-Int : (n : ℤ) → rank (Int n) ≡ 2
rank-Int n = search (rules, the_lemmas)

rank-Atom : (a : List ℕ) → rank (Atom a) ≡ 2
rank-Atom a = search (rules, the_lemmas)

rank-Compound : (name : List ℕ) (args : List Skeleton) → rank (Compound name args) ≡ 1 + rank_of args
rank-Compound name args = search (rules, the_lemmas)

abbrev Falls : Skeleton → Skeleton → Type 0
Falls s t = (s ≡ t) ⊎ (rank t < rank s)

to_any : (s t : Skeleton) (x : Skeleton-F Skeleton) → out-Skeleton s ≡ x → out-Skeleton t ≡ Skeleton-F.Any → Falls s t
to_any s t Skeleton-F.Any e f = inl (is-Any s e ∙ sym (is-Any t f))
to_any s t Skeleton-F.Integer e f =
    let p : rank s ≡ 1 = ap rank (is-Integer s e) ∙ rank-Integer in
    let q : rank t ≡ 0 = ap rank (is-Any t f) ∙ rank-Any in
    let less : rank t < rank s = omega arith in
    inr less
to_any s t (Skeleton-F.Int n) e f =
    let p : rank s ≡ 2 = ap rank (is-Int s n e) ∙ rank-Int n in
    let q : rank t ≡ 0 = ap rank (is-Any t f) ∙ rank-Any in
    let less : rank t < rank s = omega arith in
    inr less
to_any s t (Skeleton-F.Atom a) e f =
    let p : rank s ≡ 2 = ap rank (is-Atom s a e) ∙ rank-Atom a in
    let q : rank t ≡ 0 = ap rank (is-Any t f) ∙ rank-Any in
    let less : rank t < rank s = omega arith in
    inr less
to_any s t (Skeleton-F.Compound name ss) e f =
    let p : rank s ≡ 1 + rank_of ss = ap rank (is-Compound s name ss e) ∙ rank-Compound name ss in
    let q : rank t ≡ 0 = ap rank (is-Any t f) ∙ rank-Any in
    let less : rank t < rank s = omega arith in
    inr less

compounds_fall : (s t : Skeleton) (name : List ℕ) (ss ts : List Skeleton) → out-Skeleton s ≡ Skeleton-F.Compound name ss
    → out-Skeleton t ≡ Skeleton-F.Compound name ts
    → (ss ≡ ts) ⊎ (rank_of ts < rank_of ss) → Falls s t
compounds_fall s t name ss ts e f (inl h) = inl (is-Compound s name ss e ∙ ap (Compound name) h ∙ sym (is-Compound t name ts f))
compounds_fall s t name ss ts e f (inr h) =
    let p : rank s ≡ 1 + rank_of ss = ap rank (is-Compound s name ss e) ∙ rank-Compound name ss in
    let q : rank t ≡ 1 + rank_of ts = ap rank (is-Compound t name ts f) ∙ rank-Compound name ts in
    let less : rank t < rank s = omega arith in
    inr less

rank_of-more : (s : Skeleton) (ss : List Skeleton) → rank_of (s ∷ ss) ≡ rank s + rank_of ss
rank_of-more s ss = refl

more_fall : (s t : Skeleton) (ss ts : List Skeleton) → Falls s t → (ss ≡ ts) ⊎ (rank_of ts < rank_of ss)
    → (◌≡◌ {A = List Skeleton} (s ∷ ss) (t ∷ ts)) ⊎ (rank_of (t ∷ ts) < rank_of (s ∷ ss))
more_fall s t ss ts (inl a) (inl b) = inl (λ i. a i ∷ b i)
more_fall s t ss ts (inl a) (inr b) = let e = ap rank a in let less : rank_of (t ∷ ts) < rank_of (s ∷ ss) =
    omega (arith, rank_of-more s ss, rank_of-more t ts) in inr less
more_fall s t ss ts (inr a) (inl b) = let e = ap rank_of b in let less : rank_of (t ∷ ts) < rank_of (s ∷ ss) =
    omega (arith, rank_of-more s ss, rank_of-more t ts) in inr less
more_fall s t ss ts (inr a) (inr b) = let less : rank_of (t ∷ ts) < rank_of (s ∷ ss) = omega (arith, rank_of-more s ss, rank_of-more t ts) in inr less

mutual
  pub rank_falls : {s t : Skeleton} → IsUnder s t → (s ≡ t) ⊎ (rank t < rank s)
  rank_falls (same e) = inl e
  rank_falls {s} {t} (any e) = to_any s t (out-Skeleton s) refl e
  rank_falls {s} {t} (integer n e f) =
      let p : rank s ≡ 2 = ap rank (is-Int s n e) ∙ rank-Int n in
      let q : rank t ≡ 1 = ap rank (is-Integer t f) ∙ rank-Integer in
      let less : rank t < rank s = omega arith in
      inr less
  rank_falls {s} {t} (compound name ss ts e f ps) = compounds_fall s t name ss ts e f (ranks_fall ps)

  pub ranks_fall : {ss ts : List Skeleton} → AreUnder ss ts → (ss ≡ ts) ⊎ (rank_of ts < rank_of ss)
  ranks_fall none = inl refl
  ranks_fall (more {s} {t} {ss} {ts} p ps) = more_fall s t ss ts (rank_falls p) (ranks_fall ps)
