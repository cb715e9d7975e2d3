-- A skeleton describes a term where the term's own skeleton, with `any` for its variables, lies at or below it.
use Rattle.std.proofs.Common.{◌≡◌, inl, inr, ℕ, ℤ, List, [], ◌∷◌, map, sym, ap, ◌∙◌, rules}
use Rattle.std.specs.List.{AllByRecursion}
use Rattle.plai_terms.specs.declared.term.Term.{Term, out-Term, roll-Term, roll-out-Term, Var, Int as number_term, Atom as constant, Compound as structure}
use Rattle.plai_terms.specs.declared.term.Term.{the_lemmas}
use Rattle.plai_terms.specs.declared.term.Term.TheOpen.{Term-F}
use Rattle.plai_terms.specs.declared.term.Term.TheVariants.{rolls-Int, rolls-Atom, rolls-Compound, outs-Int as outs-number, outs-Atom as outs-constant}
use Rattle.plai_terms.specs.declared.term.Term.TheVariants.{outs-Compound as outs-structure}
use Rattle.plai_terms.specs.Substitution.{under}
use Rattle.plai_terms.proofs.Terms.{induction}
use Rattle.plai_terms.proofs.Under.{under-Compound}
use Rattle.plai_terms.specs.declared.skeleton.Skeleton.{Skeleton, out-Skeleton}
use Rattle.plai_terms.specs.declared.skeleton.Skeleton.TheOpen.{Skeleton-F}
use Rattle.plai_terms.specs.declared.skeleton.Skeleton.TheVariants.{outs-Any, outs-Int, outs-Atom, outs-Compound}
use Rattle.plai_depth_laws.specs.Moves.{pull}
use Rattle.plai_depth_laws.specs.Order.{IsUnder, AreUnder}
use Rattle.plai_depth_laws.specs.Described.{DescribedBy, any, integer, number, atom, compound, AllDescribedBy, none, more}
use Rattle.plai_depth_laws.proofs.Equations.{same_layer}
use Rattle.plai_depth_laws.proofs.Order.{over_compound, over_any, over_number, over_atom}
use Rattle.plai_depth_laws.proofs.Moves.{pull-Var, pull-Int, pull-Atom, pull-Compound}

-- the term's own skeleton
abbrev pub shape : Term → Skeleton
shape = pull []

pub shape-Var : (v : ℕ) → out-Skeleton (shape (Var v)) ≡ Skeleton-F.Any
shape-Var v = ap out-Skeleton (pull-Var [] v) ∙ outs-Any

-- a term by its level
is_number : (t : Term) (n : ℤ) → out-Term t ≡ Term-F.Int n → t ≡ number_term n
is_number t n e = sym (roll-out-Term t) ∙ ap roll-Term e ∙ rolls-Int n

is_constant : (t : Term) (a : List ℕ) → out-Term t ≡ Term-F.Atom a → t ≡ constant a
is_constant t a e = sym (roll-out-Term t) ∙ ap roll-Term e ∙ rolls-Atom a

is_structure : (t : Term) (name : List ℕ) (args : List Term) → out-Term t ≡ Term-F.Compound name args → t ≡ structure name args
is_structure t name args e = sym (roll-out-Term t) ∙ ap roll-Term e ∙ rolls-Compound name args

shape_of_number : (t : Term) (n : ℤ) → out-Term t ≡ Term-F.Int n → out-Skeleton (shape t) ≡ Skeleton-F.Int n
shape_of_number t n e = ap (λ t. out-Skeleton (shape t)) (is_number t n e) ∙ ap out-Skeleton (pull-Int [] n) ∙ outs-Int n

shape_of_constant : (t : Term) (a : List ℕ) → out-Term t ≡ Term-F.Atom a → out-Skeleton (shape t) ≡ Skeleton-F.Atom a
shape_of_constant t a e = ap (λ t. out-Skeleton (shape t)) (is_constant t a e) ∙ ap out-Skeleton (pull-Atom [] a) ∙ outs-Atom a

shape_of_structure : (t : Term) (name : List ℕ) (args : List Term) → out-Term t ≡ Term-F.Compound name args
    → out-Skeleton (shape t) ≡ Skeleton-F.Compound name (map shape args)
shape_of_structure t name args e =
    ap (λ t. out-Skeleton (shape t)) (is_structure t name args e) ∙ ap out-Skeleton (pull-Compound [] name args) ∙ outs-Compound name (map shape args)

-- ---- from the description to the order

mutual
  pub described_under : {s : Skeleton} {t : Term} → DescribedBy s t → IsUnder (shape t) s
  described_under (any e) = IsUnder.any e
  described_under {s} {t} (integer n e f) = IsUnder.integer n (shape_of_number t n f) e
  described_under {s} {t} (number n e f) = IsUnder.same (same_layer (shape t) s (shape_of_number t n f ∙ sym e))
  described_under {s} {t} (atom a e f) = IsUnder.same (same_layer (shape t) s (shape_of_constant t a f ∙ sym e))
  described_under {s} {t} (compound name ss ts e f ps) = IsUnder.compound name (map shape ts) ss (shape_of_structure t name ts f) e (all_described_under ps)

  pub all_described_under : {ss : List Skeleton} {ts : List Term} → AllDescribedBy ss ts → AreUnder (map shape ts) ss
  all_described_under none = AreUnder.none
  all_described_under (more p ps) = AreUnder.more (described_under p) (all_described_under ps)

-- ---- and back

abbrev Back : Term → Type 0
Back t = (s : Skeleton) → IsUnder (shape t) s → DescribedBy s t

all_back : (ts : List Term) → AllByRecursion Back ts → (ss : List Skeleton) → AreUnder (map shape ts) ss → AllDescribedBy ss ts
all_back [] h ss AreUnder.none = none
all_back (t ∷ ts) h ss (AreUnder.more {t = s} p ps) = more (h.0 s p) (all_back ts h.1 _ ps)

pub under_described : (t : Term) (s : Skeleton) → IsUnder (shape t) s → DescribedBy s t
under_described = induction Back
    (λ v s p. any (over_any p (shape-Var v)))
    (λ n s p. elim (over_number n p (shape_of_number (number_term n) n (outs-number n))) [
      | inl e ↦ any e
      | inr r ↦ elim r [ inl e ↦ integer n e (outs-number n) | inr e ↦ number n e (outs-number n) ]
    ])
    (λ a s p. elim (over_atom a p (shape_of_constant (constant a) a (outs-constant a))) [
      | inl e ↦ any e
      | inr e ↦ atom a e (outs-constant a)
    ])
    (λ name args h s p. elim (over_compound name (map shape args) p (shape_of_structure (structure name args) name args (outs-structure name args))) [
      | inl e ↦ any e
      | inr r ↦ compound name r.args args r.is (outs-structure name args) (all_back args h r.args r.under)
    ])

pub all_under_described : (ts : List Term) (ss : List Skeleton) → AreUnder (map shape ts) ss → AllDescribedBy ss ts
all_under_described [] ss AreUnder.none = none
all_under_described (t ∷ ts) ss (AreUnder.more {t = s} p ps) = more (under_described t s p) (all_under_described ts _ ps)

-- ---- instances

-- an instance's own skeleton lies at or below the term's
module _ (f : ℕ → Term) where
  abbrev Lies : Term → Type 0
  Lies t = IsUnder (shape (under f t)) (shape t)

  all_lie : (args : List Term) → AllByRecursion Lies args → AreUnder (map shape (map (under f) args)) (map shape args)
  all_lie [] h = AreUnder.none
  all_lie (a ∷ args) h = AreUnder.more h.0 (all_lie args h.1)

  pub instance_under : (t : Term) → IsUnder (shape (under f t)) (shape t)
  instance_under = induction Lies
      (λ v. IsUnder.any (shape-Var v))
      (λ n. let e : under f (number_term n) ≡ number_term n = search (rules, the_lemmas) in IsUnder.same (ap shape e))
      (λ a. let e : under f (constant a) ≡ constant a = search (rules, the_lemmas) in IsUnder.same (ap shape e))
      (λ name args h. IsUnder.compound name (map shape (map (under f) args)) (map shape args)
      (ap (λ t. out-Skeleton (shape t)) (under-Compound f name args)
      ∙ shape_of_structure (structure name (map (under f) args)) name (map (under f) args) (outs-structure name (map (under f) args)))
      (shape_of_structure (structure name args) name args (outs-structure name args))
      (all_lie args h))
