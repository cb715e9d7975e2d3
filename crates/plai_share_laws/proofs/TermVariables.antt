-- The variables of a term under a substitution.
use Rattle.std.proofs.Common.{◌≡◌, ℕ, ℤ, true, false, List, map, Some, None, refl, sym, ap, ◌∙◌, rules}
use Rattle.std.proofs.lemmas.Bool.{eq-eqb, eqb-true}
use Rattle.plai_terms.specs.Term.{occurs}
use Rattle.plai_terms.proofs.Terms.{induction}
use Rattle.plai_terms.specs.declared.term.Term.{Term, Var, Int, Atom, Compound, the_lemmas}
use Rattle.plai_terms.specs.Substitution.{under}
use Rattle.plai_terms.proofs.Under.{under-Var, under-Compound, occurs-Var}
use Rattle.plai_share_laws.specs.Sides.{variable_of}

occurs-Int : (w : ℕ) (n : ℤ) → occurs w (Int n) ≡ false
occurs-Int w n = search (rules, the_lemmas)

occurs-Atom : (w : ℕ) (a : List ℕ) → occurs w (Atom a) ≡ false
occurs-Atom w a = search (rules, the_lemmas)

pub variable_of-Var : (v : ℕ) → variable_of (Var v) ≡ Some v
variable_of-Var v = search (rules, the_lemmas)

pub variable_of-Int : (n : ℤ) → variable_of (Int n) ≡ None
variable_of-Int n = search (rules, the_lemmas)

variable_of-Atom : (a : List ℕ) → variable_of (Atom a) ≡ None
variable_of-Atom a = search (rules, the_lemmas)

pub variable_of-Compound : (name : List ℕ) (args : List Term) → variable_of (Compound name args) ≡ None
variable_of-Compound name args = search (rules, the_lemmas)

under-Int : (f : ℕ → Term) (n : ℤ) → under f (Int n) ≡ Int n
under-Int f n = search (rules, the_lemmas)

pub under-Atom : (f : ℕ → Term) (a : List ℕ) → under f (Atom a) ≡ Atom a
under-Atom f a = search (rules, the_lemmas)

module _ (f : ℕ → Term) where
  -- which term is a variable
  abbrev Variable : Term → Type 0
  Variable t = (u : ℕ) → variable_of (under f t) ≡ Some u → (v : ℕ) × (variable_of t ≡ Some v) × (variable_of (f v) ≡ Some u)

  pub from_variable : (t : Term) → Variable t
  from_variable = induction Variable
      (λ v u e. (v, variable_of-Var v, ap variable_of (sym (under-Var f v)) ∙ e))
      (λ n u e. let z = ap variable_of (under-Int f n) ∙ variable_of-Int n in cc)
      (λ a u e. let z = ap variable_of (under-Atom f a) ∙ variable_of-Atom a in cc)
      (λ name args h u e. let z = ap variable_of (under-Compound f name args) ∙ variable_of-Compound name (map (under f) args) in cc)

-- a term that is a variable
abbrev IsThat : Term → Type 0
IsThat t = (v : ℕ) → variable_of t ≡ Some v → t ≡ Var v

same_some : (a b : ℕ) → Some a ≡ Some b → a ≡ b
same_some a b e = cc

pub is_that : (t : Term) → IsThat t
is_that = induction IsThat
    (λ u v e. ap Var (same_some u v (sym (variable_of-Var u) ∙ e)))
    (λ n v e. let z = variable_of-Int n in cc)
    (λ a v e. let z = variable_of-Atom a in cc)
    (λ name args h v e. let z = variable_of-Compound name args in cc)

pub to_variable : (f : ℕ → Term) (t : Term) (v u : ℕ) → variable_of t ≡ Some v → variable_of (f v) ≡ Some u → variable_of (under f t) ≡ Some u
to_variable f t v u e p = ap (λ (x : Term). variable_of (under f x)) (is_that t v e) ∙ ap variable_of (under-Var f v) ∙ p

pub alone : (t : Term) (v w : ℕ) → variable_of t ≡ Some v → occurs w t ≡ true → w ≡ v
alone t v w e o = eqb-true w v (sym (occurs-Var w v) ∙ sym (ap (occurs w) (is_that t v e)) ∙ o)

pub itself : (t : Term) (v : ℕ) → variable_of t ≡ Some v → occurs v t ≡ true
itself t v e = ap (occurs v) (is_that t v e) ∙ occurs-Var v v ∙ eq-eqb v v refl
