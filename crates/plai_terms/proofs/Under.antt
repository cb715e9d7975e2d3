-- Laws of substitutions as functions, and of the variables of terms.
use Rattle.std.proofs.Common.{◌≡◌, ◌⊎◌, inl, inr, ℕ, Bool, true, false, ◌||◌, List, [], ◌∷◌, map, refl, sym, ap, ◌∙◌, rules, nat_eq, eqb, cond}
use Rattle.std.specs.List.{list_any, AllByRecursion}
use Rattle.std.proofs.lemmas.Bool.{eqb-true}
use Rattle.plai_terms.specs.Term.{occurs}
use Rattle.plai_terms.specs.Subst.{bound_to, apply_of, composed}
use Rattle.plai_terms.proofs.Terms.{induction, occurs-Compound}
use Rattle.plai_terms.proofs.Substs.{apply_of-Var}
use Rattle.plai_terms.specs.declared.term.Term.{Term, Var, Int, Atom, Compound, the_lemmas}
use Rattle.plai_terms.specs.Substitution.{under, then_also, occurs_in}

pub under-Var : (f : ℕ → Term) (v : ℕ) → under f (Var v) ≡ f v
under-Var f v = search (rules, the_lemmas)

pub under-Compound : (f : ℕ → Term) (name : List ℕ) (args : List Term) → under f (Compound name args) ≡ Compound name (map (under f) args)
under-Compound f name args = search (rules, the_lemmas)

pub occurs-Var : (v w : ℕ) → occurs v (Var w) ≡ nat_eq v w
occurs-Var v w = search (rules, the_lemmas)

pub occurs-Var_same : (v w : ℕ) → occurs v (Var w) ≡ true → v ≡ w
occurs-Var_same v w e = eqb-true v w (sym (occurs-Var v w) ∙ e)

any_in : (v : ℕ) (args : List Term) → list_any (λ b. b) (map (occurs v) args) ≡ occurs_in v args
any_in v [] = refl
any_in v (a ∷ args) = ap (λ b. occurs v a || b) (any_in v args)

pub occurs-args : (v : ℕ) (name : List ℕ) (args : List Term) → occurs v (Compound name args) ≡ occurs_in v args
occurs-args v name args = occurs-Compound v name args ∙ any_in v args

-- tests
pub or_cases : (p q : Bool) → (p || q) ≡ true → (p ≡ true) ⊎ (q ≡ true)
or_cases true q e = inl refl
or_cases false q e = inr e

pub or_first : (p q : Bool) → p ≡ true → (p || q) ≡ true
or_first true q e = refl
or_first false q e = cc

pub or_second : (p q : Bool) → q ≡ true → (p || q) ≡ true
or_second true q e = refl
or_second false q e = e

pub or_none : (p q : Bool) → (p || q) ≡ false → (p ≡ false) × (q ≡ false)
or_none true q e = cc
or_none false q e = (refl, e)

pub decided : (b : Bool) → (b ≡ true) ⊎ (b ≡ false)
decided true = inl refl
decided false = inr refl

-- f and g agree at the variables of a term
module _ (f g : ℕ → Term) where
  abbrev Agrees : Term → Type 0
  Agrees t = ((v : ℕ) → occurs v t ≡ true → f v ≡ g v) → under f t ≡ under g t

  agree_all : (args : List Term) → AllByRecursion Agrees args → ((v : ℕ) → occurs_in v args ≡ true → f v ≡ g v) → map (under f) args ≡ map (under g) args
  agree_all [] h e = refl
  agree_all (a ∷ args) h e =
      let p = h.0 (λ v o. e v (or_first (occurs v a) (occurs_in v args) o)) in
      let q = agree_all args h.1 (λ v o. e v (or_second (occurs v a) (occurs_in v args) o)) in
      cc

  pub under_same : (t : Term) → ((v : ℕ) → occurs v t ≡ true → f v ≡ g v) → under f t ≡ under g t
  under_same = induction Agrees
      (λ v e. let o : occurs v (Var v) ≡ true = search (rules, the_lemmas) in under-Var f v ∙ e v o ∙ sym (under-Var g v))
      (λ n e. search (rules, the_lemmas))
      (λ a e. search (rules, the_lemmas))
      (λ name args h e. under-Compound f name args ∙ ap (Compound name) (agree_all args h (λ v o. e v (occurs-args v name args ∙ o)))
      ∙ sym (under-Compound g name args))

pub under_same_all : (f g : ℕ → Term) (ts : List Term) → ((v : ℕ) → occurs_in v ts ≡ true → f v ≡ g v) → map (under f) ts ≡ map (under g) ts
under_same_all f g [] e = refl
under_same_all f g (a ∷ args) e =
    let p = under_same f g a (λ v o. e v (or_first (occurs v a) (occurs_in v args) o)) in
    let q = under_same_all f g args (λ v o. e v (or_second (occurs v a) (occurs_in v args) o)) in
    cc

-- one after the other
module _ (f g : ℕ → Term) where
  abbrev Chains : Term → Type 0
  Chains t = under g (under f t) ≡ under (then_also f g) t

  chain_all : (args : List Term) → AllByRecursion Chains args → map (under g) (map (under f) args) ≡ map (under (then_also f g)) args
  chain_all [] h = refl
  chain_all (a ∷ args) h = let p = h.0 in let q = chain_all args h.1 in cc

  pub under_under : (t : Term) → under g (under f t) ≡ under (then_also f g) t
  under_under = induction Chains
      (λ v. ap (under g) (under-Var f v) ∙ sym (under-Var (then_also f g) v))
      (λ n. search (rules, the_lemmas))
      (λ a. search (rules, the_lemmas))
      (λ name args h.
      ap (under g) (under-Compound f name args)
      ∙ under-Compound g name (map (under f) args)
      ∙ ap (Compound name) (chain_all args h)
      ∙ sym (under-Compound (then_also f g) name args))

pub under_under_all : (f g : ℕ → Term) (ts : List Term) → map (under g) (map (under f) ts) ≡ map (under (then_also f g)) ts
under_under_all f g [] = refl
under_under_all f g (a ∷ args) = let p = under_under f g a in let q = under_under_all f g args in cc

-- the substitution that moves nothing
abbrev Rests : Term → Type 0
Rests t = under Var t ≡ t

rest_all : (args : List Term) → AllByRecursion Rests args → map (under Var) args ≡ args
rest_all [] h = refl
rest_all (a ∷ args) h = let p = h.0 in let q = rest_all args h.1 in cc

pub under_Var : (t : Term) → under Var t ≡ t
under_Var = induction Rests
    (λ v. under-Var Var v)
    (λ n. search (rules, the_lemmas))
    (λ a. search (rules, the_lemmas))
    (λ name args h. under-Compound Var name args ∙ ap (Compound name) (rest_all args h))

pub under_Var_all : (ts : List Term) → map (under Var) ts ≡ ts
under_Var_all [] = refl
under_Var_all (a ∷ args) = let p = under_Var a in let q = under_Var_all args in cc

-- a variable of a term under f is one of f at a variable of the term
abbrev pub Source : (ℕ → Term) → ℕ → Term → Type 0
Source f w t = (v : ℕ) × (occurs v t ≡ true) × (occurs w (f v) ≡ true)

abbrev pub SourceIn : (ℕ → Term) → ℕ → List Term → Type 0
SourceIn f w ts = (v : ℕ) × (occurs_in v ts ≡ true) × (occurs w (f v) ≡ true)

module _ (f : ℕ → Term) (w : ℕ) where
  abbrev Comes : Term → Type 0
  Comes t = occurs w (under f t) ≡ true → Source f w t

  comes_all : (args : List Term) → AllByRecursion Comes args → occurs_in w (map (under f) args) ≡ true → SourceIn f w args
  comes_all [] h e = cc
  comes_all (a ∷ args) h e =
      elim (or_cases (occurs w (under f a)) (occurs_in w (map (under f) args)) e) [
        | inl o ↦ let (v, i, j) = h.0 o in (v, or_first (occurs v a) (occurs_in v args) i, j)
        | inr o ↦ let (v, i, j) = comes_all args h.1 o in (v, or_second (occurs v a) (occurs_in v args) i, j)
      ]

  pub source : (t : Term) → occurs w (under f t) ≡ true → Source f w t
  source = induction Comes
      (λ v e. let o : occurs v (Var v) ≡ true = search (rules, the_lemmas) in (v, o, ap (occurs w) (sym (under-Var f v)) ∙ e))
      (λ n e. let no : occurs w (under f (Int n)) ≡ false = search (rules, the_lemmas) in cc)
      (λ a e. let no : occurs w (under f (Atom a)) ≡ false = search (rules, the_lemmas) in cc)
      (λ name args h e.
      let (v, i, j) = comes_all args h (sym (ap (occurs w) (under-Compound f name args) ∙ occurs-args w name (map (under f) args)) ∙ e) in
      (v, occurs-args v name args ∙ i, j))

pub source_in : (f : ℕ → Term) (w : ℕ) (ts : List Term) → occurs_in w (map (under f) ts) ≡ true → SourceIn f w ts
source_in f w [] e = cc
source_in f w (a ∷ args) e =
    elim (or_cases (occurs w (under f a)) (occurs_in w (map (under f) args)) e) [
      | inl o ↦ let (v, i, j) = source f w a o in (v, or_first (occurs v a) (occurs_in v args) i, j)
      | inr o ↦ let (v, i, j) = source_in f w args o in (v, or_second (occurs v a) (occurs_in v args) i, j)
    ]

-- and each of those is one
module _ (f : ℕ → Term) (v w : ℕ) (there : occurs w (f v) ≡ true) where
  abbrev Goes : Term → Type 0
  Goes t = occurs v t ≡ true → occurs w (under f t) ≡ true

  goes_all : (args : List Term) → AllByRecursion Goes args → occurs_in v args ≡ true → occurs_in w (map (under f) args) ≡ true
  goes_all [] h e = cc
  goes_all (a ∷ args) h e =
      elim (or_cases (occurs v a) (occurs_in v args) e) [
        | inl o ↦ or_first (occurs w (under f a)) (occurs_in w (map (under f) args)) (h.0 o)
        | inr o ↦ or_second (occurs w (under f a)) (occurs_in w (map (under f) args)) (goes_all args h.1 o)
      ]

  pub reaches : (t : Term) → occurs v t ≡ true → occurs w (under f t) ≡ true
  reaches = induction Goes
      (λ u e. let same = occurs-Var_same v u e in ap (occurs w) (under-Var f u ∙ ap f (sym same)) ∙ there)
      (λ n e. let no : occurs v (Int n) ≡ false = search (rules, the_lemmas) in cc)
      (λ a e. let no : occurs v (Atom a) ≡ false = search (rules, the_lemmas) in cc)
      (λ name args h e. ap (occurs w) (under-Compound f name args) ∙ occurs-args w name (map (under f) args)
      ∙ goes_all args h (sym (occurs-args v name args) ∙ e))

pub reaches_in : (f : ℕ → Term) (v w : ℕ) → occurs w (f v) ≡ true → (ts : List Term) → occurs_in v ts ≡ true → occurs_in w (map (under f) ts) ≡ true
reaches_in f v w there [] e = cc
reaches_in f v w there (a ∷ args) e =
    elim (or_cases (occurs v a) (occurs_in v args) e) [
      | inl o ↦ or_first (occurs w (under f a)) (occurs_in w (map (under f) args)) (reaches f v w there a o)
      | inr o ↦ or_second (occurs w (under f a)) (occurs_in w (map (under f) args)) (reaches_in f v w there args o)
    ]

-- lists of bindings
put_in : (b : Bool) (second : List (ℕ × Term)) (t rest rest' : Term) → rest ≡ apply_of second rest'
    → cond b (apply_of second t) rest ≡ apply_of second (cond b t rest')
put_in true second t rest rest' e = refl
put_in false second t rest rest' e = e

pub under-composed : (first second : List (ℕ × Term)) (v : ℕ) → bound_to (composed first second) v ≡ then_also (bound_to first) (bound_to second) v
under-composed [] second v = sym (apply_of-Var second v)
under-composed (p ∷ ps) second v = put_in (eqb p.0 v) second p.1 _ _ (under-composed ps second v)
