-- Numbers above all variables of terms and of bindings.
use Rattle.std.proofs.Common.{◌≡◌, inl, inr, ℕ, suc, ◌<◌, ◌≤◌, true, false, cond, eqb, List, [], ◌∷◌, map, sym, ap, ◌∙◌, rules, arith}
use Rattle.std.specs.List.{AllByRecursion}
use Rattle.plai_terms.specs.Term.{occurs}
use Rattle.plai_terms.specs.Subst.{bound_to}
use Rattle.plai_terms.proofs.Terms.{induction}
use Rattle.plai_terms.specs.declared.term.Term.{Term, Var, Int, Atom, Compound, the_lemmas}
use Rattle.plai_terms.specs.Substitution.{occurs_in, IsBelow, AreBelow}
use Rattle.plai_terms.specs.Unification.{Bindings}
use Rattle.plai_terms.proofs.Under.{or_cases, decided, occurs-Var_same, occurs-args}
use Rattle.plai_sld.specs.Limits.{highest, limit_of, limit_in}
use Rattle.plai_sld.specs.Limits.{past}

pub limit_of-Var : (v : ℕ) → limit_of (Var v) ≡ suc v
limit_of-Var v = search (rules, the_lemmas)

pub limit_of-Compound : (name : List ℕ) (args : List Term) → limit_of (Compound name args) ≡ highest (map limit_of args)
limit_of-Compound name args = search (rules, the_lemmas)

highest_in : (args : List Term) → AllByRecursion (λ t. IsBelow (limit_of t) t) args → AreBelow (highest (map limit_of args)) args
highest_in [] h v o = cc
highest_in (a ∷ args) h v o =
    elim (or_cases (occurs v a) (occurs_in v args) o) [
      | inl p ↦ let l : v < limit_of a = h.0 v p in omega arith
      | inr p ↦ let l : v < highest (map limit_of args) = highest_in args h.1 v p in omega arith
    ]

pub limit_above : (t : Term) → IsBelow (limit_of t) t
limit_above = induction (λ t. IsBelow (limit_of t) t)
    (λ u v o. let e : v ≡ u = occurs-Var_same v u o in let l : limit_of (Var u) ≡ suc u = limit_of-Var u in omega arith)
    (λ n v o. let no : occurs v (Int n) ≡ false = search (rules, the_lemmas) in cc)
    (λ a v o. let no : occurs v (Atom a) ≡ false = search (rules, the_lemmas) in cc)
    (λ name args h v o.
    let l : v < highest (map limit_of args) = highest_in args h v (sym (occurs-args v name args) ∙ o) in
    let e : limit_of (Compound name args) ≡ highest (map limit_of args) = limit_of-Compound name args in
    omega arith)

pub limits_above : (ts : List Term) → AreBelow (limit_in ts) ts
limits_above [] v o = cc
limits_above (t ∷ ts) v o =
    elim (or_cases (occurs v t) (occurs_in v ts) o) [
      | inl p ↦ let l : v < limit_of t = limit_above t v p in omega arith
      | inr p ↦ let l : v < limit_in ts = limits_above ts v p in omega arith
    ]

pub past_le : (n : ℕ) (s : Bindings) → n ≤ past n s
past_le n [] = omega arith
past_le n (b ∷ bs) = let l : n ≤ past n bs = past_le n bs in omega arith

pub past_brought : (n : ℕ) (s : Bindings) (v : ℕ) → v < n → IsBelow (past n s) (bound_to s v)
past_brought n [] v lt w o = let e : w ≡ v = occurs-Var_same w v o in omega arith
past_brought n (b ∷ bs) v lt w o =
    elim (decided (eqb b.0 v)) [
      | inl e ↦
          let at : occurs w b.1 ≡ true = ap (λ q. occurs w (cond q b.1 (bound_to bs v))) (sym e) ∙ o in
          let l : w < limit_of b.1 = limit_above b.1 w at in
          omega arith
      | inr e ↦
          let at : occurs w (bound_to bs v) ≡ true = ap (λ q. occurs w (cond q b.1 (bound_to bs v))) (sym e) ∙ o in
          let l : w < past n bs = past_brought n bs v lt w at in
          omega arith
    ]
