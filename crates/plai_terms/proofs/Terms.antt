-- The equations of the functions over terms, and induction.
use Rattle.std.proofs.Common.{◌≡◌, ℕ, ◌+◌, ℤ, true, max, fold, List, [], ◌∷◌, map, pos, sym, subst, rules}
use Rattle.std.specs.List.{list_any, AllByRecursion}
use Rattle.plai_terms.specs.Term.{depth_of, occurs}
use Rattle.plai_terms.specs.declared.term.Term.{Term, Var, Int, Atom, Compound, ind-Term, map-Term, roll-Term, the_lemmas}
use Rattle.plai_terms.specs.declared.term.Term.TheOpen.{Term-F}
use Rattle.plai_terms.specs.declared.term.Term.TheVariants.{rolls-Var, rolls-Int, rolls-Atom, rolls-Compound}

pub occurs-Compound : (v : ℕ) (name : List ℕ) (args : List Term) → occurs v (Compound name args) ≡ list_any (λ b. b) (map (occurs v) args)
occurs-Compound v name args = search (rules, the_lemmas)

depth_example : depth_of (Compound (102 ∷ []) (Var 1 ∷ Compound (103 ∷ []) (Int (pos 3) ∷ []) ∷ [])) ≡ 3
depth_example = search (rules, the_lemmas)

occurs_example : occurs 1 (Compound (102 ∷ []) (Var 1 ∷ Compound (103 ∷ []) (Int (pos 3) ∷ []) ∷ [])) ≡ true
occurs_example = grind (rules, the_lemmas)

-- An induction over terms: the hypothesis at a compound is that each argument has the property.
module _ (P : Term → Type 0)
    (on_var : (v : ℕ) → P (Var v))
    (on_int : (n : ℤ) → P (Int n))
    (on_atom : (a : List ℕ) → P (Atom a))
    (on_compound : (name : List ℕ) (args : List Term) → AllByRecursion P args → P (Compound name args)) where
  abbrev Proved : Type 0
  Proved = (t : Term) × P t

  all_proved : (es : List Proved) → AllByRecursion P (map (λ e. e.0) es)
  all_proved [] = tt
  all_proved (e ∷ es) = (e.1, all_proved es)

  on_layer : (y : Term-F Proved) → P (roll-Term (map-Term Proved Term (λ e. e.0) y))
  on_layer (Term-F.Var v) = subst P (sym (rolls-Var v)) (on_var v)
  on_layer (Term-F.Int n) = subst P (sym (rolls-Int n)) (on_int n)
  on_layer (Term-F.Atom a) = subst P (sym (rolls-Atom a)) (on_atom a)
  on_layer (Term-F.Compound name es) =
      subst P (sym (rolls-Compound name (map (λ e. e.0) es))) (on_compound name (map (λ e. e.0) es) (all_proved es))

  pub induction : (t : Term) → P t
  induction = ind-Term P (λ x y is. subst (λ z. P (roll-Term z)) is (on_layer y))

-- the arguments of a level
abbrev pub arguments : {A : Type 0} → Term-F A → List A
arguments (Term-F.Compound _ args) = args
arguments _ = []

-- An induction over terms, level by level.
module _ (P : Term → Type 0)
    (on_level : (x : Term-F Term) → AllByRecursion P (arguments x) → P (roll-Term x)) where
  pub induction_by_levels : (t : Term) → P t
  induction_by_levels = induction P
      (λ v. subst P (rolls-Var v) (on_level (Term-F.Var v) tt))
      (λ n. subst P (rolls-Int n) (on_level (Term-F.Int n) tt))
      (λ a. subst P (rolls-Atom a) (on_level (Term-F.Atom a) tt))
      (λ name args h. subst P (rolls-Compound name args) (on_level (Term-F.Compound name args) h))
