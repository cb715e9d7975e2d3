-- Laws of substitutions.
use Rattle.std.proofs.Common.{◌≡◌, ℕ, Bool, true, false, ◌&&◌, cond, eqb, List, [], ◌∷◌, map, refl, sym, ap, ◌∙◌, rules}
use Rattle.std.specs.List.{list_all, AllByRecursion}
use Rattle.plai_terms.specs.Term.{is_ground}
use Rattle.plai_terms.specs.Subst.{bound_to, apply_of, composed}
use Rattle.plai_terms.proofs.Terms.{induction}
use Rattle.plai_terms.specs.declared.term.Term.{Term, Var, Compound, the_lemmas}

pub apply_of-Var : (s : List (ℕ × Term)) (v : ℕ) → apply_of s (Var v) ≡ bound_to s v
apply_of-Var s v = search (rules, the_lemmas)

pub apply_of-Compound : (s : List (ℕ × Term)) (name : List ℕ) (args : List Term) → apply_of s (Compound name args) ≡ Compound name (map (apply_of s) args)
apply_of-Compound s name args = search (rules, the_lemmas)

pub is_ground-Compound : (name : List ℕ) (args : List Term) → is_ground (Compound name args) ≡ list_all (λ b. b) (map is_ground args)
is_ground-Compound name args = search (rules, the_lemmas)

both : (p q : Bool) → (p && q) ≡ true → (p ≡ true) × (q ≡ true)
both true q e = (refl, e)
both false q e = cc

module _ (s : List (ℕ × Term)) where
  abbrev IsKept : Term → Type 0
  IsKept t = is_ground t ≡ true → apply_of s t ≡ t

  all_kept : (args : List Term) → AllByRecursion IsKept args → list_all (λ b. b) (map is_ground args) ≡ true → map (apply_of s) args ≡ args
  all_kept [] h e = refl
  all_kept (a ∷ args) h e =
      let t = both (is_ground a) (list_all (λ b. b) (map is_ground args)) e in
      let p = h.0 t.0 in
      let q = all_kept args h.1 t.1 in
      cc

  -- a ground term stays as it is
  pub apply_of-ground : (t : Term) → is_ground t ≡ true → apply_of s t ≡ t
  apply_of-ground = induction IsKept
      (λ v e. let no : is_ground (Var v) ≡ false = search (rules, the_lemmas) in cc)
      (λ n e. search (rules, the_lemmas))
      (λ a e. search (rules, the_lemmas))
      (λ name args h e. apply_of-Compound s name args ∙ ap (Compound name) (all_kept args h (sym (is_ground-Compound name args) ∙ e)))

chosen : (b : Bool) (second : List (ℕ × Term)) (t rest rest' : Term) → rest ≡ apply_of second rest'
    → cond b (apply_of second t) rest ≡ apply_of second (cond b t rest')
chosen true second t rest rest' e = refl
chosen false second t rest rest' e = e

pub bound_to-composed : (first second : List (ℕ × Term)) (v : ℕ) → bound_to (composed first second) v ≡ apply_of second (bound_to first v)
bound_to-composed [] second v = sym (apply_of-Var second v)
bound_to-composed (p ∷ ps) second v = chosen (eqb p.0 v) second p.1 _ _ (bound_to-composed ps second v)

module _ (first second : List (ℕ × Term)) where
  abbrev Composes : Term → Type 0
  Composes t = apply_of (composed first second) t ≡ apply_of second (apply_of first t)

  all_compose : (args : List Term) → AllByRecursion Composes args
      → map (apply_of (composed first second)) args ≡ map (apply_of second) (map (apply_of first) args)
  all_compose [] h = refl
  all_compose (a ∷ args) h = let p = h.0 in let q = all_compose args h.1 in cc

  -- two substitutions, one after the other, are the composed one
  pub apply_of-composed : (t : Term) → apply_of (composed first second) t ≡ apply_of second (apply_of first t)
  apply_of-composed = induction Composes
      (λ v. apply_of-Var (composed first second) v ∙ bound_to-composed first second v ∙ ap (apply_of second) (sym (apply_of-Var first v)))
      (λ n. search (rules, the_lemmas))
      (λ a. search (rules, the_lemmas))
      (λ name args h.
      apply_of-Compound (composed first second) name args
      ∙ ap (Compound name) (all_compose args h)
      ∙ sym (apply_of-Compound second name (map (apply_of first) args))
      ∙ ap (apply_of second) (sym (apply_of-Compound first name args)))
