-- The truth of terms under an assignment, and under a substitution.
use Rattle.std.proofs.Common.{◌≡◌, ℕ, ◌<◌, Bool, true, nat_lt, List, [], ◌∷◌, map, refl, sym, ap, ◌∙◌, rules}
use Rattle.std.specs.List.{list_all, AllByRecursion}
use Rattle.std.proofs.lemmas.Bool.{ltb-true, and_parts}
use Rattle.plai_terms.specs.declared.term.Term.{Term, Var, Compound, the_lemmas}
use Rattle.plai_terms.specs.Term.{is_ground, has_variables_below}
use Rattle.plai_terms.specs.Subst.{bound_to, apply_of}
use Rattle.plai_terms.proofs.Terms.{induction}
use Rattle.plai_terms.proofs.Substs.{apply_of-Var, apply_of-Compound, is_ground-Compound}
use Rattle.plai_pos_laws.specs.Assignments.{holds}

pub holds-Var : (truth : ℕ → Bool) (v : ℕ) → holds truth (Var v) ≡ truth v
holds-Var truth v = search (rules, the_lemmas)

pub holds-Compound : (truth : ℕ → Bool) (name : List ℕ) (args : List Term) → holds truth (Compound name args) ≡ list_all (λ b. b) (map (holds truth) args)
holds-Compound truth name args = search (rules, the_lemmas)

pub below-Var : (limit v : ℕ) → has_variables_below limit (Var v) ≡ nat_lt v limit
below-Var limit v = search (rules, the_lemmas)

pub below-Compound : (limit : ℕ) (name : List ℕ) (args : List Term)
    → has_variables_below limit (Compound name args) ≡ list_all (λ b. b) (map (has_variables_below limit) args)
below-Compound limit name args = search (rules, the_lemmas)

module _ (limit : ℕ) (f g : ℕ → Bool) (same : (v : ℕ) → v < limit → f v ≡ g v) where
  abbrev IsSame : Term → Type 0
  IsSame t = has_variables_below limit t ≡ true → holds f t ≡ holds g t

  all_same : (args : List Term) → AllByRecursion IsSame args → list_all (λ b. b) (map (has_variables_below limit) args) ≡ true
      → map (holds f) args ≡ map (holds g) args
  all_same [] h e = refl
  all_same (a ∷ args) h e =
      let t = and_parts (has_variables_below limit a) (list_all (λ b. b) (map (has_variables_below limit) args)) e in
      let p = h.0 t.0 in
      let q = all_same args h.1 t.1 in
      cc

  -- terms whose variables have the same truth have the same truth
  pub holds_same : (t : Term) → has_variables_below limit t ≡ true → holds f t ≡ holds g t
  holds_same = induction IsSame
      (λ v e. holds-Var f v ∙ same v (ltb-true v limit (sym (below-Var limit v) ∙ e)) ∙ sym (holds-Var g v))
      (λ n e. search (rules, the_lemmas))
      (λ a e. search (rules, the_lemmas))
      (λ name args h e.
      holds-Compound f name args
      ∙ ap (list_all (λ b. b)) (all_same args h (sym (below-Compound limit name args) ∙ e))
      ∙ sym (holds-Compound g name args))

abbrev IsTrueThere : Term → Type 0
IsTrueThere t = holds (λ v. true) t ≡ true

all_true_there : (args : List Term) → AllByRecursion IsTrueThere args → list_all (λ b. b) (map (holds (λ v. true)) args) ≡ true
all_true_there [] h = refl
all_true_there (a ∷ args) h = let p = h.0 in let q = all_true_there args h.1 in rw (p, q) refl

-- where all variables are true, each term is
pub holds_true : (t : Term) → holds (λ v. true) t ≡ true
holds_true = induction IsTrueThere
    (λ v. search (rules, the_lemmas))
    (λ n. search (rules, the_lemmas))
    (λ a. search (rules, the_lemmas))
    (λ name args h. holds-Compound (λ v. true) name args ∙ all_true_there args h)

module _ (s : List (ℕ × Term)) where
  abbrev IsInstance : Term → Type 0
  IsInstance t = is_ground (apply_of s t) ≡ holds (λ v. is_ground (bound_to s v)) t

  all_instances : (args : List Term) → AllByRecursion IsInstance args → map is_ground (map (apply_of s) args) ≡ map (holds (λ v. is_ground (bound_to s v))) args
  all_instances [] h = refl
  all_instances (a ∷ args) h = let p = h.0 in let q = all_instances args h.1 in cc

  -- an instance is ground where each of its variables is replaced by a ground term
  pub is_ground-apply : (t : Term) → is_ground (apply_of s t) ≡ holds (λ v. is_ground (bound_to s v)) t
  is_ground-apply = induction IsInstance
      (λ v. ap is_ground (apply_of-Var s v) ∙ sym (holds-Var (λ w. is_ground (bound_to s w)) v))
      (λ n. search (rules, the_lemmas))
      (λ a. search (rules, the_lemmas))
      (λ name args h.
      ap is_ground (apply_of-Compound s name args)
      ∙ is_ground-Compound name (map (apply_of s) args)
      ∙ ap (list_all (λ b. b)) (all_instances args h)
      ∙ sym (holds-Compound (λ v. is_ground (bound_to s v)) name args))

module _ (f g : ℕ → Bool) (same : (v : ℕ) → f v ≡ g v) where
  abbrev IsAlike : Term → Type 0
  IsAlike t = holds f t ≡ holds g t

  all_alike : (args : List Term) → AllByRecursion IsAlike args → map (holds f) args ≡ map (holds g) args
  all_alike [] h = refl
  all_alike (a ∷ args) h = let p = h.0 in let q = all_alike args h.1 in cc

  pub holds_alike : (t : Term) → holds f t ≡ holds g t
  holds_alike = induction IsAlike
      (λ v. holds-Var f v ∙ same v ∙ sym (holds-Var g v))
      (λ n. search (rules, the_lemmas))
      (λ a. search (rules, the_lemmas))
      (λ name args h. holds-Compound f name args ∙ ap (list_all (λ b. b)) (all_alike args h) ∙ sym (holds-Compound g name args))

  pub map_holds_alike : (ts : List Term) → map (holds f) ts ≡ map (holds g) ts
  map_holds_alike [] = refl
  map_holds_alike (t ∷ ts) = let p = holds_alike t in let q = map_holds_alike ts in cc
