-- What an action leaves describes each instance after a substitution that it allows.
use Rattle.std.proofs.Common.{◌≡◌, ℕ, zero, suc, ◌-◌, ◌<◌, true, false, cond, List, [], ◌∷◌, ◌++◌, length, map, get_or, Option, Some, None, refl, sym, ap}
use Rattle.std.proofs.Common.{◌∙◌, arith, rules, subst}
use Rattle.std.proofs.lemmas.Bool.{and_parts, false≢true, false_from_ne_true}
use Rattle.std.proofs.lemmas.List.{get_or-map}
use Rattle.plai_base.specs.Sets.{has_all}
use Rattle.plai_terms.specs.declared.term.Term.{Term, Var, Int, Atom, Compound, fold-Term, the_lemmas}
use Rattle.plai_terms.specs.Term.{is_ground, has_variables_below}
use Rattle.plai_terms.specs.Subst.{apply_of}
use Rattle.plai_terms.proofs.Terms.{induction}
use Rattle.plai_terms.proofs.Substs.{apply_of-Compound}
use Rattle.plai_domain.specs.declared.action.Action.{Action}
use Rattle.plai_domain.specs.declared.action.Action.TheVariants as action
use Rattle.plai_domain.specs.Instances.{acts_within, all_below, IsVar, instance_of, allows_at}
use Rattle.plai_pos_laws.specs.Assignments.{holds, variable_in, variable_step, variable_at, if_variable, refine_of}
use Rattle.plai_pos_laws.specs.Described.{describes_instance, ground_in}
use Rattle.plai_pos_laws.proofs.Holds.{holds-Var}
use Rattle.plai_pos_laws.proofs.Parts.{all_of}
use Rattle.plai_pos_laws.proofs.Sound.{truth_is, both_sound, ground_sound, same_sound}
use Rattle.plai_pos_laws.proofs.Properties.{apply_of-none, var_not_ground, int_ground}

abbrev variable_of : Term → Option ℕ
variable_of = fold-Term (Option ℕ) variable_step

pub variable_of-Var : (v : ℕ) → variable_of (Var v) ≡ Some v
variable_of-Var v = search (rules, the_lemmas)

variable_of-Compound : (name : List ℕ) (args : List Term) → variable_of (Compound name args) ≡ None
variable_of-Compound name args = search (rules, the_lemmas)

no_some : (v : ℕ) → ◌≡◌ {A = Option ℕ} None (Some v) → ⊥
no_some v e = cc

not_var : (t : Term) → variable_of t ≡ None → IsVar t → ⊥
not_var t e (v, h) = no_some v (sym e ∙ ap variable_of h ∙ variable_of-Var v)

abbrev Told : List (ℕ × Term) → Term → Type 0
Told s t = IsVar (apply_of s t) → (v : ℕ) × (variable_of t ≡ Some v) × (t ≡ Var v)

-- a term with an instance that is a variable is one
pub told : (s : List (ℕ × Term)) (t : Term) → Told s t
told s = induction (Told s)
    (λ v h. (v, variable_of-Var v, refl))
    (λ n h. absurd (not_var (apply_of s (Int n)) (search (rules, the_lemmas)) h))
    (λ a h. absurd (not_var (apply_of s (Atom a)) (search (rules, the_lemmas)) h))
    (λ name args k h. absurd (not_var (apply_of s (Compound name args))
    (ap variable_of (apply_of-Compound s name args) ∙ variable_of-Compound name (map (apply_of s) args)) h))

pub variable_at_is : (args : List Term) (j : ℕ) → j < length args → variable_at args j ≡ variable_of (get_or args j (Var 0))
variable_at_is [] j l = absurd (omega (arith, l))
variable_at_is (t ∷ ts) zero l = refl
variable_at_is (t ∷ ts) (suc j) l = variable_at_is ts j (omega (arith, l))

below_at : (limit : ℕ) (args : List Term) (j : ℕ) → all_below limit args ≡ true → j < length args → has_variables_below limit (get_or args j (Var 0)) ≡ true
below_at limit [] j e l = absurd (omega (arith, l))
below_at limit (t ∷ ts) zero e l = (and_parts (has_variables_below limit t) (all_below limit ts) e).0
below_at limit (t ∷ ts) (suc j) e l = below_at limit ts j (and_parts (has_variables_below limit t) (all_below limit ts) e).1 (omega (arith, l))

module _ (hs ts args : List Term) (below : all_below (length ts) args ≡ true) where
  -- a variable's slot isn't true at the instance itself
  still_variable : (j : ℕ) (xs : List ℕ) → j < length args → describes_instance xs hs ts → IsVar (instance_of ts (get_or args j (Var 0)))
      → if_variable (length hs) xs (variable_at args j) ≡ Some xs
  still_variable j xs l d h =
      let (v, e, is) = told _ (get_or args j (Var 0)) h in
      let at : variable_at args j ≡ Some v = variable_at_is args j l ∙ e in
      let false_there : variable_in (length hs) (ground_in [] (hs ++ ts)) v ≡ false =
      sym (holds-Var (variable_in (length hs) (ground_in [] (hs ++ ts))) v)
      ∙ ap (holds (variable_in (length hs) (ground_in [] (hs ++ ts)))) (sym is)
      ∙ truth_is [] hs ts (get_or args j (Var 0)) (below_at (length ts) args j below l)
      ∙ ap is_ground (apply_of-none (instance_of ts (get_or args j (Var 0))))
      ∙ var_not_ground (instance_of ts (get_or args j (Var 0))) h in
      let test : has_all xs (λ x. variable_in (length hs) x v) ≡ false =
      false_from_ne_true _ (λ all. absurd (false≢true (sym false_there ∙ all_of xs (λ x. variable_in (length hs) x v) (ground_in [] (hs ++ ts)) all (d [])))) in
      ap (if_variable (length hs) xs) at ∙ ap (λ b. cond b None (Some xs)) test

  abbrev Sound : List (ℕ × Term) → List ℕ → Option (List ℕ) → Type 0
  Sound r xs o = (ys : List ℕ) × (o ≡ Some ys) × describes_instance ys (map (apply_of r) hs) (map (apply_of r) ts)

  -- where the state describes the instance and the action allows the substitution at the literal's arguments,
  -- the state given isn't none, and describes the instance after the substitution
  pub refine_sound : (a : Action) (r : List (ℕ × Term)) (xs : List ℕ) → acts_within (length args) a → describes_instance xs hs ts
      → allows_at (map (instance_of ts) args) r a → Sound r xs (refine_of (length hs) (length ts) args a xs)
  refine_sound action.Fail r xs w d h = absurd h
  refine_sound (action.Unify i j) r xs w d h =
      (_, refl, both_sound hs ts args below r (i - 1) (j - 1) xs (omega (arith, w.0, w.1)) (omega (arith, w.2, w.3)) h d)
  refine_sound (action.Same i j) r xs w d h =
      (_, refl, both_sound hs ts args below r (i - 1) (j - 1) xs (omega (arith, w.0, w.1)) (omega (arith, w.2, w.3)) (ap (apply_of r) h.1) d)
  refine_sound (action.Ground i) r xs w d h = (_, refl, ground_sound hs ts args below r (i - 1) xs (omega (arith, w.0, w.1)) h d)
  refine_sound (action.BindInt i) r xs w d h = (_, refl, ground_sound hs ts args below r (i - 1) xs (omega (arith, w.0, w.1)) (int_ground _ h) d)
  refine_sound (action.Var i) r xs w d h =
      let l : i - 1 < length args = omega (arith, w.0, w.1) in
      let v : IsVar (instance_of ts (get_or args (i - 1) (Var 0))) = subst IsVar (get_or-map (instance_of ts) args (i - 1) (Var 0) (Var 0) l) h.1 in
      (xs, still_variable (i - 1) xs l d v, same_sound hs ts args below r xs d)
  refine_sound (action.Nonvar i) r xs w d h = (xs, refl, same_sound hs ts args below r xs d)
  refine_sound (action.Havoc slots) r xs w d h = (xs, refl, same_sound hs ts args below r xs d)
