-- `functor`, `arg` and `=..`: what they mean is a composition of what their actions allow.
use Rattle.std.proofs.Common.{◌≡◌, ◌∙◌, inl, inr, ℕ, zero, suc, ◌+◌, pos, Bool, true, false, cond, nat_le, Option, Some, None, List, [], ◌∷◌}
use Rattle.std.proofs.Common.{length, refl, sym, ap, subst, rules}
use Rattle.plai_theory.specs.Words.{given}
use Rattle.plai_base.specs.Mask.{mask_of}
use Rattle.plai_terms.specs.Term.{occurs}
use Rattle.plai_terms.specs.declared.term.Term.{Term, Atom, Compound, out-Term, roll-Term, roll-out-Term, the_lemmas}
use Rattle.plai_terms.specs.declared.term.Term.TheOpen.{Term-F}
use Rattle.plai_terms.specs.declared.term.Term.TheVariants.{rolls-Int, rolls-Atom, rolls-Compound}
use Rattle.plai_terms.specs.Substitution.{occurs_in, AreBelow}
use Rattle.plai_terms.specs.Unification.{Bindings}
use Rattle.plai_terms.proofs.Under.{occurs-args, or_cases, or_first, or_second}
use Rattle.plai_domain.specs.declared.action.Action.{Action}
use Rattle.plai_domain.specs.declared.action.Action.TheVariants as action
use Rattle.plai_builtins.specs.Lists.{list_of, list_items}
use Rattle.plai_builtins.specs.Meaning.{Never, Solve, Meets, number_up_to, new_variables, construct, functor_at, nth, arg_at, made_by, made_of, univ_at}
use Rattle.plai_builtins.proofs.Composed.{Composed}
use Rattle.plai_builtins.proofs.Equated.{one_of, int_closed, atom_closed, taken_apart, put_together, new_compound, nothing_new}
use Rattle.plai_builtins.proofs.Equated.{argument_allowed, list_allowed}
use Rattle.plai_builtins.proofs.Grounded.{IsClosed}
use Rattle.plai_builtins.proofs.TermKinds.{number_is}
use Rattle.plai_builtins.proofs.ListItems.{list_of_there, items_there}

abbrev functor_actions : List Action
functor_actions = action.Ground 2 ∷ action.BindInt 3 ∷ action.Havoc (mask_of 0) ∷ []

module _ (n : ℕ) (s : Bindings) where
  constructed : (t x y : Term) (level : Term-F Term) (k : Option ℕ) → x ≡ roll-Term level → number_up_to 255 y ≡ k
      → Meets (construct n t x level k) (Some s) → Composed n functor_actions (t ∷ x ∷ y ∷ []) s
  constructed t x y (Term-F.Var v) k is e m = absurd cc
  constructed t x y (Term-F.Compound name args) k is e m = absurd cc
  constructed t x y (Term-F.Int z) None is e m = absurd cc
  constructed t x y (Term-F.Int z) (Some zero) is e m =
      let closed : IsClosed x = subst IsClosed (sym (is ∙ rolls-Int z)) (int_closed z) in
      let (w, int) = number_is y 255 0 e in
      put_together n t x y x s w closed.grounded int (λ v o. nothing_new n v x closed o) m
  constructed t x y (Term-F.Int z) (Some (suc k)) is e m = absurd cc
  constructed t x y (Term-F.Atom a) None is e m = absurd cc
  constructed t x y (Term-F.Atom a) (Some zero) is e m =
      let closed : IsClosed x = subst IsClosed (sym (is ∙ rolls-Atom a)) (atom_closed a) in
      let (w, int) = number_is y 255 0 e in
      put_together n t x y x s w closed.grounded int (λ v o. nothing_new n v x closed o) m
  constructed t x y (Term-F.Atom a) (Some (suc k)) is e m =
      let closed : IsClosed x = subst IsClosed (sym (is ∙ rolls-Atom a)) (atom_closed a) in
      let (w, int) = number_is y 255 (suc k) e in
      put_together n t x y (Compound a (new_variables n (suc k))) s w closed.grounded int (λ v o. new_compound v n (suc k) a o) m

  pub functor_by : (t x y : Term) (level : Term-F Term) → AreBelow n (t ∷ x ∷ y ∷ []) → t ≡ roll-Term level
      → Meets (functor_at n t x y level) (Some s) → Composed n functor_actions (t ∷ x ∷ y ∷ []) s
  functor_by t x y (Term-F.Var v) below is m = constructed t x y (out-Term x) (number_up_to 255 y) (sym (roll-out-Term x)) refl m
  functor_by t x y (Term-F.Int z) below is m = taken_apart n t x y t s (pos 0) below (subst IsClosed (sym (is ∙ rolls-Int z)) (int_closed z)) m
  functor_by t x y (Term-F.Atom a) below is m = taken_apart n t x y t s (pos 0) below (subst IsClosed (sym (is ∙ rolls-Atom a)) (atom_closed a)) m
  functor_by t x y (Term-F.Compound name args) below is m = taken_apart n t x y (Atom name) s (pos (length args)) below (atom_closed name) m

  argument_at : (k t a : Term) (name : List ℕ) (args : List Term) (i : Option ℕ) (found : Option Term) → t ≡ Compound name args
      → number_up_to (length args) k ≡ i → nth args i ≡ found
      → Meets (given Never (λ x. Solve (x ∷ []) (a ∷ [])) found) (Some s)
      → Composed n (action.BindInt 1 ∷ action.Havoc (mask_of 1 + mask_of 2) ∷ []) (k ∷ t ∷ a ∷ []) s
  argument_at k t a name args i None is e there m = absurd cc
  argument_at k t a name args None (Some x) is e there m = absurd cc
  argument_at k t a name args (Some i) (Some x) is e there m =
      let (z, int) = number_is k (length args) i e in
      argument_allowed n k t a x name args (Some i) s z int is there m

  pub argument_by : (k t a : Term) (level : Term-F Term) → t ≡ roll-Term level → Meets (arg_at k a level) (Some s)
      → Composed n (action.BindInt 1 ∷ action.Havoc (mask_of 1 + mask_of 2) ∷ []) (k ∷ t ∷ a ∷ []) s
  argument_by k t a (Term-F.Var v) is m = absurd cc
  argument_by k t a (Term-F.Int z) is m = absurd cc
  argument_by k t a (Term-F.Atom b) is m = absurd cc
  argument_by k t a (Term-F.Compound name args) is m =
      argument_at k t a name args (number_up_to (length args) k) (nth args (number_up_to (length args) k)) (is ∙ rolls-Compound name args) refl refl m

  abbrev list_actions : List Action
  list_actions = action.Havoc (mask_of 0 + mask_of 1) ∷ []

  -- what is made of the items of the second argument is unified with the first
  made_from : (t l y : Term) → ((v : ℕ) → occurs v y ≡ true → occurs v l ≡ true) → Meets (Solve (t ∷ []) (y ∷ [])) (Some s)
      → Composed n list_actions (t ∷ l ∷ []) s
  made_from t l y h m =
      list_allowed n t l t y s (one_of n t (t ∷ l ∷ []) (λ v o. inl (or_first (occurs v t) (occurs_in v (l ∷ [])) o)))
      (one_of n y (t ∷ l ∷ []) (λ v o. inl (or_second (occurs v t) (occurs_in v (l ∷ [])) (or_first (occurs v l) false (h v o))))) m

  made_level : (t l x : Term) (level : Term-F Term) (xs : List Term) → ((v : ℕ) → occurs_in v (x ∷ xs) ≡ true → occurs v l ≡ true)
      → Meets (made_by t x level xs) (Some s) → Composed n list_actions (t ∷ l ∷ []) s
  made_level t l x (Term-F.Var v) xs h m = absurd cc
  made_level t l x (Term-F.Compound name args) xs h m = absurd cc
  made_level t l x (Term-F.Int z) [] h m = made_from t l x (λ v o. h v (or_first (occurs v x) false o)) m
  made_level t l x (Term-F.Int z) (y ∷ ys) h m = absurd cc
  made_level t l x (Term-F.Atom a) [] h m = made_from t l x (λ v o. h v (or_first (occurs v x) false o)) m
  made_level t l x (Term-F.Atom a) (y ∷ ys) h m = within (nat_le (length (y ∷ ys)) 255) m
    where
      within : (b : Bool) → Meets (cond b (Solve (t ∷ []) (Compound a (y ∷ ys) ∷ [])) Never) (Some s) → Composed n list_actions (t ∷ l ∷ []) s
      within true m = made_from t l (Compound a (y ∷ ys)) (λ v o. h v (or_second (occurs v x) (occurs_in v (y ∷ ys)) (sym (occurs-args v a (y ∷ ys)) ∙ o))) m
      within false m = absurd cc

  made_items : (t l : Term) (items : Option (List Term)) → list_items l ≡ items → Meets (given Never (made_of t) items) (Some s)
      → Composed n list_actions (t ∷ l ∷ []) s
  made_items t l None e m = absurd cc
  made_items t l (Some []) e m = absurd cc
  made_items t l (Some (x ∷ xs)) e m = made_level t l x (out-Term x) xs (λ v o. items_there v l (x ∷ xs) e o) m

  -- the second argument is unified with a list of parts of the first
  listed_parts : (t l : Term) (parts : List Term) → ((v : ℕ) → occurs_in v parts ≡ true → occurs v t ≡ true)
      → Meets (Solve (l ∷ []) (list_of parts ∷ [])) (Some s)
      → Composed n list_actions (t ∷ l ∷ []) s
  listed_parts t l parts h m =
      list_allowed n t l l (list_of parts) s (λ v o. inl (or_second (occurs v t) (occurs_in v (l ∷ [])) o))
      (one_of n (list_of parts) (t ∷ l ∷ []) (λ v o. inl (or_first (occurs v t) (occurs_in v (l ∷ [])) (h v (list_of_there v parts o))))) m

  alone : (t : Term) (v : ℕ) → occurs_in v (t ∷ []) ≡ true → occurs v t ≡ true
  alone t v o = elim (or_cases (occurs v t) false o) [ inl p ↦ p | inr p ↦ absurd cc ]

  pub univ_by : (t l : Term) (level : Term-F Term) → t ≡ roll-Term level → Meets (univ_at t l level) (Some s) → Composed n list_actions (t ∷ l ∷ []) s
  univ_by t l (Term-F.Var v) is m = made_items t l (list_items l) refl m
  univ_by t l (Term-F.Int z) is m = listed_parts t l (t ∷ []) (alone t) m
  univ_by t l (Term-F.Atom a) is m = listed_parts t l (t ∷ []) (alone t) m
  univ_by t l (Term-F.Compound name args) is m =
      listed_parts t l (Atom name ∷ args)
      (λ v o.
      elim (or_cases (occurs v (Atom name)) (occurs_in v args) o) [
        | inl p ↦ let no : occurs v (Atom name) ≡ false = search (rules, the_lemmas) in absurd cc
        | inr p ↦ ap (occurs v) (is ∙ rolls-Compound name args) ∙ occurs-args v name args ∙ p
      ]) m
