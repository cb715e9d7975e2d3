-- Builtins that solve equations do what their actions allow.
use Rattle.std.proofs.Common.{◌≡◌, ◌⊎◌, inl, inr, ℕ, zero, suc, ◌+◌, ◌≤◌, ℤ, true, false, Option, Some, None, List, [], ◌∷◌, refl, sym, ap, subst, ◌∙◌, rules}
use Rattle.std.proofs.Common.{arith}
use Rattle.plai_theory.specs.Words.{item}
use Rattle.plai_base.specs.Mask.{mask_of}
use Rattle.plai_terms.specs.Term.{is_ground, occurs}
use Rattle.plai_terms.specs.Subst.{bound_to}
use Rattle.plai_terms.specs.declared.term.Term.{Term, Var, Int, Atom, Compound, the_lemmas}
use Rattle.plai_terms.specs.declared.outcome.Outcome.{Outcome}
use Rattle.plai_terms.specs.declared.outcome.Outcome.TheVariants.{Unified, Clash, Occurs}
use Rattle.plai_terms.specs.Substitution.{under, occurs_in, AreBelow}
use Rattle.plai_terms.specs.Unification.{Bindings, UnifiesTo}
use Rattle.plai_terms.proofs.Outcomes.{unifier}
use Rattle.plai_terms.proofs.Under.{occurs-args, occurs-Var_same, or_cases, or_first, or_second, under_Var}
use Rattle.plai_domain.specs.declared.action.Action.TheVariants as action
use Rattle.plai_builtins.specs.InTurn.{AllowedInTurn}
use Rattle.plai_builtins.specs.Meaning.{solved, Solve, Meets, new_variables, nth}
use Rattle.plai_builtins.proofs.Grounded.{IsClosed, in_one, grounds_two}
use Rattle.plai_builtins.proofs.Turns.{AreOf, last_action, idle_action, idle_local, unifier_local}

solved_is : (o : Outcome) (s : Bindings) → Some s ≡ solved o → o ≡ Unified s
solved_is (Unified t) s e = let k : t ≡ s = cc in ap Unified k
solved_is Clash s e = absurd cc
solved_is Occurs s e = absurd cc

pub unified : (left right : List Term) (s : Bindings) → Meets (Solve left right) (Some s) → UnifiesTo left right (Unified s)
unified left right s (o, out, e) = subst (UnifiesTo left right) (solved_is o s e) out

pub one_of : (n : ℕ) (t : Term) (ts : List Term) → ((v : ℕ) → occurs v t ≡ true → (occurs_in v ts ≡ true) ⊎ (n ≤ v)) → AreOf n (t ∷ []) ts
one_of n t ts h v o = h v (in_one v t o)

pub itself_of : (n : ℕ) (ts : List Term) → AreOf n ts ts
itself_of n ts v o = inl o

closed_of : (n : ℕ) (t : Term) (ts : List Term) → ((v : ℕ) → occurs v t ≡ false) → AreOf n (t ∷ []) ts
closed_of n t ts h = one_of n t ts (λ v o. let no = h v in absurd cc)

pub int_closed : (z : ℤ) → IsClosed (Int z)
int_closed z = record { grounded = search (rules, the_lemmas); free = λ v. search (rules, the_lemmas) }

pub atom_closed : (a : List ℕ) → IsClosed (Atom a)
atom_closed a = record { grounded = search (rules, the_lemmas); free = λ v. search (rules, the_lemmas) }

idle_ground : (t : Term) → is_ground t ≡ true → is_ground (under Var t) ≡ true
idle_ground t e = ap is_ground (under_Var t) ∙ e

-- `X is E`: the value is unified with the first argument
pub value_allowed : (n : ℕ) (l r : Term) (s : Bindings) (z : ℤ) → is_ground r ≡ true → Meets (Solve (Int z ∷ []) (l ∷ [])) (Some s)
    → AllowedInTurn n (action.Ground 2 ∷ action.BindInt 1 ∷ []) (l ∷ r ∷ []) (bound_to s)
value_allowed n l r s z g m =
    let u = unifier (Int z ∷ []) (l ∷ []) s refl (unified (Int z ∷ []) (l ∷ []) s m) in
    let e = u.unifies in
    let p : under (bound_to s) (Int z) ≡ under (bound_to s) l = cc in
    let q : under (bound_to s) (Int z) ≡ Int z = search (rules, the_lemmas) in
    idle_action n (action.Ground 2) (action.BindInt 1 ∷ []) (l ∷ r ∷ []) (bound_to s) (idle_local n (r ∷ []), idle_ground r g)
    (last_action n (action.BindInt 1) (l ∷ r ∷ []) (bound_to s)
    (unifier_local n (l ∷ []) (Int z ∷ []) (l ∷ []) s u (closed_of n (Int z) (l ∷ []) (int_closed z).free) (itself_of n (l ∷ [])), (z, sym p ∙ q)))

-- `functor(T,N,A)` where T is no variable
pub taken_apart : (n : ℕ) (t x y c : Term) (s : Bindings) (z : ℤ) → AreBelow n (t ∷ x ∷ y ∷ []) → IsClosed c
    → Meets (Solve (x ∷ y ∷ []) (c ∷ Int z ∷ [])) (Some s)
    → AllowedInTurn n (action.Ground 2 ∷ action.BindInt 3 ∷ action.Havoc (mask_of 0) ∷ []) (t ∷ x ∷ y ∷ []) (bound_to s)
taken_apart n t x y c s z below closed m =
    grounds_two n t x y c (Int z) s below closed z refl (unifier (x ∷ y ∷ []) (c ∷ Int z ∷ []) s refl (unified (x ∷ y ∷ []) (c ∷ Int z ∷ []) s m))

-- and where it is one
pub put_together : (n : ℕ) (t x y r : Term) (s : Bindings) (z : ℤ) → is_ground x ≡ true → y ≡ Int z
    → ((v : ℕ) → occurs v r ≡ true → n ≤ v) → Meets (Solve (t ∷ []) (r ∷ [])) (Some s)
    → AllowedInTurn n (action.Ground 2 ∷ action.BindInt 3 ∷ action.Havoc (mask_of 0) ∷ []) (t ∷ x ∷ y ∷ []) (bound_to s)
put_together n t x y r s z g e new m =
    let u = unifier (t ∷ []) (r ∷ []) s refl (unified (t ∷ []) (r ∷ []) s m) in
    idle_action n (action.Ground 2) (action.BindInt 3 ∷ action.Havoc (mask_of 0) ∷ []) (t ∷ x ∷ y ∷ []) (bound_to s) (idle_local n (x ∷ []), idle_ground x g)
    (idle_action n (action.BindInt 3) (action.Havoc (mask_of 0) ∷ []) (t ∷ x ∷ y ∷ []) (bound_to s) (idle_local n (y ∷ []), (z, under_Var y ∙ e))
    (last_action n (action.Havoc (mask_of 0)) (t ∷ x ∷ y ∷ []) (bound_to s)
    (unifier_local n (t ∷ []) (t ∷ []) (r ∷ []) s u (itself_of n (t ∷ [])) (one_of n r (t ∷ []) (λ v o. inr (new v o))))))

new_there : (v first k : ℕ) → occurs_in v (new_variables first k) ≡ true → first ≤ v
new_there v first zero o = absurd cc
new_there v first (suc k) o =
    elim (or_cases (occurs v (Var first)) (occurs_in v (new_variables (suc first) k)) o) [
      | inl p ↦ let same = occurs-Var_same v first p in omega arith
      | inr p ↦ let q : suc first ≤ v = new_there v (suc first) k p in omega arith
    ]

pub new_compound : (v first k : ℕ) (name : List ℕ) → occurs v (Compound name (new_variables first k)) ≡ true → first ≤ v
new_compound v first k name o = new_there v first k (sym (occurs-args v name (new_variables first k)) ∙ o)

pub nothing_new : (n v : ℕ) (c : Term) → IsClosed c → occurs v c ≡ true → n ≤ v
nothing_new n v c closed o = let no = closed.free v in absurd cc

-- `arg(N,T,A)`
item_there : (ts : List Term) (i : ℕ) (a : Term) → item ts i ≡ Some a → (v : ℕ) → occurs v a ≡ true → occurs_in v ts ≡ true
item_there [] i a e v o = absurd cc
item_there (t ∷ ts) zero a e v o = let same : t ≡ a = cc in or_first (occurs v t) (occurs_in v ts) (ap (occurs v) same ∙ o)
item_there (t ∷ ts) (suc i) a e v o = or_second (occurs v t) (occurs_in v ts) (item_there ts i a e v o)

nth_there : (ts : List Term) (i : Option ℕ) (a : Term) → nth ts i ≡ Some a → (v : ℕ) → occurs v a ≡ true → occurs_in v ts ≡ true
nth_there ts None a e v o = absurd cc
nth_there ts (Some zero) a e v o = absurd cc
nth_there ts (Some (suc i)) a e v o = item_there ts i a e v o

pub argument_allowed : (n : ℕ) (k t a x : Term) (name : List ℕ) (args : List Term) (i : Option ℕ) (s : Bindings) (z : ℤ) → k ≡ Int z
    → t ≡ Compound name args → nth args i ≡ Some x → Meets (Solve (x ∷ []) (a ∷ [])) (Some s)
    → AllowedInTurn n (action.BindInt 1 ∷ action.Havoc (mask_of 1 + mask_of 2) ∷ []) (k ∷ t ∷ a ∷ []) (bound_to s)
argument_allowed n k t a x name args i s z int is there m =
    let u = unifier (x ∷ []) (a ∷ []) s refl (unified (x ∷ []) (a ∷ []) s m) in
    idle_action n (action.BindInt 1) (action.Havoc (mask_of 1 + mask_of 2) ∷ []) (k ∷ t ∷ a ∷ []) (bound_to s) (idle_local n (k ∷ []), (z, under_Var k ∙ int))
    (last_action n (action.Havoc (mask_of 1 + mask_of 2)) (k ∷ t ∷ a ∷ []) (bound_to s)
    (unifier_local n (t ∷ a ∷ []) (x ∷ []) (a ∷ []) s u
    (one_of n x (t ∷ a ∷ []) (λ v o. inl (or_first (occurs v t) (occurs_in v (a ∷ []))
    (ap (occurs v) is ∙ occurs-args v name args ∙ nth_there args i x there v o))))
    (λ v o. inl (or_second (occurs v t) (occurs_in v (a ∷ [])) o))))

-- `T =.. L`: one argument is unified with a term whose variables are the other's
pub list_allowed : (n : ℕ) (t l x y : Term) (s : Bindings) → AreOf n (x ∷ []) (t ∷ l ∷ []) → AreOf n (y ∷ []) (t ∷ l ∷ [])
    → Meets (Solve (x ∷ []) (y ∷ [])) (Some s)
    → AllowedInTurn n (action.Havoc (mask_of 0 + mask_of 1) ∷ []) (t ∷ l ∷ []) (bound_to s)
list_allowed n t l x y s a b m =
    let u = unifier (x ∷ []) (y ∷ []) s refl (unified (x ∷ []) (y ∷ []) s m) in
    last_action n (action.Havoc (mask_of 0 + mask_of 1)) (t ∷ l ∷ []) (bound_to s) (unifier_local n (t ∷ l ∷ []) (x ∷ []) (y ∷ []) s u a b)
