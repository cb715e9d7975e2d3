-- What is asked of a builtin's arguments, and what its actions allow of it.
use Rattle.std.proofs.Common.{◌≡◌, ◌∙◌, ℕ, Bool, true, false, Some, List, [], ◌∷◌, refl, sym, ap, subst}
use Rattle.plai_terms.specs.Term.{is_ground}
use Rattle.plai_terms.specs.Subst.{bound_to}
use Rattle.plai_terms.specs.declared.term.Term.{Term, Var}
use Rattle.plai_terms.specs.Substitution.{under, AreBelow}
use Rattle.plai_terms.specs.Unification.{Bindings}
use Rattle.plai_terms.proofs.Under.{under_Var}
use Rattle.plai_domain.specs.declared.action.Action.{Action}
use Rattle.plai_domain.specs.Allowed.{Allows}
use Rattle.plai_builtins.specs.InTurn.{AllowedInTurn}
use Rattle.plai_builtins.specs.Meaning.{Demand, Never, Test, tested, Meets, of_none, of_one, of_two, of_three}
use Rattle.plai_builtins.proofs.Turns.{idle_action}

abbrev pub Composed : ℕ → List Action → List Term → Bindings → Type 0
Composed n actions ts s = AllowedInTurn n actions ts (bound_to s)

pub nothing : (n : ℕ) (ts : List Term) → AllowedInTurn n [] ts Var
nothing n ts v lt = refl

-- a test that succeeds binds nothing
passed : (b : Bool) (s : Bindings) → Some s ≡ tested b → (b ≡ true) × (s ≡ [])
passed true s e = (refl, cc)
passed false s e = absurd cc

pub by_passing : (n : ℕ) (actions : List Action) (ts : List Term) (b : Bool) (s : Bindings) → (b ≡ true → AllowedInTurn n actions ts Var)
    → Meets (Test b) (Some s) → Composed n actions ts s
by_passing n actions ts b s h m =
    let (holds, is) = passed b s m in
    subst (λ r. AllowedInTurn n actions ts (bound_to r)) (sym is) (h holds)

pub idle_one : (n : ℕ) (x : Action) (ts : List Term) → Allows x n ts Var → AllowedInTurn n (x ∷ []) ts Var
idle_one n x ts allowed = idle_action n x [] ts Var allowed (nothing n ts)

pub grounded : (t : Term) → is_ground t ≡ true → is_ground (under Var t) ≡ true
grounded t e = ap is_ground (under_Var t) ∙ e

-- a test, where nothing is done
pub nothing_done : (n : ℕ) (s : Bindings) (ts : List Term) (b : Bool) → Meets (Test b) (Some s) → Composed n [] ts s
nothing_done n s ts b = by_passing n [] ts b s (λ e. nothing n ts)

-- A substitution that meets the demand is a composition of what the actions allow at these arguments. Where it is so at
-- any one argument, say, it is so at any arguments.
module _ (n : ℕ) (s : Bindings) (actions : List Action) where
  abbrev pub Kept : List Term → Demand → Type 0
  Kept ts d = Meets d (Some s) → Composed n actions ts s

  pub at_none : (d : Demand) → Kept [] d → (ts : List Term) → Kept ts (of_none d ts)
  at_none d h [] m = h m
  at_none d h (x ∷ ts) m = absurd cc

  pub at_one : (d : Term → Demand) → ((x : Term) → Kept (x ∷ []) (d x)) → (ts : List Term) → Kept ts (of_one d ts)
  at_one d h [] m = absurd cc
  at_one d h (x ∷ []) m = h x m
  at_one d h (x ∷ y ∷ ts) m = absurd cc

  pub at_two : (d : Term → Term → Demand) → ((x y : Term) → Kept (x ∷ y ∷ []) (d x y)) → (ts : List Term) → Kept ts (of_two d ts)
  at_two d h [] m = absurd cc
  at_two d h (x ∷ []) m = absurd cc
  at_two d h (x ∷ y ∷ []) m = h x y m
  at_two d h (x ∷ y ∷ z ∷ ts) m = absurd cc

  pub at_three : (d : Term → Term → Term → Demand) → ((x y z : Term) → AreBelow n (x ∷ y ∷ z ∷ []) → Kept (x ∷ y ∷ z ∷ []) (d x y z))
      → (ts : List Term) → AreBelow n ts → Kept ts (of_three d ts)
  at_three d h [] below m = absurd cc
  at_three d h (x ∷ []) below m = absurd cc
  at_three d h (x ∷ y ∷ []) below m = absurd cc
  at_three d h (x ∷ y ∷ z ∷ []) below m = h x y z below m
  at_three d h (x ∷ y ∷ z ∷ w ∷ ts) below m = absurd cc
