-- The meaning of an abstract domain: plain functions over patterns (Muthukumar and Hermenegildo 1992).
use Rattle.std.specs.Prelude.{ℕ, List, [], Option, Bool}
pub use Rattle.plai_theory.specs.Words.{UpTo}
use Rattle.plai_terms.specs.declared.term.Term.{Term}
use Rattle.plai_terms.specs.declared.prop.Prop.{Prop}
use Rattle.plai_terms.specs.declared.abs.Abs.{Abs}
use Rattle.plai_domain.specs.declared.action.Action.{Action}

-- what is known at a place of a clause: the clause's arity, its number of variables, and a pattern
pub record StateView : Type 0 where
  pub arity : ℕ
  pub variables : ℕ
  pub abs : Abs

-- what an operation gives, and the sizes of the sets that it forms, in order
pub record Formed (A : Type 0) : Type 0 where
  pub sizes : List ℕ
  pub value : A

-- an abstract domain
pub record PlainDomain : Type 1 where
  -- the pattern of so many arguments with these properties
  pub describe : ℕ → List Prop → Abs
  -- of a call, the head's arguments and the number of variables
  pub enter : Abs → List Term → ℕ → Formed (Option StateView)
  pub call : StateView → List Term → Formed Abs
  pub back : StateView → List Term → Abs → Formed (Option StateView)
  pub refine : StateView → List Term → Action → Formed (Option StateView)
  pub exit : StateView → List Term → Abs
  pub join : Abs → Abs → Abs
  -- both are values of so many arguments, and the first lies at or below the second
  pub Leq : ℕ → Abs → Abs → Type 0
  -- both are states of a clause of so many arguments and so many variables, and the first lies at or below the second
  pub Below : ℕ → ℕ → StateView → StateView → Type 0
  pub entails : Abs → Prop → Bool
  pub excludes : Abs → Prop → Bool
  pub rank : Abs → ℕ
  -- a value describes a tuple of terms
  pub describes : Abs → List Term → Type 0
  -- a state describes an instance: the head's arguments and a term for each variable
  pub describes_instance : StateView → List Term → List Term → Type 0

-- what an operation gives that forms no sets
abbrev pub forms_none : {A : Type 0} → A → Formed A
forms_none value = record { sizes = []; value = value }
