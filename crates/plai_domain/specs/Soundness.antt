-- The laws of soundness of an abstract domain: what holds of described tuples and instances goes on to hold
-- (Muthukumar and Hermenegildo 1992). That `describes` holds includes that the value is one of as many arguments as
-- there are terms, and the state one of the instance's clause.
use Rattle.std.specs.Prelude.{◌≡◌, ℕ, zero, suc, ◌<◌, true, All, List, [], ◌∷◌, length, map, Some}
use Rattle.plai_terms.specs.declared.term.Term.{Term}
use Rattle.plai_terms.specs.declared.prop.Prop.{Prop}
use Rattle.plai_terms.specs.declared.abs.Abs.{Abs}
use Rattle.plai_terms.specs.declared.outcome.Outcome.TheVariants.{Unified}
use Rattle.plai_terms.specs.Subst.{bound_to}
use Rattle.plai_terms.specs.Substitution.{under, then_also, raised, IsBelow, AreBelow, IsLocal}
use Rattle.plai_terms.specs.Unification.{Bindings, UnifiesTo}
use Rattle.plai_domain.specs.declared.action.Action.{Action}
use Rattle.plai_domain.specs.Plain.{StateView, PlainDomain}
use Rattle.plai_domain.specs.Instances.{has_property, has_properties, speaks_within, acts_within}
use Rattle.plai_domain.specs.Conditions.{IsHead, AreArguments}
use Rattle.plai_domain.specs.Allowed.{Allows}

-- The properties of described tuples.
pub record TellsTruly (p : PlainDomain) : Type 0 where
  -- a tuple that a value describes is described by each value above it
  pub larger : (n : ℕ) (a b : Abs) (ts : List Term) → p.Leq n a b → p.describes a ts → p.describes b ts
  -- each tuple that has the properties is described by their value
  pub describe : (pre : List Prop) (ts : List Term) → All (speaks_within (length ts)) pre → has_properties ts pre
      → p.describes (p.describe (length ts) pre) ts
  -- what is entailed each described tuple has, and what is excluded none has
  pub entails : (a : Abs) (property : Prop) (ts : List Term) → speaks_within (length ts) property → p.describes a ts
      → p.entails a property ≡ true → has_property ts property
  pub excludes : (a : Abs) (property : Prop) (ts : List Term) → speaks_within (length ts) property → p.describes a ts
      → p.excludes a property ≡ true → has_property ts property → ⊥

-- so many numbers from a first one on
abbrev pub numbers : ℕ → ℕ → List ℕ
numbers first zero = []
numbers first (suc n) = first ∷ numbers (suc first) n

-- the state describes the instance that i makes of the clause: the head's arguments, and a term for each variable
abbrev pub Speaks : PlainDomain → List Term → ℕ → StateView → (ℕ → Term) → Type 0
Speaks p head variables st i = p.describes_instance st (map (under i) head) (map i (numbers 0 variables))

-- the instance has only variables below the number
abbrev pub IsFrom : ℕ → ℕ → (ℕ → Term) → Type 0
IsFrom variables n i = (v : ℕ) → v < variables → IsBelow n (i v)

-- The operations on described instances, at a clause with this head and so many variables.
pub record ActsTruly (p : PlainDomain) : Type 0 where
  -- a described goal that unifies with the renamed head gives a state that describes the instance
  pub enter : (head : List Term) (variables : ℕ) → IsHead (length head) variables head
      → (call : Abs) (ts : List Term) (n : ℕ) (s : Bindings) → length head ≡ length ts → p.describes call ts → AreBelow n ts
      → UnifiesTo (map (under (raised n)) head) ts (Unified s)
      → (st : StateView) × ((p.enter call head variables).value ≡ Some st) × Speaks p head variables st (then_also (raised n) (bound_to s))
  -- the call describes the literal's arguments
  pub call : (head : List Term) (variables : ℕ) (st : StateView) (i : ℕ → Term) (args : List Term)
      → IsHead (length head) variables head → AreArguments (length head) variables args
      → Speaks p head variables st i → p.describes (p.call st args).value (map (under i) args)
  -- an answer that describes the arguments behind a substitution local to them gives a state that describes the instance there
  pub back : (head : List Term) (variables : ℕ) (st : StateView) (i : ℕ → Term) (args : List Term)
      → IsHead (length head) variables head → AreArguments (length head) variables args
      → (n : ℕ) (f : ℕ → Term) (answer : Abs) → Speaks p head variables st i → IsFrom variables n i
      → IsLocal f n (map (under i) args) → p.describes answer (map (under f) (map (under i) args))
      → (after : StateView) × ((p.back st args answer).value ≡ Some after) × Speaks p head variables after (then_also i f)
  -- so does an action that allows the substitution
  pub refine : (head : List Term) (variables : ℕ) (st : StateView) (i : ℕ → Term) (args : List Term)
      → IsHead (length head) variables head → AreArguments (length head) variables args
      → (n : ℕ) (f : ℕ → Term) (action : Action) → acts_within (length args) action
      → Speaks p head variables st i → IsFrom variables n i → Allows action n (map (under i) args) f
      → (after : StateView) × ((p.refine st args action).value ≡ Some after) × Speaks p head variables after (then_also i f)
  -- the answer describes the head's arguments
  pub exit : (head : List Term) (variables : ℕ) (st : StateView) (i : ℕ → Term) → IsHead (length head) variables head
      → Speaks p head variables st i → p.describes (p.exit st head) (map (under i) head)

-- what every domain owes of soundness
pub record IsSound (p : PlainDomain) : Type 0 where
  pub tells_truly : TellsTruly p
  pub acts_truly : ActsTruly p
