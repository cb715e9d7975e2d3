-- What the operations of a domain are given: heads and arguments of clauses within the bounds.
use Rattle.std.specs.Prelude.{◌≡◌, ℕ, ◌+◌, ◌≤◌, true, List, length}
use Rattle.plai_terms.specs.declared.term.Term.{Term}
use Rattle.plai_terms.specs.declared.prop.Prop.{Prop}
use Rattle.plai_terms.specs.declared.abs.Abs.{Abs}
use Rattle.plai_domain.specs.Instances.{all_below, speaks_within}
use Rattle.plai_domain.specs.Plain.{StateView, PlainDomain}

-- the most arguments of a predicate
abbrev pub most_arguments : ℕ
most_arguments = 16

-- the most slots at once: for the head's arguments, the clause's variables and a literal's arguments
abbrev pub most_slots : ℕ
most_slots = 64

-- the head of a clause of n arguments and v variables
pub record IsHead (n v : ℕ) (head : List Term) : Type 0 where
  pub arity : length head ≡ n
  pub few : n ≤ most_arguments
  pub slots : n + v ≤ most_slots
  pub below : all_below v head ≡ true

-- the arguments of a literal of such a clause
pub record AreArguments (n v : ℕ) (args : List Term) : Type 0 where
  pub few : length args ≤ most_arguments
  pub slots : n + v + length args ≤ most_slots
  pub below : all_below v args ≡ true

-- a value of n arguments
abbrev pub IsValue : PlainDomain → ℕ → Abs → Type 0
IsValue p n a = p.Leq n a a

-- a value of a predicate's arguments
abbrev pub IsSmallValue : PlainDomain → Abs → Type 0
IsSmallValue p a = (n : ℕ) × (n ≤ most_arguments) × IsValue p n a

-- a state of a clause of as many arguments and variables as it says
abbrev pub IsState : PlainDomain → StateView → Type 0
IsState p s = p.Below s.arity s.variables s s

-- values of one number of arguments
abbrev pub AreAlike : PlainDomain → Abs → Abs → Type 0
AreAlike p a b = (n : ℕ) × IsValue p n a × IsValue p n b

-- the property speaks of arguments of the value
abbrev pub SpeaksOf : PlainDomain → Abs → Prop → Type 0
SpeaksOf p a property = (n : ℕ) × IsValue p n a × speaks_within n property
