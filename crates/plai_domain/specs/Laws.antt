-- The laws of an abstract domain on plain values. The fixpoint needs them: order, monotone operations, a rank.
use Rattle.std.specs.Prelude.{◌≡◌, ◌≢◌, ℕ, ◌<◌, ◌≤◌, All, List, length}
use Rattle.plai_terms.specs.declared.term.Term.{Term}
use Rattle.plai_terms.specs.declared.prop.Prop.{Prop}
use Rattle.plai_terms.specs.declared.abs.Abs.{Abs}
use Rattle.plai_domain.specs.declared.action.Action.{Action}
use Rattle.plai_domain.specs.Plain.{StateView, PlainDomain, UpTo}
use Rattle.plai_domain.specs.Instances.{speaks_within, acts_within}
use Rattle.plai_domain.specs.Conditions.{most_arguments, IsHead, AreArguments}
use Rattle.plai_domain.specs.Outcomes.{SomeTooLarge}

-- The order is one, both its sides are values, a join is the least of the values above both, and properties give a value.
pub record IsOrdered (p : PlainDomain) : Type 0 where
  pub trans : (n : ℕ) (a b c : Abs) → p.Leq n a b → p.Leq n b c → p.Leq n a c
  pub antisym : (n : ℕ) (a b : Abs) → p.Leq n a b → p.Leq n b a → a ≡ b
  pub left : (n : ℕ) (a b : Abs) → p.Leq n a b → p.Leq n a a
  pub right : (n : ℕ) (a b : Abs) → p.Leq n a b → p.Leq n b b
  pub join_first : (n : ℕ) (a b : Abs) → p.Leq n a a → p.Leq n b b → p.Leq n a (p.join a b)
  pub join_second : (n : ℕ) (a b : Abs) → p.Leq n a a → p.Leq n b b → p.Leq n b (p.join a b)
  pub join_least : (n : ℕ) (a b c : Abs) → p.Leq n a c → p.Leq n b c → p.Leq n (p.join a b) c
  pub describe : (n : ℕ) (pre : List Prop) → n ≤ most_arguments → All (speaks_within n) pre
      → p.Leq n (p.describe n pre) (p.describe n pre)

-- More going in, more coming out, with none below all, at a clause of n arguments and v variables.
pub record IsMonotone (p : PlainDomain) : Type 0 where
  pub enter : (n v : ℕ) (head : List Term) (a b : Abs) → IsHead n v head → p.Leq n a b
      → UpTo (p.Below n v) (p.enter a head v).value (p.enter b head v).value
  pub call : (n v : ℕ) (args : List Term) (s t : StateView) → AreArguments n v args → p.Below n v s t
      → p.Leq (length args) (p.call s args).value (p.call t args).value
  pub back : (n v : ℕ) (args : List Term) (s t : StateView) (a b : Abs) → AreArguments n v args → p.Below n v s t
      → p.Leq (length args) a b → UpTo (p.Below n v) (p.back s args a).value (p.back t args b).value
  pub refine : (n v : ℕ) (args : List Term) (action : Action) (s t : StateView) → AreArguments n v args
      → acts_within (length args) action → p.Below n v s t
      → UpTo (p.Below n v) (p.refine s args action).value (p.refine t args action).value
  pub exit : (n v : ℕ) (head : List Term) (s t : StateView) → IsHead n v head → p.Below n v s t
      → p.Leq n (p.exit s head) (p.exit t head)

-- The rank gets smaller with each strict growth.
pub record IsRanked (p : PlainDomain) : Type 0 where
  pub falls : (n : ℕ) (a b : Abs) → p.Leq n a b → a ≢ b → p.rank b < p.rank a

-- Formed sets grow: where one is too large from a smaller value or state, one is from a larger.
pub record FormsMore (p : PlainDomain) : Type 0 where
  pub enter : (n v : ℕ) (head : List Term) (a b : Abs) → IsHead n v head → p.Leq n a b
      → SomeTooLarge (p.enter a head v).sizes → SomeTooLarge (p.enter b head v).sizes
  pub call : (n v : ℕ) (args : List Term) (s t : StateView) → AreArguments n v args → p.Below n v s t
      → SomeTooLarge (p.call s args).sizes → SomeTooLarge (p.call t args).sizes
  pub back : (n v : ℕ) (args : List Term) (s t : StateView) (a b : Abs) → AreArguments n v args → p.Below n v s t
      → p.Leq (length args) a b → SomeTooLarge (p.back s args a).sizes → SomeTooLarge (p.back t args b).sizes
  pub refine : (n v : ℕ) (args : List Term) (action : Action) (s t : StateView) → AreArguments n v args
      → acts_within (length args) action → p.Below n v s t
      → SomeTooLarge (p.refine s args action).sizes → SomeTooLarge (p.refine t args action).sizes

-- A state has as many arguments and variables as its clause.
pub record IsShaped (p : PlainDomain) : Type 0 where
  pub arity : (n v : ℕ) (s t : StateView) → p.Below n v s t → s.arity ≡ n
  pub variables : (n v : ℕ) (s t : StateView) → p.Below n v s t → s.variables ≡ v

-- what every domain owes
pub record IsLawful (p : PlainDomain) : Type 0 where
  pub ordered : IsOrdered p
  pub monotone : IsMonotone p
  pub ranked : IsRanked p
  pub forms_more : FormsMore p
  pub shaped : IsShaped p
