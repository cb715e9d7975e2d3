-- The least table of a program: the rows that its entries reach, with the answers to which the stages settle.
use Rattle.std.specs.Prelude.{◌≡◌, ℕ, ◌≤◌, List, [], ◌∷◌, Option}
use Rattle.plai_theory.specs.Words.{IsIn}
use Rattle.plai_theory.specs.Domain.{Domain, Program}
use Rattle.plai_theory.specs.Evaluation.{Source, NameOf}
use Rattle.plai_theory.specs.Stages.{stage, Reaches}

-- a row of a table: a name, and an answer or none
pub record Row (d : Domain) : Type 0 where
  pub name : NameOf d
  pub answer : Option d.Value

-- an order of names: the first stands before the second
abbrev pub Order : Domain → Type 1
Order d = NameOf d → NameOf d → Type 0

pub record IsStrictOrder (d : Domain) (before : Order d) : Type 0 where
  pub irrefl : (x : NameOf d) → before x x → ⊥
  pub trans : (x y z : NameOf d) → before x y → before y z → before x z

-- each row's name stands before those of the rows behind it
abbrev pub IsOrdered : (d : Domain) → Order d → List (Row d) → Type 0
IsOrdered d before [] = Unit {0}
IsOrdered d before (r ∷ rs) = ((q : Row d) → IsIn q rs → before r.name q.name) × IsOrdered d before rs

-- these rows, in order, are the names that at most n call steps reach under the source, with its answers
pub record IsTableWithin (d : Domain) (g : Program d) (before : Order d) (s : Source d) (n : ℕ) (rows : List (Row d)) : Type 0 where
  pub ordered : IsOrdered d before rows
  pub sound : (r : Row d) → IsIn r rows → Reaches d g s n r.name × (r.answer ≡ s r.name.pred r.name.call)
  pub whole : (x : NameOf d) → Reaches d g s n x → (r : Row d) × IsIn r rows × (r.name ≡ x)

-- the same with any number of call steps
pub record IsTableOf (d : Domain) (g : Program d) (before : Order d) (s : Source d) (rows : List (Row d)) : Type 0 where
  pub ordered : IsOrdered d before rows
  pub sound : (r : Row d) → IsIn r rows → ((k : ℕ) × Reaches d g s k r.name) × (r.answer ≡ s r.name.pred r.name.call)
  pub whole : (k : ℕ) (x : NameOf d) → Reaches d g s k x → (r : Row d) × IsIn r rows × (r.name ≡ x)

-- the names of n call steps at stage n, with their answers there
abbrev pub IsSnapshot : (d : Domain) → Program d → Order d → ℕ → List (Row d) → Type 0
IsSnapshot d g before n rows = IsTableWithin d g before (stage d g n) n rows

-- the list that all snapshots are, from some number on
abbrev pub IsLeastTable : (d : Domain) → Program d → Order d → List (Row d) → Type 0
IsLeastTable d g before rows = (N : ℕ) × ((n : ℕ) → N ≤ n → IsSnapshot d g before n rows)
