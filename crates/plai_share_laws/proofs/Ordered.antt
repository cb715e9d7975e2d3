-- The order of sets of groups, apart from that both are values; values; what is covered.
use Rattle.std.specs.Prelude.{◌≡◌, ℕ, ◌<◌, List, Option}
use Rattle.plai_theory.specs.Words as words
use Rattle.plai_share_laws.specs.Groups.{Has, IsPart}
use Rattle.plai_share_laws.proofs.Members.{IsIn, IsWithin, IsAscending}
use Rattle.plai_share_laws.specs.Shares.{Shares}

-- fewer groups and more free slots
pub record Leq (v w : Shares) : Type 0 where
  pub slots : v.slots ≡ w.slots
  pub groups : IsWithin v.groups w.groups
  pub free : IsPart w.free v.free

-- the slots of the set are below n
abbrev pub IsBelow : ℕ → ℕ → Type 0
IsBelow n mask = (k : ℕ) → Has mask k → k < n

-- a value of so many slots
pub record IsValue (n : ℕ) (v : Shares) : Type 0 where
  pub slots : v.slots ≡ n
  pub ascending : IsAscending v.groups
  pub inhabited : (g : ℕ) → IsIn g v.groups → (k : ℕ) × Has g k
  pub below : (g : ℕ) → IsIn g v.groups → IsBelow n g
  pub free : IsBelow n v.free

abbrev pub InOrder : ℕ → Shares → Shares → Type 0
InOrder n v w = IsValue n v × IsValue n w × Leq v w

-- each set of the first list is contained in one of the second
abbrev pub AreCovered : List (List ℕ) → List (List ℕ) → Type 0
AreCovered xs ys = (x : List ℕ) → IsIn x xs → (y : List ℕ) × IsIn y ys × IsWithin x y

-- none below all
abbrev pub UpTo : Option Shares → Option Shares → Type 0
UpTo = words.UpTo Leq
