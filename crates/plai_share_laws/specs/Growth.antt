-- How the sets that are formed grow with the value or state from which they are formed (Jacobs and Langen 1992).
use Rattle.std.specs.Prelude.{◌≡◌, ℕ, List}
use Rattle.plai_theory.specs.Words.{IsIn}
use Rattle.plai_base.specs.Sets.{IsWithin}
use Rattle.plai_share_laws.specs.Groups.{IsPart}
use Rattle.plai_share_laws.specs.Shares.{Shares}

-- of as many slots, with fewer groups and more free slots
pub record IsSmaller (v w : Shares) : Type 0 where
  pub slots : v.slots ≡ w.slots
  pub groups : IsWithin v.groups w.groups
  pub free : IsPart w.free v.free

-- each set of the first list is contained in one of the second
abbrev pub AreContained : List (List ℕ) → List (List ℕ) → Type 0
AreContained xs ys = (x : List ℕ) → IsIn x xs → (y : List ℕ) × IsIn y ys × IsWithin x y
