-- Rows that are gathered in turn: a list of numbers, and a mark for each row that is in it.
use Rattle.std.specs.Prelude.{◌≡◌, ◌↔◌, ◌⊎◌, ℕ, ◌<◌, ◌≤◌, Bool, true, false, count_by, List, length, get_or, slice_get, Some}
use Rattle.plai_theory.specs.Words.{IsIn, AreDistinct, item}
use Rattle.plai_repair.specs.Lost.{IsLost}

-- each row in the list is marked, and no other one; none stands in it twice
pub record AreMarked (marks : List Bool) (rows : List ℕ) : Type 0 where
  pub agree : (j : ℕ) → (get_or marks j false ≡ true) ↔ IsIn j rows
  pub distinct : AreDistinct rows
  pub count : count_by (λ b. b) marks ≡ length rows

-- the rows that come stand behind those that were there, unless they were
pub record Gathers (comes : ℕ → Type 0) (marks : List Bool) (rows : List ℕ) (new_marks : List Bool) (new : List ℕ) : Type 0 where
  pub long : length new_marks ≡ length marks
  pub marked : AreMarked new_marks new
  pub keeps : (k j : ℕ) → item rows k ≡ Some j → item new k ≡ Some j
  pub sound : (j : ℕ) → IsIn j new → IsIn j rows ⊎ comes j
  pub whole : (j : ℕ) → comes j → IsIn j new

-- a row of one of the first pairs of a row and a clause
abbrev pub IsRowOf : List (ℕ × ℕ) → ℕ → ℕ → Type 0
IsRowOf pairs count j = (k : ℕ) × (c : ℕ) × (k < count) × (slice_get pairs k ≡ Some (j, c))

-- one of the first rows of a list
abbrev pub IsAmong : List ℕ → ℕ → ℕ → Type 0
IsAmong rows count j = (k : ℕ) × (k < count) × (slice_get rows k ≡ Some j)

-- a row that a clause from 1 to the last calls
abbrev pub IsCalledTo : (ℕ → ℕ → Bool) → ℕ → ℕ → Type 0
IsCalledTo calls last j = (c : ℕ) × (1 ≤ c) × (c ≤ last) × (calls c j ≡ true)

-- calls from the called row to its caller
abbrev pub turned : (ℕ → ℕ → ℕ → Bool) → ℕ → ℕ → ℕ → Bool
turned calls n c j = calls j c n

-- The first rows are gathered, and the callers of the first of the gathered rows; all that is gathered is lost.
pub record Spreads (loses : ℕ → Type 0) (calls : ℕ → ℕ → ℕ → Bool) (size index : ℕ) (marks : List Bool) (rows : List ℕ) : Type 0 where
  pub long : length marks ≡ size
  pub marked : AreMarked marks rows
  pub sound : (j : ℕ) → IsIn j rows → IsLost loses calls j
  pub first : (j : ℕ) → loses j → IsIn j rows
  pub closed : (k j c n : ℕ) → k < index → item rows k ≡ Some j → calls n c j ≡ true → IsIn n rows
