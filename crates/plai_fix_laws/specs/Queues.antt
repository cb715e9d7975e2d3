-- Rows that wait for their dirty pairs to be evaluated.
use Rattle.std.specs.Prelude.{◌≡◌, ◌⊎◌, ◌≤◌, ℕ, Bool, true, List}
use Rattle.std.specs.List.{Contains}
use Rattle.plai_theory.specs.Domain.{Domain}
use Rattle.plai_fix_laws.specs.WorkStates.{Keeping, is_live}

-- each live row that has a dirty pair is among these
abbrev pub IsQueued : {d : Domain} → Keeping d → List ℕ → Type 0
IsQueued {d} k queue = (n m : ℕ) → is_live d k.rows n ≡ true → k.dirty n m ≡ true → Contains queue n

-- Pairs await rows for what they call: those that did, and the clauses of row n up to the last number.
pub record Awaits (n last : ℕ) (pending new : ℕ → ℕ → Bool) : Type 0 where
  pub kept : (a m : ℕ) → pending a m ≡ true → new a m ≡ true
  pub own : (m : ℕ) → 1 ≤ m → m ≤ last → new n m ≡ true
  pub only : (a m : ℕ) → new a m ≡ true → (pending a m ≡ true) ⊎ (a ≡ n)
