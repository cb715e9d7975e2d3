-- Names looked up in a table, one after another: the rows that they have, and the names that have none.
use Rattle.std.specs.Prelude.{ℕ, List, [], ◌∷◌, ◌++◌}
use Rattle.plai_theory.specs.Domain.{Domain}
use Rattle.plai_theory.specs.Evaluation.{NameOf}
use Rattle.plai_fix_laws.specs.WorkStates.{KeptRow, IsNamed}

pub data Looks (d : Domain) (kept : List (KeptRow d)) : List (NameOf d) → List ℕ → List (NameOf d) → Type 0 where
  Begin : Looks d kept [] [] []
  -- the next name has this row
  Found : {names missing : List (NameOf d)} {rows : List ℕ} (y : NameOf d) (j : ℕ) → Looks d kept names rows missing → IsNamed d kept j y
      → Looks d kept (names ++ y ∷ []) (rows ++ j ∷ []) missing
  -- it has none
  Missed : {names missing : List (NameOf d)} {rows : List ℕ} (y : NameOf d) → Looks d kept names rows missing → ((j : ℕ) → IsNamed d kept j y → ⊥)
      → Looks d kept (names ++ y ∷ []) rows (missing ++ y ∷ [])
