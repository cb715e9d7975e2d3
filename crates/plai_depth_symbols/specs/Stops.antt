-- What counts towards the limit of rows under terms cut at a depth: names whose calls are patterns over the signature of the program
-- (Sato and Tamaki 1984).
use Rattle.std.specs.Prelude.{◌≡◌, ℕ, ◌+◌, ◌≤◌, List, map, length}
use Rattle.plai_theory.specs.Words.{IsIn, AreDistinct}
use Rattle.plai_theory.specs.Domain.{Name}
use Rattle.plai_theory.specs.Claims.{HasAbove}
use Rattle.plai_terms.specs.declared.abs.Abs.{Abs}
use Rattle.plai_terms.specs.declared.pred_key.PredKey.{PredKey}
use Rattle.plai_terms.specs.declared.plain_row.PlainRow.{PlainRow}
use Rattle.plai_clauses.specs.Program.{ProgramView}
use Rattle.plai_eval.specs.Meaning.{as_domain}
use Rattle.plai_eval.specs.LeastTable.{row_of, IsLeastTable}
use Rattle.plai_depth_laws.specs.DepthK.{depth_k}
use Rattle.plai_depth_symbols.specs.Symbols.{signature_of}
use Rattle.plai_depth_symbols.specs.Patterns.{IsPatternOver}

-- The name's call is a pattern over the program's signature, and a name of the table of the same predicate has a call at or above it.
pub record Counts (k : ℕ) (program : ProgramView) (table : List PlainRow) (x : Name PredKey Abs) : Type 0 where
  pub over : IsPatternOver (signature_of program) x.call
  pub below : HasAbove (as_domain (depth_k k)) (map (row_of (depth_k k)) table) x

-- no more different names than the limit count
abbrev pub CountAtMost : ℕ → ProgramView → List PlainRow → ℕ → Type 0
CountAtMost k program table limit =
    (names : List (Name PredKey Abs)) → AreDistinct names → ((x : Name PredKey Abs) → IsIn x names → Counts k program table x)
    → length names ≤ limit

-- More different names than the limit, over the program's signature, lie at or below names of the least table, each of the same
-- predicate.
pub record AreTooManyOver (k : ℕ) (program : ProgramView) (limit : ℕ) : Type 0 where
  pub names : List (Name PredKey Abs)
  pub many : length names ≡ limit + 1
  pub distinct : AreDistinct names
  pub over : (x : Name PredKey Abs) → IsIn x names → IsPatternOver (signature_of program) x.call
  pub below : (table : List PlainRow) → IsLeastTable (depth_k k) program table → (x : Name PredKey Abs) → IsIn x names
      → HasAbove (as_domain (depth_k k)) (map (row_of (depth_k k)) table) x
