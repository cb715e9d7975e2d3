-- The order of entries and checks: by the names of their modules.
use Rattle.std.specs.Prelude.{◌≡◌, ℕ, true, AllPairs, List}
use Rattle.std.specs.Ordering.{nat_cmp, is_le}
use Rattle.std.specs.Cmp.Lexicographic.{slice_cmp}
use Rattle.plai_clauses.specs.declared.entry.Entry.{Entry}
use Rattle.plai_clauses.specs.declared.check.Check.{Check}
use Rattle.plai_clauses.specs.Program.{ProgramView}

-- the first name is the second, or stands before it in the order of their bytes
abbrev pub IsUpTo : List ℕ → List ℕ → Type 0
IsUpTo a b = is_le (slice_cmp nat_cmp a b) ≡ true

-- The entries stand by module name, and so do the checks.
pub record AreByModule (program : ProgramView) : Type 0 where
  pub entries : AllPairs (λ (a : Entry) (b : Entry). IsUpTo a.module b.module) program.entries
  pub checks : AllPairs (λ (a : Check) (b : Check). IsUpTo a.module b.module) program.checks
