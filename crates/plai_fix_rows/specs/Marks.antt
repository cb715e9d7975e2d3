-- Which clauses of a new row are marked, and which rows as an entry's.
use Rattle.std.specs.Prelude.{◌≡◌, ◌↔◌, ℕ, Bool, true, ◌&&◌, nat_lt, not, List, Some, slice_get}
use Rattle.plai_theory.specs.Words.{IsIn}
use Rattle.plai_theory.specs.Domain.{Name}
use Rattle.plai_terms.specs.declared.abs.Abs.{Abs}
use Rattle.plai_terms.specs.declared.pred_key.PredKey.{PredKey}
use Rattle.plai_domain.specs.Plain.{PlainDomain}
use Rattle.plai_clauses.specs.Program.{ProgramView}
use Rattle.plai_table.specs.Rows.{TableRow}
use Rattle.plai_eval.specs.Meaning.{as_program}
use Rattle.plai_fix_rows.specs.Tables.{key_name}

-- the number is one from 1 to the last
abbrev pub is_number : ℕ → ℕ → Bool
is_number last c = nat_lt 0 c && not (nat_lt last c)

-- the rows that are marked as an entry's are those of these names
abbrev pub AreMarkedAs : {V : Type 0} → (V → Abs) → List (Name PredKey Abs) → List (TableRow V) → Type 0
AreMarkedAs {V} value_of names rows = (n : ℕ) (r : TableRow V) → slice_get rows n ≡ Some r → (r.entry ≡ true) ↔ IsIn (key_name value_of r.name) names

-- they are those of the program's entries
abbrev pub AreMarked : {V : Type 0} → (V → Abs) → (p : PlainDomain) → ProgramView → List (TableRow V) → Type 0
AreMarked value_of p program rows = AreMarkedAs value_of (as_program p program).entries rows
