-- The clauses that predicates gained at an edit (Hermenegildo, Puebla, Marriott and Stuckey 2000). Rows are numbered from 0, as
-- in the table, and clauses from 1.
use Rattle.std.specs.Prelude.{ℕ, Bool, false, not, ◌&&◌, nat_lt, List, length, slice_get}
use Rattle.plai_theory.specs.Words.{given}
use Rattle.plai_terms.specs.declared.pred_key.PredKey.{PredKey}
use Rattle.plai_clauses.specs.Program.{ProgramView, clauses_of}
use Rattle.plai_table.specs.Rows.{TableRow}

-- the number is one behind the first, up to the last
abbrev pub is_past : ℕ → ℕ → ℕ → Bool
is_past first last c = nat_lt first c && not (nat_lt last c)

-- the clause of this number is one that the predicate gained
abbrev pub is_gained : ProgramView → ProgramView → PredKey → ℕ → Bool
is_gained before after pred c = is_past (length (clauses_of before pred)) (length (clauses_of after pred)) c

-- the clause of this number is one that the predicate of the row of this number gained
abbrev pub gained_at : {V : Type 0} → ProgramView → ProgramView → List (TableRow V) → ℕ → ℕ → Bool
gained_at before after rows n c = given false (λ r. is_gained before after r.name.pred c) (slice_get rows n)
