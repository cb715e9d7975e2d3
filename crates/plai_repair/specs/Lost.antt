-- What is lost at an edit (Hermenegildo, Puebla, Marriott and Stuckey 2000). Rows are numbered from 0, as in the table, and
-- clauses from 1.
use Rattle.std.specs.Prelude.{◌≡◌, ◌↔◌, ℕ, Bool, true, false, List, ◌++◌, length, get_or, slice_get}
use Rattle.std.specs.List.{list_any}
use Rattle.plai_theory.specs.Words.{HasSome}
use Rattle.plai_terms.specs.declared.pred_key.PredKey.{PredKey}
use Rattle.plai_clauses.specs.Program.{ProgramView, same_pred, clauses_of}
use Rattle.plai_table.specs.Rows.{TableRow}

-- an edit touches these predicates: each other one has the clauses that it had
abbrev pub AreTouched : ProgramView → ProgramView → List PredKey → Type 0
AreTouched before after touched = (pred : PredKey) → list_any (same_pred pred) touched ≡ false → clauses_of after pred ≡ clauses_of before pred

-- a list that another one begins with
abbrev pub IsPrefix : {A : Type 0} → List A → List A → Type 0
IsPrefix {A} old new = (more : List A) × (new ≡ old ++ more)

-- the predicate of the row of this number lost a clause: its old list is no prefix of its new one
abbrev pub LosesAt : {V : Type 0} → ProgramView → ProgramView → List (TableRow V) → ℕ → Type 0
LosesAt {V} before after rows n =
    HasSome (λ (r : TableRow V). IsPrefix (clauses_of before r.name.pred) (clauses_of after r.name.pred) → ⊥) (slice_get rows n)

-- a row whose predicate lost a clause, or one of which a clause calls such a row, or a row that is lost by its calls
pub data IsLost (loses : ℕ → Type 0) (calls : ℕ → ℕ → ℕ → Bool) : ℕ → Type 0 where
  Itself : {n : ℕ} → loses n → IsLost loses calls n
  ByCall : {n : ℕ} (m i : ℕ) → IsLost loses calls m → calls n i m ≡ true → IsLost loses calls n

-- a mark for each of so many rows, set exactly at the lost ones
pub record AreLost (loses : ℕ → Type 0) (calls : ℕ → ℕ → ℕ → Bool) (size : ℕ) (marks : List Bool) : Type 0 where
  pub long : length marks ≡ size
  pub agree : (n : ℕ) → (get_or marks n false ≡ true) ↔ IsLost loses calls n
