-- The least table of a program as a table and its arcs keep it behind an edit (Hermenegildo, Puebla, Marriott and Stuckey
-- 2000). Rows are numbered from 0, as in the table, and clauses from 1.
use Rattle.std.specs.Prelude.{◌≡◌, ◌↔◌, ℕ, true, false, List, Some, IsSome}
use Rattle.plai_theory.specs.Words.{IsIn, HasSome, item}
use Rattle.plai_theory.specs.Domain.{Domain, Program}
use Rattle.plai_theory.specs.Evaluation.{NameOf, calls_of}
use Rattle.plai_theory.specs.LeastTable.{Row, Order, IsLeastTable}
use Rattle.plai_theory.specs.Tables.{source_of, HasName}
use Rattle.plai_fix_laws.specs.WorkStates.{KeptRow, Keeping, clause_at, IsNamed}

-- The rows are the least table's, each once, live, with its answer. No pair is dirty. A clause of a row calls the rows that
-- its evaluation under the least table calls, and nothing else is called.
pub record IsWhole (d : Domain) (g : Program d) (order : Order d) (rows : List (Row d)) (k : Keeping d) : Type 0 where
  pub least : IsLeastTable d g order rows
  pub sound : (n : ℕ) (r : KeptRow d) → item k.rows n ≡ Some r → HasName d rows r.name × (r.answer ≡ source_of d rows r.name.pred r.name.call)
  pub whole : (x : NameOf d) → HasName d rows x → (n : ℕ) × IsNamed d k.rows n x
  pub once : (m n : ℕ) (x : NameOf d) → IsNamed d k.rows m x → IsNamed d k.rows n x → m ≡ n
  pub live : (n : ℕ) (r : KeptRow d) → item k.rows n ≡ Some r → r.live ≡ true
  pub clean : (n m : ℕ) → k.dirty n m ≡ false
  pub calls : (n m j : ℕ) (x y : NameOf d) (c : d.Clause) → IsNamed d k.rows n x → clause_at d g x.pred m ≡ Some c → IsNamed d k.rows j y
      → (k.calls n m j ≡ true) ↔ IsIn y (calls_of d (source_of d rows) c x.call)
  pub callers : (n m j : ℕ) → k.calls n m j ≡ true → HasSome (λ (r : KeptRow d). IsSome (clause_at d g r.name.pred m)) (item k.rows n)
  pub called : (n m j : ℕ) → k.calls n m j ≡ true → IsSome (item k.rows j)
