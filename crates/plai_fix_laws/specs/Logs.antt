-- Legal logs of work whose state a table and its arcs keep (Hermenegildo, Puebla, Marriott and Stuckey 2000).
use Rattle.std.specs.Prelude.{◌≡◌, ℕ, ◌≤◌, Bool, true, false, List, Option, Some, None}
use Rattle.plai_theory.specs.Words.{IsIn, UpTo, item}
use Rattle.plai_theory.specs.Domain.{Domain, Program}
use Rattle.plai_theory.specs.Evaluation.{NameOf}
use Rattle.plai_theory.specs.LegalWork.{WorkRow, Work, LogEntry, find, live_count, NoneDue, IsLegalLog, after_all}
use Rattle.plai_theory.specs.Limits.{Limits, AllFit}
use Rattle.plai_fix_laws.specs.WorkStates.{Keeping, Keeps, IsMet, IsMetBut, IsFull, is_live}

-- Names of rows, their answers, and the names that they called are values.
pub record AreValues (d : Domain) (rows : List (WorkRow d)) : Type 0 where
  pub names : (x : NameOf d) (r : WorkRow d) → find d rows x ≡ Some r → d.leq x.pred x.call x.call
  pub answers : (x : NameOf d) (r : WorkRow d) → find d rows x ≡ Some r → UpTo (d.leq x.pred) r.answer r.answer
  pub calls : (x : NameOf d) (r : WorkRow d) → find d rows x ≡ Some r → (i : ℕ) (y : NameOf d) → IsIn y (r.calls i) → d.leq y.pred y.call y.call

-- A table and its arcs keep a state from which work on the program may begin. Its rows are dormant. Names, answers and
-- recorded calls are values, and what a clean pair called has a row.
pub record Opens (d : Domain) (g : Program d) (start : Work d) (k : Keeping d) : Type 0 where
  pub last : start.last ≡ None
  pub keeps : Keeps d g k None start.rows
  pub values : AreValues d start.rows
  pub dormant : (n : ℕ) (r : WorkRow d) → item start.rows n ≡ Some r → r.live ≡ false
  pub met : (n : ℕ) (r : WorkRow d) → item start.rows n ≡ Some r → (i : ℕ) (c : d.Clause) → item (g.clauses r.name.pred) i ≡ Some c
      → r.dirty i ≡ false → (y : NameOf d) → IsIn y (r.calls i) → (q : WorkRow d) × (find d start.rows y ≡ Some q)

-- The log is legal from the start on, no evaluation of it forms a set over the limit, and the table and its arcs keep the
-- state behind it; in that state at most so many rows are live. The start has values alone.
pub record IsLogged (d : Domain) (g : Program d) (limits : Limits d) (limit : ℕ) (start : Work d) (log : List (LogEntry d)) (k : Keeping d) (open_pair : Option (ℕ × ℕ)) : Type 0 where
  pub legal : IsLegalLog d g limit start log
  pub fits : AllFit d g limits start log
  pub keeps : Keeps d g k open_pair (after_all d g start log).rows
  pub few : live_count d (after_all d g start log).rows ≤ limit
  pub values : AreValues d start.rows

-- Between two steps of such a log: no growth is due, and each call has a row, but for pairs that wait or are unmet.
pub record IsWorking (d : Domain) (g : Program d) (limits : Limits d) (limit : ℕ) (start : Work d) (log : List (LogEntry d)) (k : Keeping d)
    (open_pair waiting : Option (ℕ × ℕ)) (unmet : ℕ → ℕ → Bool) : Type 0 where
  pub logged : IsLogged d g limits limit start log k open_pair
  pub none_due : NoneDue d g (after_all d g start log)
  pub met : IsMet d g waiting unmet (after_all d g start log).rows
  pub full : IsFull d g limit unmet (after_all d g start log).rows

-- The same while rows are woken: each pending pair is of a live row, and what it calls may be dormant still.
pub record IsWaking (d : Domain) (g : Program d) (limits : Limits d) (limit : ℕ) (start : Work d) (log : List (LogEntry d)) (k : Keeping d)
    (pending unmet : ℕ → ℕ → Bool) : Type 0 where
  pub logged : IsLogged d g limits limit start log k None
  pub none_due : NoneDue d g (after_all d g start log)
  pub met : IsMetBut d g pending unmet (after_all d g start log).rows
  pub full : IsFull d g limit unmet (after_all d g start log).rows
  pub pairs : (n m : ℕ) → pending n m ≡ true → is_live d k.rows n ≡ true

-- Behind the evaluation of clause i of the row of this name and number: its growth may be due.
pub record IsEvaluated (d : Domain) (g : Program d) (limits : Limits d) (limit : ℕ) (start : Work d) (log : List (LogEntry d)) (k : Keeping d)
    (open_pair : Option (ℕ × ℕ)) (n i : ℕ) (x : NameOf d) (unmet : ℕ → ℕ → Bool) : Type 0 where
  pub logged : IsLogged d g limits limit start log k open_pair
  pub last : (after_all d g start log).last ≡ Some (x, i)
  pub met : IsMet d g (Some (n, i)) unmet (after_all d g start log).rows
  pub full : IsFull d g limit unmet (after_all d g start log).rows
