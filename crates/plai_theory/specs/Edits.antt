-- What an edit keeps of the old least table, and how work opens with it (Hermenegildo, Puebla, Marriott and Stuckey
-- 2000).
use Rattle.std.specs.Prelude.{◌≡◌, ◌⊎◌, ℕ, true, false, List, [], ◌∷◌, ◌++◌, Some, None}
use Rattle.plai_theory.specs.Words.{IsIn, item}
use Rattle.plai_theory.specs.Domain.{Domain, Program}
use Rattle.plai_theory.specs.Evaluation.{Source, NameOf, calls_of}
use Rattle.plai_theory.specs.LeastTable.{Row}
use Rattle.plai_theory.specs.Tables.{source_of, HasName}
use Rattle.plai_theory.specs.LegalWork.{WorkRow, LogEntry, Made, Woke, Evaluated, Grew, find}
use Rattle.plai_theory.specs.Count.{HaveOwnNames}

-- the predicate lost no clause: its old list is a prefix of its new one
abbrev pub Keeps : (d : Domain) → Program d → Program d → d.Pred → Type 0
Keeps d old new p = (more : List d.Clause) × (new.clauses p ≡ old.clauses p ++ more)

-- chains of calls under a source, the empty one included
pub data Leads (d : Domain) (g : Program d) (s : Source d) : NameOf d → NameOf d → Type 0 where
  Stay : {x : NameOf d} → Leads d g s x x
  Go : {x y : NameOf d} (m : NameOf d) (c : d.Clause) → Leads d g s x m → IsIn c (g.clauses m.pred)
      → IsIn y (calls_of d s c m.call) → Leads d g s x y

-- a row of the old table from which no chain of calls leads to a predicate that lost a clause
abbrev pub IsKept : (d : Domain) → Program d → Program d → List (Row d) → NameOf d → Type 0
IsKept d old new rows x = HasName d rows x × ((y : NameOf d) → Leads d old (source_of d rows) x y → Keeps d old new y.pred)

-- the kept rows, dormant, with their answers and recorded calls; the clauses that a predicate gained are dirty
pub record IsOpening (d : Domain) (old : Program d) (new : Program d) (rows : List (Row d)) (opened : List (WorkRow d)) : Type 0 where
  pub own : HaveOwnNames d opened
  pub kept : (x : NameOf d) (r : WorkRow d) → find d opened x ≡ Some r → IsKept d old new rows x
  pub answers : (x : NameOf d) (r : WorkRow d) → find d opened x ≡ Some r → r.answer ≡ source_of d rows x.pred x.call
  pub dormant : (x : NameOf d) (r : WorkRow d) → find d opened x ≡ Some r → r.live ≡ false
  pub whole : (x : NameOf d) → IsKept d old new rows x → (r : WorkRow d) × (find d opened x ≡ Some r)
  pub old_clauses : (x : NameOf d) (r : WorkRow d) → find d opened x ≡ Some r → (i : ℕ) (c : d.Clause)
      → item (old.clauses x.pred) i ≡ Some c → (r.dirty i ≡ false) × (r.calls i ≡ calls_of d (source_of d rows) c x.call)
  pub new_clauses : (x : NameOf d) (r : WorkRow d) → find d opened x ≡ Some r → (i : ℕ)
      → item (old.clauses x.pred) i ≡ None → (r.dirty i ≡ true) × (r.calls i ≡ [])

-- the edit changes the clauses of no predicate that has a row, and not the entries
pub record IsQuiet (d : Domain) (old : Program d) (new : Program d) (rows : List (Row d)) : Type 0 where
  pub entries : new.entries ≡ old.entries
  pub clauses : (r : Row d) → IsIn r rows → new.clauses r.name.pred ≡ old.clauses r.name.pred

-- the names whose answers grew
abbrev pub grown_names : (d : Domain) → List (LogEntry d) → List (NameOf d)
grown_names d [] = []
grown_names d (Made x ∷ es) = grown_names d es
grown_names d (Woke x ∷ es) = grown_names d es
grown_names d (Evaluated x i ∷ es) = grown_names d es
grown_names d (Grew x a ∷ es) = x ∷ grown_names d es

-- the same, the last first, over those of earlier entries
abbrev pub grown_back : (d : Domain) → List (NameOf d) → List (LogEntry d) → List (NameOf d)
grown_back d grew [] = grew
grown_back d grew (e ∷ es) = grown_back d (grown_names d (e ∷ []) ++ grew) es

-- the predicate gained clause i, or a name that it calls grew
abbrev pub IsCaused : (d : Domain) → Program d → List (NameOf d) → NameOf d → ℕ → List (NameOf d) → Type 0
IsCaused d old grew x i calls = (item (old.clauses x.pred) i ≡ None) ⊎ ((y : NameOf d) × IsIn y grew × IsIn y calls)
