-- Legal work: the steps that an incremental fixpoint may take, in any order, and where they end (Hermenegildo, Puebla,
-- Marriott and Stuckey 2000). Clauses are numbered from 0.
use Rattle.std.specs.Prelude.{◌≡◌, ◌≢◌, ◌⊎◌, ℕ, ◌+◌, ◌<◌, Bool, true, false, cond, List, [], ◌∷◌, ◌++◌, map, Option, Some, None, nat_eq}
use Rattle.plai_theory.specs.Words.{IsIn, given, item}
use Rattle.plai_theory.specs.Domain.{Domain, Program}
use Rattle.plai_theory.specs.Evaluation.{Source, NameOf, name_of, answer_of, calls_of, join_of}
use Rattle.plai_theory.specs.LeastTable.{Row, Order, IsOrdered}

-- a row under work
pub record WorkRow (d : Domain) : Type 0 where
  pub name : NameOf d
  pub answer : Option d.Value
  -- rows that no edit has asked for since they were kept are dormant
  pub live : Bool
  -- the clause numbers that are to be evaluated
  pub dirty : ℕ → Bool
  -- what each clause's last evaluation called
  pub calls : ℕ → List (NameOf d)

-- the rows in the order in which they were made
pub record Work (d : Domain) : Type 0 where
  pub rows : List (WorkRow d)
  -- the pair of the last entry, where that was Evaluated
  pub last : Option (NameOf d × ℕ)

pub data LogEntry (d : Domain) : Type 0 where
  -- a row is made
  Made : NameOf d → LogEntry d
  -- a dormant row is live again
  Woke : NameOf d → LogEntry d
  -- the clause of this number of a row is evaluated under the present rows
  Evaluated : NameOf d → ℕ → LogEntry d
  -- the answer of a row grows to this one
  Grew : NameOf d → Option d.Value → LogEntry d

-- the row of a name
abbrev pub find : (d : Domain) → List (WorkRow d) → NameOf d → Option (WorkRow d)
find d [] x = None
find d (r ∷ rows) x = cond (d.same_name r.name x) (Some r) (find d rows x)

-- the present rows as a source
abbrev pub present_source : (d : Domain) → List (WorkRow d) → Source d
present_source d rows p v = given None (λ r. r.answer) (find d rows (name_of d p v))

-- f with a at i
abbrev pub put : {A : Type 0} → (ℕ → A) → ℕ → A → ℕ → A
put f i a j = cond (nat_eq i j) a (f j)

-- whether a list has this name
abbrev pub mentions : (d : Domain) → NameOf d → List (NameOf d) → Bool
mentions d x [] = false
mentions d x (y ∷ ys) = cond (d.same_name y x) true (mentions d x ys)

-- a new row: no answer, all clauses dirty, no calls
abbrev pub new_row : (d : Domain) → NameOf d → WorkRow d
new_row d x = record { name = x; answer = None; live = true; dirty = λ i. true; calls = λ i. [] }

-- the row of x is live
abbrev pub after_waking : (d : Domain) → NameOf d → WorkRow d → WorkRow d
after_waking d x r =
    record { name = r.name; answer = r.answer; live = cond (d.same_name r.name x) true r.live; dirty = r.dirty; calls = r.calls }

-- the row after its clause i was evaluated, and called these names
abbrev pub after_evaluating : (d : Domain) → NameOf d → ℕ → List (NameOf d) → WorkRow d → WorkRow d
after_evaluating d x i names r =
    record {
      name = r.name;
      answer = r.answer;
      live = r.live;
      dirty = cond (d.same_name r.name x) (put r.dirty i false) r.dirty;
      calls = cond (d.same_name r.name x) (put r.calls i names) r.calls;
    }

-- the row after the answer of x became a: each pair whose recorded calls name x is dirty
abbrev pub after_growing : (d : Domain) → NameOf d → Option d.Value → WorkRow d → WorkRow d
after_growing d x a r =
    record {
      name = r.name;
      answer = cond (d.same_name r.name x) a r.answer;
      live = r.live;
      dirty = λ i. cond (mentions d x (r.calls i)) true (r.dirty i);
      calls = r.calls;
    }

-- the names that clause i of x calls under the present rows, and what it answers
abbrev pub calls_now : (d : Domain) → Program d → List (WorkRow d) → NameOf d → ℕ → List (NameOf d)
calls_now d g rows x i = given [] (λ c. calls_of d (present_source d rows) c x.call) (item (g.clauses x.pred) i)

abbrev pub answer_now : (d : Domain) → Program d → List (WorkRow d) → NameOf d → ℕ → Option d.Value
answer_now d g rows x i = given None (λ c. answer_of d (present_source d rows) c x.call) (item (g.clauses x.pred) i)

-- the join of the row's answer with that
abbrev pub next_answer : (d : Domain) → Program d → List (WorkRow d) → NameOf d → ℕ → Option d.Value
next_answer d g rows x i = join_of d (present_source d rows x.pred x.call) (answer_now d g rows x i)

-- the work behind an entry
abbrev pub after : (d : Domain) → Program d → Work d → LogEntry d → Work d
after d g w (Made x) = record { rows = w.rows ++ new_row d x ∷ []; last = None }
after d g w (Woke x) = record { rows = map (after_waking d x) w.rows; last = None }
after d g w (Evaluated x i) = record { rows = map (after_evaluating d x i (calls_now d g w.rows x i)) w.rows; last = Some (x, i) }
after d g w (Grew x a) = record { rows = map (after_growing d x a) w.rows; last = None }

-- A growth of x to a is due: the last entry evaluated a clause of x, and the join with its answer is a and is new.
abbrev pub IsDue : (d : Domain) → Program d → Work d → NameOf d → Option d.Value → Type 0
IsDue d g w x a =
    (i : ℕ) × (w.last ≡ Some (x, i)) × (a ≡ next_answer d g w.rows x i) × (a ≢ present_source d w.rows x.pred x.call)

-- no growth is due
abbrev pub NoneDue : (d : Domain) → Program d → Work d → Type 0
NoneDue d g w =
    (x : NameOf d) (i : ℕ) → w.last ≡ Some (x, i) → next_answer d g w.rows x i ≡ present_source d w.rows x.pred x.call

-- x is among the recorded calls of a clause of the live row of m
pub record IsRecorded (d : Domain) (g : Program d) (rows : List (WorkRow d)) (m x : NameOf d) : Type 0 where
  pub row : WorkRow d
  pub number : ℕ
  pub clause : d.Clause
  pub there : find d rows m ≡ Some row
  pub is_live : row.live ≡ true
  pub is_clause : item (g.clauses m.pred) number ≡ Some clause
  pub names : IsIn x (row.calls number)

-- an entry's name, or a recorded call of a live row
abbrev pub IsDemanded : (d : Domain) → Program d → List (WorkRow d) → NameOf d → Type 0
IsDemanded d g rows x = IsIn x g.entries ⊎ ((m : NameOf d) × IsRecorded d g rows m x)

-- how many rows are live
abbrev pub live_count : (d : Domain) → List (WorkRow d) → ℕ
live_count d [] = 0
live_count d (r ∷ rows) = cond r.live 1 0 + live_count d rows

-- when an entry may stand, with at most so many live rows
abbrev pub IsLegal : (d : Domain) → Program d → ℕ → Work d → LogEntry d → Type 0
IsLegal d g limit w (Made x) = NoneDue d g w × IsDemanded d g w.rows x × (find d w.rows x ≡ None) × (live_count d w.rows < limit)
IsLegal d g limit w (Woke x) =
    NoneDue d g w × IsDemanded d g w.rows x × ((r : WorkRow d) × (find d w.rows x ≡ Some r) × (r.live ≡ false)) × (live_count d w.rows < limit)
IsLegal d g limit w (Evaluated x i) =
    NoneDue d g w × ((r : WorkRow d) × (find d w.rows x ≡ Some r) × (r.live ≡ true) × (r.dirty i ≡ true))
    × ((c : d.Clause) × (item (g.clauses x.pred) i ≡ Some c))
IsLegal d g limit w (Grew x a) = IsDue d g w x a

abbrev pub IsLegalLog : (d : Domain) → Program d → ℕ → Work d → List (LogEntry d) → Type 0
IsLegalLog d g limit w [] = Unit {0}
IsLegalLog d g limit w (e ∷ es) = IsLegal d g limit w e × IsLegalLog d g limit (after d g w e) es

abbrev pub after_all : (d : Domain) → Program d → Work d → List (LogEntry d) → Work d
after_all d g w [] = w
after_all d g w (e ∷ es) = after_all d g (after d g w e) es

-- Where a log ends: no growth is due, no clause of a live row is dirty, and every demanded name is a live row.
pub record IsEnd (d : Domain) (g : Program d) (w : Work d) : Type 0 where
  pub none_due : NoneDue d g w
  pub clean : (x : NameOf d) (r : WorkRow d) → find d w.rows x ≡ Some r → r.live ≡ true → (i : ℕ) (c : d.Clause)
      → item (g.clauses x.pred) i ≡ Some c → r.dirty i ≡ false
  pub met : (x : NameOf d) → IsDemanded d g w.rows x → (r : WorkRow d) × (find d w.rows x ≡ Some r) × (r.live ≡ true)

-- the live rows that recorded calls reach from the entries
pub data IsNeeded (d : Domain) (g : Program d) (rows : List (WorkRow d)) : NameOf d → Type 0 where
  First : {x : NameOf d} → IsIn x g.entries → IsNeeded d g rows x
  Then : {x : NameOf d} (m : NameOf d) → IsNeeded d g rows m → IsRecorded d g rows m x → IsNeeded d g rows x

-- the result of work: the needed rows with their answers, in order
pub record IsLogResult (d : Domain) (g : Program d) (before : Order d) (w : Work d) (rows : List (Row d)) : Type 0 where
  pub ordered : IsOrdered d before rows
  pub sound : (r : Row d) → IsIn r rows
      → IsNeeded d g w.rows r.name × (r.answer ≡ present_source d w.rows r.name.pred r.name.call)
  pub whole : (x : NameOf d) → IsNeeded d g w.rows x → (r : Row d) × IsIn r rows × (r.name ≡ x)

-- work that opens with no rows
abbrev pub no_work : (d : Domain) → Work d
no_work d = record { rows = []; last = None }

-- work that opens with these rows
abbrev pub work_with : (d : Domain) → List (WorkRow d) → Work d
work_with d rows = record { rows = rows; last = None }
