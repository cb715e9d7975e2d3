-- What a table and its arcs keep of a state of work (Hermenegildo, Puebla, Marriott and Stuckey 2000). Rows are numbered
-- from 0, as in the table, and clauses from 1.
use Rattle.std.specs.Prelude.{◌≡◌, ◌↔◌, ◌⊎◌, ◌<◌, ◌≤◌, ℕ, zero, suc, Bool, true, false, cond, ◌&&◌, ◌||◌, nat_eq, count_by, List, [], ◌∷◌, length, Option, Some, None, IsSome}
use Rattle.plai_theory.specs.Words.{IsIn, HasSome, given, item}
use Rattle.plai_theory.specs.Domain.{Domain, Program}
use Rattle.plai_theory.specs.Evaluation.{NameOf, Source, name_of}
use Rattle.plai_theory.specs.LegalWork.{WorkRow, find, live_count}
use Rattle.plai_theory.specs.Count.{HaveOwnNames}

-- what a table keeps of a row
pub record KeptRow (d : Domain) : Type 0 where
  pub name : NameOf d
  pub answer : Option d.Value
  pub live : Bool

-- the rows of a table, the dirty pairs of a row and a clause, and the rows that each pair calls
pub record Keeping (d : Domain) : Type 0 where
  pub rows : List (KeptRow d)
  pub dirty : ℕ → ℕ → Bool
  pub calls : ℕ → ℕ → ℕ → Bool

-- the answers of kept rows, none where there is no such row
abbrev pub kept_source : (d : Domain) → List (KeptRow d) → Source d
kept_source d [] p v = None
kept_source d (k ∷ kept) p v = cond (d.same_name k.name (name_of d p v)) k.answer (kept_source d kept p v)

-- the clause of this number, from 1, of a predicate
abbrev pub clause_at : (d : Domain) → Program d → d.Pred → ℕ → Option d.Clause
clause_at d g p zero = None
clause_at d g p (suc i) = item (g.clauses p) i

-- the row of this number has that name
abbrev pub IsNamed : (d : Domain) → List (KeptRow d) → ℕ → NameOf d → Type 0
IsNamed d kept j x = HasSome (λ (k : KeptRow d). k.name ≡ x) (item kept j)

-- whether the row of this number is live
abbrev pub is_live : (d : Domain) → List (KeptRow d) → ℕ → Bool
is_live d kept n = given false (λ (r : KeptRow d). r.live) (item kept n)

-- A kept row, of number n, and its arcs are those of a row under work. Pairs that are not dirty call the rows whose names
-- the row's last evaluation called, but for the open pair, if there is one, whose calls are not all set yet.
pub record KeepsRow (d : Domain) (g : Program d) (k : Keeping d) (open_pair : Option (ℕ × ℕ)) (n : ℕ) (kept : KeptRow d) (row : WorkRow d) : Type 0 where
  pub name : kept.name ≡ row.name
  pub answer : kept.answer ≡ row.answer
  pub live : kept.live ≡ row.live
  pub dirty : (i : ℕ) (c : d.Clause) → item (g.clauses row.name.pred) i ≡ Some c → k.dirty n (suc i) ≡ row.dirty i
  pub calls : (i : ℕ) (c : d.Clause) → item (g.clauses row.name.pred) i ≡ Some c → row.dirty i ≡ false
      → (open_pair ≡ Some (n, i) → ⊥) → (j : ℕ) (y : NameOf d) → IsNamed d k.rows j y → (k.calls n (suc i) j ≡ true) ↔ IsIn y (row.calls i)
  pub dirty_clauses : (m : ℕ) → k.dirty n m ≡ true → IsSome (clause_at d g row.name.pred m)
  pub calls_clauses : (m j : ℕ) → k.calls n m j ≡ true → IsSome (clause_at d g row.name.pred m)

-- both are absent, or both are there and related
abbrev pub AtBoth : {A B : Type 0} → (A → B → Type 0) → Option A → Option B → Type 0
AtBoth R None None = Unit {0}
AtBoth R None (Some b) = ⊥
AtBoth R (Some a) None = ⊥
AtBoth R (Some a) (Some b) = R a b

-- A table and its arcs keep these rows under work, in their order; the arcs name rows of the table alone.
pub record Keeps (d : Domain) (g : Program d) (k : Keeping d) (open_pair : Option (ℕ × ℕ)) (rows : List (WorkRow d)) : Type 0 where
  pub own : HaveOwnNames d rows
  pub each : (n : ℕ) → AtBoth (KeepsRow d g k open_pair n) (item k.rows n) (item rows n)
  pub dirty_rows : (n m : ℕ) → k.dirty n m ≡ true → IsSome (item k.rows n)
  pub calls_rows : (n m j : ℕ) → k.calls n m j ≡ true → IsSome (item k.rows n) × IsSome (item k.rows j)

-- Each name that a pair that is not dirty called has a row, which is live where the pair's is. Excepted are the pair that
-- waits for its rows, if there is one, and the pairs that are marked as unmet.
pub record IsMet (d : Domain) (g : Program d) (waiting : Option (ℕ × ℕ)) (unmet : ℕ → ℕ → Bool) (rows : List (WorkRow d)) : Type 0 where
  pub met : (n : ℕ) (r : WorkRow d) → item rows n ≡ Some r → (i : ℕ) (c : d.Clause) → item (g.clauses r.name.pred) i ≡ Some c
      → r.dirty i ≡ false → (waiting ≡ Some (n, i) → ⊥) → unmet n (suc i) ≡ false → (y : NameOf d) → IsIn y (r.calls i)
      → (q : WorkRow d) × (find d rows y ≡ Some q) × (r.live ≡ true → q.live ≡ true)

-- The same, but that rows of names that a pending pair called may be dormant where its own row is live.
pub record IsMetBut (d : Domain) (g : Program d) (pending unmet : ℕ → ℕ → Bool) (rows : List (WorkRow d)) : Type 0 where
  pub met : (n : ℕ) (r : WorkRow d) → item rows n ≡ Some r → (i : ℕ) (c : d.Clause) → item (g.clauses r.name.pred) i ≡ Some c
      → r.dirty i ≡ false → unmet n (suc i) ≡ false → (y : NameOf d) → IsIn y (r.calls i)
      → (q : WorkRow d) × (find d rows y ≡ Some q) × (pending n (suc i) ≡ false → r.live ≡ true → q.live ≡ true)

-- A pair of a live row is marked as unmet only where the limit of live rows is met, and then some name that it called is no
-- live row.
pub record IsFull (d : Domain) (g : Program d) (limit : ℕ) (unmet : ℕ → ℕ → Bool) (rows : List (WorkRow d)) : Type 0 where
  pub full : (n m : ℕ) → unmet n m ≡ true → limit ≤ live_count d rows
  pub pairs : (n m : ℕ) → unmet n m ≡ true → (r : WorkRow d) × (item rows n ≡ Some r) × (r.live ≡ true) × IsSome (clause_at d g r.name.pred m)
  pub missing : (n : ℕ) (r : WorkRow d) → item rows n ≡ Some r → (i : ℕ) → r.dirty i ≡ false → unmet n (suc i) ≡ true
      → (y : NameOf d) × IsIn y (r.calls i) × ((q : WorkRow d) → find d rows y ≡ Some q → q.live ≡ false)

-- no pair, and one more pair
abbrev pub no_pair : ℕ → ℕ → Bool
no_pair n m = false

abbrev pub with_pair : ℕ → ℕ → (ℕ → ℕ → Bool) → ℕ → ℕ → Bool
with_pair n m pairs a b = (nat_eq a n && nat_eq b m) || pairs a b

-- no pair of a live row is dirty
abbrev pub IsClean : (d : Domain) → Keeping d → Type 0
IsClean d k = (n m : ℕ) → is_live d k.rows n ≡ true → k.dirty n m ≡ false

-- how many kept rows are live
abbrev pub kept_live : (d : Domain) → List (KeptRow d) → ℕ
kept_live d kept = count_by (λ (k : KeptRow d). k.live) kept

-- As many rows are live, or more, and each name keeps its row, which stays live where it is.
pub record Extends (d : Domain) (kept new : List (KeptRow d)) : Type 0 where
  pub live : kept_live d kept ≤ kept_live d new
  pub names : (j : ℕ) (y : NameOf d) → IsNamed d kept j y → IsNamed d new j y
  pub lives : (j : ℕ) → is_live d kept j ≡ true → is_live d new j ≡ true

-- Pairs that are dirty are of rows of the table.
abbrev pub AreOfRows : {d : Domain} → Keeping d → Type 0
AreOfRows k = (n m : ℕ) → k.dirty n m ≡ true → n < length k.rows

-- the name has a live row
abbrev pub HasLiveRow : (d : Domain) → List (KeptRow d) → NameOf d → Type 0
HasLiveRow d kept x = (j : ℕ) × IsNamed d kept j x × (is_live d kept j ≡ true)

-- each entry has a live row, or the limit is met
abbrev pub AreOpened : (d : Domain) → Program d → ℕ → List (KeptRow d) → Type 0
AreOpened d g limit kept = ((x : NameOf d) → IsIn x g.entries → HasLiveRow d kept x) ⊎ (limit ≤ kept_live d kept)
