-- The calls of clauses of rows, as lists in both directions.
use Rattle.std.specs.Prelude.{◌≡◌, ℕ, suc, ◌-◌, ◌<◌, ◌≤◌, ◌&&◌, Bool, false, cond, min, nat_eq, List, [], ◌∷◌, length}
use Rattle.std.specs.List.{count_by}
use Rattle.plai_arcs.specs.declared.row_calls.Called.{Called}
use Rattle.plai_arcs.specs.declared.row_calls.RowCalls.{RowCalls}
use Rattle.plai_arcs.specs.declared.callers.Callers.{Callers}
use Rattle.plai_arcs.specs.Places.{at}

-- whether a pair is that of a row and a clause
abbrev pub is_pair : ℕ → ℕ → ℕ × ℕ → Bool
is_pair r c pair = nat_eq r pair.0 && nat_eq c pair.1

-- 1 for a test that holds
abbrev pub one_if : Bool → ℕ
one_if b = cond b 1 0

-- the rows that a clause of a row calls, none past the end
abbrev pub calls_in : List Called → ℕ → List ℕ
calls_in clauses c = at (λ v. v.rows.items) [] clauses c

abbrev pub calls_at : List RowCalls → ℕ → ℕ → List ℕ
calls_at rows r c = at (λ q. calls_in q.clauses.items c) [] rows r

-- the pairs that call a row
abbrev pub callers_at : List Callers → ℕ → List (ℕ × ℕ)
callers_at callers q = at (λ v. v.pairs.items) [] callers q

-- how often a row stands among the calls of a clause of a row
abbrev pub call_count : List RowCalls → ℕ → ℕ → ℕ → ℕ
call_count rows r c q = count_by (nat_eq q) (calls_at rows r c)

-- how often a clause of a row stands among the callers of a row
abbrev pub caller_count : List Callers → ℕ → ℕ → ℕ → ℕ
caller_count callers q r c = count_by (is_pair r c) (callers_at callers q)

-- Each call stands in both lists, and once.
pub record AreLinked (rows : List RowCalls) (callers : List Callers) : Type 0 where
  pub agree : (r c q : ℕ) → caller_count callers q r c ≡ call_count rows r c q
  pub once : (r c q : ℕ) → call_count rows r c q ≤ 1

-- one more than how many more calls fit in a clause's list
abbrev pub called_room : Called → ℕ
called_room v = min (suc v.rows.capacity - length v.rows.items) (suc v.places.capacity - length v.places.items)

-- how many more callers fit in a row's list
abbrev pub callers_room : Callers → ℕ
callers_room v = min (v.pairs.capacity - length v.pairs.items) (v.indexes.capacity - length v.indexes.items)

-- one more than how many more calls fit at a clause, and 0 where the clause has no list
abbrev pub clause_room : List Called → ℕ → ℕ
clause_room clauses c = at called_room 0 clauses c

abbrev pub call_room : List RowCalls → ℕ → ℕ → ℕ
call_room rows r c = at (λ q. clause_room q.clauses.items c) 0 rows r

-- so many more calls fit at a clause of a row
abbrev pub HasCallRoom : List RowCalls → ℕ → ℕ → ℕ → Type 0
HasCallRoom rows r c n = n < call_room rows r c

-- how many more callers fit at a row, 0 past the end
abbrev pub caller_room : List Callers → ℕ → ℕ
caller_room callers q = at callers_room 0 callers q

-- whether the last item of a list of pairs is that of a row and a clause
abbrev pub last_is : ℕ → ℕ → List (ℕ × ℕ) → Bool
last_is r c [] = false
last_is r c (x ∷ []) = is_pair r c x
last_is r c (x ∷ y ∷ ys) = last_is r c (y ∷ ys)
