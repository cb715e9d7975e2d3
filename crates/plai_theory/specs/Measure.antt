-- Three numbers that show that work ends: the room for rows and first answers, the ranks of answers, and the dirty clauses.
use Rattle.std.specs.Prelude.{◌≢◌, ℕ, zero, suc, ◌+◌, ◌*◌, ◌-◌, ◌<◌, Bool, cond, List, [], ◌∷◌, Option, Some, None, length}
use Rattle.plai_theory.specs.Domain.{Domain, Program}
use Rattle.plai_theory.specs.LegalWork.{WorkRow, live_count}

abbrev pub sum_rows : (d : Domain) → (WorkRow d → ℕ) → List (WorkRow d) → ℕ
sum_rows d f [] = 0
sum_rows d f (r ∷ rows) = f r + sum_rows d f rows

-- a rank gets smaller with each strict growth
abbrev pub IsRank : (d : Domain) → (d.Pred → d.Value → ℕ) → Type 0
IsRank d rank = (p : d.Pred) (a b : d.Value) → d.leq p a b → a ≢ b → rank p b < rank p a

abbrev pub one_at_none : {A : Type 0} → Option A → ℕ
one_at_none None = 1
one_at_none (Some a) = 0

abbrev pub rank_of : {A : Type 0} → (A → ℕ) → Option A → ℕ
rank_of rank None = 0
rank_of rank (Some a) = rank a

-- how many of the first n are dirty
abbrev pub dirty_below : (ℕ → Bool) → ℕ → ℕ
dirty_below f zero = 0
dirty_below f (suc n) = cond (f n) 1 0 + dirty_below f n

-- how many live rows have no answer
abbrev pub nones : (d : Domain) → List (WorkRow d) → ℕ
nones d = sum_rows d (λ r. cond r.live (one_at_none r.answer) 0)

-- the sum of the ranks of the answers of live rows
abbrev pub ranks : (d : Domain) → (d.Pred → d.Value → ℕ) → List (WorkRow d) → ℕ
ranks d rank = sum_rows d (λ r. cond r.live (rank_of (rank r.name.pred) r.answer) 0)

-- how many clauses of live rows are dirty
abbrev pub dirties : (d : Domain) → Program d → List (WorkRow d) → ℕ
dirties d g = sum_rows d (λ r. cond r.live (dirty_below r.dirty (length (g.clauses r.name.pred))) 0)

-- how many rows and first answers may still come
abbrev pub room : (d : Domain) → ℕ → List (WorkRow d) → ℕ
room d limit rows = 2 * (limit - live_count d rows) + nones d rows
