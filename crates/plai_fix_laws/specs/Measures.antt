-- Three numbers of a table and its arcs, which show that work ends: the room for rows and first answers, the ranks of the
-- answers, and the dirty clauses.
use Rattle.std.specs.Prelude.{◌≡◌, ℕ, ◌<◌, ◌≤◌, zero, suc, ◌+◌, ◌*◌, ◌-◌, cond, List, [], ◌∷◌, length}
use Rattle.plai_theory.specs.Domain.{Domain, Program}
use Rattle.plai_theory.specs.Measure.{one_at_none, rank_of, dirty_below}
use Rattle.plai_fix_laws.specs.WorkStates.{KeptRow, Keeping, kept_live}

-- the sum of a number for each row, by its number from 0
abbrev pub kept_sum : (d : Domain) → (ℕ → KeptRow d → ℕ) → List (KeptRow d) → ℕ
kept_sum d f [] = 0
kept_sum d f (r ∷ kept) = f zero r + kept_sum d (λ j. f (suc j)) kept

-- how many live rows have no answer
abbrev pub kept_nones : (d : Domain) → List (KeptRow d) → ℕ
kept_nones d kept = kept_sum d (λ j r. cond r.live (one_at_none r.answer) 0) kept

-- how many rows and first answers may still come
abbrev pub kept_room : (d : Domain) → ℕ → List (KeptRow d) → ℕ
kept_room d limit kept = 2 * (limit - kept_live d kept) + kept_nones d kept

-- the sum of the ranks of the answers of live rows
abbrev pub kept_ranks : (d : Domain) → (d.Pred → d.Value → ℕ) → List (KeptRow d) → ℕ
kept_ranks d rank kept = kept_sum d (λ j r. cond r.live (rank_of (rank r.name.pred) r.answer) 0) kept

-- how many clauses of live rows are dirty
abbrev pub kept_dirties : (d : Domain) → Program d → Keeping d → ℕ
kept_dirties d g k = kept_sum d (λ j r. cond r.live (dirty_below (λ i. k.dirty j (suc i)) (length (g.clauses r.name.pred))) 0) k.rows

-- Live rows come, and the room falls with them; where none comes, all is as before.
pub record Adds (d : Domain) (limit : ℕ) (k new : Keeping d) : Type 0 where
  pub more : kept_live d k.rows ≤ kept_live d new.rows
  pub room : kept_live d k.rows < kept_live d new.rows → kept_room d limit new.rows < kept_room d limit k.rows
  pub rows : kept_live d new.rows ≡ kept_live d k.rows → new.rows ≡ k.rows
  pub dirty : kept_live d new.rows ≡ kept_live d k.rows → (n m : ℕ) → new.dirty n m ≡ k.dirty n m
