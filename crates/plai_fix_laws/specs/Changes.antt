-- What a step of work changes of a table and its arcs. Clauses are counted from 0 in the words of steps, from 1 in the arcs.
use Rattle.std.specs.Prelude.{◌≡◌, ◌↔◌, ℕ, zero, suc, Bool, true, cond, not, ◌&&◌, ◌||◌, nat_eq, List, [], ◌∷◌, ◌++◌, length, Option, Some, None, IsSome}
use Rattle.plai_theory.specs.Words.{given, item}
use Rattle.plai_theory.specs.Domain.{Domain, Program}
use Rattle.plai_theory.specs.Evaluation.{NameOf}
use Rattle.plai_fix_laws.specs.WorkStates.{KeptRow, Keeping, clause_at}

-- The pair of row n and clause i, from 0, is dirty no more.
pub record Clears (d : Domain) (k new : Keeping d) (n i : ℕ) : Type 0 where
  pub rows : new.rows ≡ k.rows
  pub dirty : (a m : ℕ) → new.dirty a m ≡ (not (nat_eq a n && nat_eq m (suc i)) && k.dirty a m)
  pub calls : (a m j : ℕ) → new.calls a m j ≡ k.calls a m j

-- The calls of that pair are these rows.
pub record SetsCalls (d : Domain) (k new : Keeping d) (n i : ℕ) (called : ℕ → Bool) : Type 0 where
  pub rows : new.rows ≡ k.rows
  pub dirty : (a m : ℕ) → new.dirty a m ≡ k.dirty a m
  pub own : (j : ℕ) → new.calls n (suc i) j ≡ called j
  pub others : (a m j : ℕ) → (a ≡ n → m ≡ suc i → ⊥) → new.calls a m j ≡ k.calls a m j

-- Row n has that answer.
pub record Answers (d : Domain) (k new : Keeping d) (n : ℕ) (answer : Option d.Value) : Type 0 where
  pub rows : (j : ℕ) → item new.rows j ≡ given None (λ (r : KeptRow d). Some (record { name = r.name; answer = cond (nat_eq j n) answer r.answer; live = r.live })) (item k.rows j)
  pub dirty : (a m : ℕ) → new.dirty a m ≡ (k.calls a m n || k.dirty a m)
  pub calls : (a m j : ℕ) → new.calls a m j ≡ k.calls a m j

-- A live row of that name stands behind the others, and its clauses are dirty.
pub record Makes (d : Domain) (g : Program d) (k new : Keeping d) (x : NameOf d) : Type 0 where
  pub rows : new.rows ≡ k.rows ++ record { name = x; answer = None; live = true } ∷ []
  pub own : (m : ℕ) → (new.dirty (length k.rows) m ≡ true) ↔ IsSome (clause_at d g x.pred m)
  pub others : (a m : ℕ) → (a ≡ length k.rows → ⊥) → new.dirty a m ≡ k.dirty a m
  pub calls : (a m j : ℕ) → new.calls a m j ≡ k.calls a m j

-- the rows, with that of this number live
abbrev pub kept_woken : (d : Domain) → List (KeptRow d) → ℕ → List (KeptRow d)
kept_woken d [] n = []
kept_woken d (r ∷ kept) zero = record { name = r.name; answer = r.answer; live = true } ∷ kept
kept_woken d (r ∷ kept) (suc n) = r ∷ kept_woken d kept n

-- Row n is live.
pub record Wakes (d : Domain) (k new : Keeping d) (n : ℕ) : Type 0 where
  pub rows : new.rows ≡ kept_woken d k.rows n
  pub dirty : (a m : ℕ) → new.dirty a m ≡ k.dirty a m
  pub calls : (a m j : ℕ) → new.calls a m j ≡ k.calls a m j
