-- What contracts see of the dirty pairs, of the calls and of the room for a change.
use Rattle.std.specs.Prelude.{◌≡◌, ℕ, ◌<◌, Bool, true, nat_eq, List, length}
use Rattle.std.specs.List.{list_any}
use Rattle.plai_arcs.specs.declared.arcs.Arcs.{Arcs}
use Rattle.plai_arcs.specs.Dirty.{dirty_at, HasPlace}
use Rattle.plai_arcs.specs.Links.{calls_at, HasCallRoom, caller_room}

-- whether the pair of a row and a clause is dirty
abbrev pub is_dirty : Arcs → ℕ → ℕ → Bool
is_dirty arcs r c = dirty_at arcs.dirty.items r c

-- whether a clause of a row calls a row
abbrev pub is_call : Arcs → ℕ → ℕ → ℕ → Bool
is_call arcs r c q = list_any (nat_eq q) (calls_at arcs.calls.items r c)

-- There is room for the mark of the pair, for so many calls of it, and for it among the callers of each called row.
pub record IsReserved (arcs : Arcs) (row clause : ℕ) (calls : List ℕ) : Type 0 where
  pub place : HasPlace arcs.dirty.items row clause
  pub calls_fit : HasCallRoom arcs.calls.items row clause (length calls)
  pub callers_fit : (q : ℕ) → list_any (nat_eq q) calls ≡ true → 0 < caller_room arcs.callers.items q
