-- How parts of the work lower the three numbers that show that it ends.
use Rattle.std.specs.Prelude.{◌≡◌, ℕ, ◌<◌, Bool, true, false}
use Rattle.plai_theory.specs.Domain.{Domain, Program}
use Rattle.plai_fix_rows.specs.declared.change.Change.{Change}
use Rattle.plai_fix_rows.specs.declared.change.Change.TheVariants.{Nothing, Grown, Opened}
use Rattle.plai_fix_laws.specs.WorkStates.{Keeping, IsClean}
use Rattle.plai_fix_laws.specs.Measures.{kept_room, kept_ranks, kept_dirties}

-- the greater of the two changes
abbrev pub both_of : Change → Change → Change
both_of Nothing b = b
both_of Grown Nothing = Grown
both_of Grown b = b
both_of Opened b = Opened

-- what coming rows change
abbrev pub change_of : Bool → Change
change_of true = Opened
change_of false = Nothing

-- what a growth changes: it is a first answer or a later one
abbrev pub growth_of : Bool → Change
growth_of true = Opened
growth_of false = Grown

-- all three numbers stay, the ranks fall and the room stays, or the room falls
abbrev pub Shifts : (d : Domain) → Program d → ℕ → (d.Pred → d.Value → ℕ) → Keeping d → Keeping d → Change → Type 0
Shifts d g limit rank k new Nothing =
    (kept_room d limit new.rows ≡ kept_room d limit k.rows) × (kept_ranks d rank new.rows ≡ kept_ranks d rank k.rows)
    × (kept_dirties d g new ≡ kept_dirties d g k)
Shifts d g limit rank k new Grown = (kept_room d limit new.rows ≡ kept_room d limit k.rows) × (kept_ranks d rank new.rows < kept_ranks d rank k.rows)
Shifts d g limit rank k new Opened = kept_room d limit new.rows < kept_room d limit k.rows

-- the dirty clauses fall and the others stay, the ranks fall and the room stays, or the room falls
abbrev pub Moves : (d : Domain) → Program d → ℕ → (d.Pred → d.Value → ℕ) → Keeping d → Keeping d → Change → Type 0
Moves d g limit rank k new Nothing =
    (kept_room d limit new.rows ≡ kept_room d limit k.rows) × (kept_ranks d rank new.rows ≡ kept_ranks d rank k.rows)
    × (kept_dirties d g new < kept_dirties d g k)
Moves d g limit rank k new Grown = (kept_room d limit new.rows ≡ kept_room d limit k.rows) × (kept_ranks d rank new.rows < kept_ranks d rank k.rows)
Moves d g limit rank k new Opened = kept_room d limit new.rows < kept_room d limit k.rows

-- where pairs were evaluated as long as nothing grew: no pair of a live row is dirty, the ranks fell, or the room did
abbrev pub Rests : (d : Domain) → ℕ → (d.Pred → d.Value → ℕ) → Keeping d → Keeping d → Change → Type 0
Rests d limit rank k new Nothing = IsClean d new
Rests d limit rank k new Grown = (kept_room d limit new.rows ≡ kept_room d limit k.rows) × (kept_ranks d rank new.rows < kept_ranks d rank k.rows)
Rests d limit rank k new Opened = kept_room d limit new.rows < kept_room d limit k.rows

-- where no answer that is there grows either: whether the room fell
abbrev pub Settles : (d : Domain) → ℕ → Keeping d → Keeping d → Bool → Type 0
Settles d limit k new false = IsClean d new
Settles d limit k new true = kept_room d limit new.rows < kept_room d limit k.rows
