-- What parts of the work lower one after another.
use Rattle.std.proofs.Common.{◌≡◌, ℕ, Bool, refl, ap, ◌∙◌, arith}
use Rattle.plai_theory.specs.Domain.{Domain, Program}
use Rattle.plai_fix_rows.specs.declared.change.Change.{Change}
use Rattle.plai_fix_rows.specs.declared.change.Change.TheVariants.{Nothing, Grown, Opened}
use Rattle.plai_fix_laws.specs.WorkStates.{Keeping}
use Rattle.plai_fix_laws.specs.Changes.{SetsCalls}
use Rattle.plai_fix_laws.specs.Measures.{kept_room, kept_ranks}
use Rattle.plai_fix_rows.specs.Moves.{both_of, Shifts, Moves, Rests}
use Rattle.plai_fix_laws.proofs.Lowering.{set_dirties}

module _ (d : Domain) (g : Program d) (limit : ℕ) (rank : d.Pred → d.Value → ℕ) where
  shift_sets : (k new : Keeping d) (n i : ℕ) (rows : ℕ → Bool) → SetsCalls d k new n i rows → Shifts d g limit rank k new Nothing
  shift_sets k new n i rows set = (ap (kept_room d limit) set.rows, ap (kept_ranks d rank) set.rows, set_dirties d g k new n i rows set)

  pub shifts_then : (k mid new : Keeping d) (a b : Change) → Shifts d g limit rank k mid a → Shifts d g limit rank mid new b
      → Shifts d g limit rank k new (both_of a b)
  shifts_then k mid new Nothing Nothing h i = (i.0 ∙ h.0, i.1 ∙ h.1, i.2 ∙ h.2)
  shifts_then k mid new Nothing Grown h i = (i.0 ∙ h.0, let e = h.1 in let l = i.1 in omega arith)
  shifts_then k mid new Nothing Opened h i = let e = h.0 in omega arith
  shifts_then k mid new Grown Nothing h i = (i.0 ∙ h.0, let l = h.1 in let e = i.1 in omega arith)
  shifts_then k mid new Grown Grown h i = (i.0 ∙ h.0, let l = h.1 in let m = i.1 in omega arith)
  shifts_then k mid new Grown Opened h i = let e = h.0 in omega arith
  shifts_then k mid new Opened Nothing h i = let e = i.0 in omega arith
  shifts_then k mid new Opened Grown h i = let e = i.0 in omega arith
  shifts_then k mid new Opened Opened h i = omega arith

  pub moves_then : (k mid new : Keeping d) (b : Change) → Moves d g limit rank k mid Nothing → Shifts d g limit rank mid new b → Moves d g limit rank k new b
  moves_then k mid new Nothing h i = (i.0 ∙ h.0, i.1 ∙ h.1, let l = h.2 in let e = i.2 in omega arith)
  moves_then k mid new Grown h i = (i.0 ∙ h.0, let e = h.1 in let l = i.1 in omega arith)
  moves_then k mid new Opened h i = let e = h.0 in omega arith

  -- a pair's work: its evaluation, its calls, its growth, and rows
  pub moves_all : (k a b s new : Keeping d) (n i : ℕ) (rows : ℕ → Bool) (grown placed : Change) → Moves d g limit rank k a Nothing → SetsCalls d a b n i rows
      → Shifts d g limit rank b s grown
      → Shifts d g limit rank s new placed → Moves d g limit rank k new (both_of grown placed)
  moves_all k a b s new n i rows grown placed h set c e =
      moves_then k b new (both_of grown placed) (moves_then k a b Nothing h (shift_sets a b n i rows set)) (shifts_then b s new grown placed c e)

  -- the work of pairs, until something grows
  pub moves_rest : (k mid new : Keeping d) (a : Change) → (a ≡ Nothing → ⊥) → kept_room d limit mid.rows ≡ kept_room d limit k.rows
      → kept_ranks d rank mid.rows ≡ kept_ranks d rank k.rows
      → Moves d g limit rank mid new a → Rests d limit rank k new a
  moves_rest k mid new Nothing other e f h = absurd (other refl)
  moves_rest k mid new Grown other e f h = (h.0 ∙ e, let l = h.1 in omega arith)
  moves_rest k mid new Opened other e f h = omega arith
