-- The predicates that a change touches: those whose clauses it may change, where work on it begins (after Hermenegildo, Puebla,
-- Marriott and Stuckey 2000).
use Rattle.std.specs.Prelude.{◌≡◌, true, false, List, ◌∷◌}
use Rattle.std.specs.List.{list_any}
use Rattle.plai_terms.specs.declared.pred_key.PredKey.{PredKey}
use Rattle.plai_clauses.specs.Program.{ProgramView, same_pred, clauses_of}

-- each predicate that isn't touched has the clauses that it had
abbrev pub LeavesOthers : List PredKey → ProgramView → ProgramView → Type 0
LeavesOthers touched before after = (pred : PredKey) → list_any (same_pred pred) touched ≡ false → clauses_of after pred ≡ clauses_of before pred

-- what was touched stays touched
abbrev pub StayTouched : List PredKey → List PredKey → Type 0
StayTouched old new = (pred : PredKey) → list_any (same_pred pred) old ≡ true → list_any (same_pred pred) new ≡ true

-- this predicate is touched, and those that were
abbrev pub AreTouchedWith : PredKey → List PredKey → List PredKey → Type 0
AreTouchedWith one old new = (pred : PredKey) → list_any (same_pred pred) new ≡ list_any (same_pred pred) (one ∷ old)

-- a change of a program, with what was touched before it and what is touched behind it
pub record Touches (old new : List PredKey) (before after : ProgramView) : Type 0 where
  pub others : LeavesOthers new before after
  pub kept : StayTouched old new
