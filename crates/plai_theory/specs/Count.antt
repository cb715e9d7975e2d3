-- Rows with different names.
use Rattle.std.specs.Prelude.{◌≡◌, List, [], ◌∷◌, None}
use Rattle.plai_theory.specs.Domain.{Domain}
use Rattle.plai_theory.specs.LegalWork.{WorkRow, find}

-- no two rows have one name
abbrev pub HaveOwnNames : (d : Domain) → List (WorkRow d) → Type 0
HaveOwnNames d [] = Unit {0}
HaveOwnNames d (r ∷ rows) = (find d rows r.name ≡ None) × HaveOwnNames d rows
