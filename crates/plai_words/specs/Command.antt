-- Which words form a command, and with which settings (POSIX.1-2017, Base Definitions, 12.2).
use Rattle.std.specs.Prelude.{ℕ, List, [], ◌∷◌, Bool, true, false, not, Option, None, Some, ◌&&◌, unwrap_or, option_and_then, map, slice_get, if◌then◌else◌}
use Rattle.std.proofs.Common.{Bor}
use Rattle.plai_words.specs.declared.types.DomainName.TheVariants.{Ground}
use Rattle.plai_words.specs.declared.types.Settings.{Settings}
use Rattle.plai_words.specs.Given.{Given, given}

-- the words that references point to
abbrev pub texts : List (Bor (List ℕ)) → List (List ℕ)
texts words = map (λ word. word.now) words

-- a list with one item at most
abbrev pub at_most_one : {A : Type 0} → List A → Bool
at_most_one [] = true
at_most_one (x ∷ []) = true
at_most_one (x ∷ y ∷ zs) = false

-- each option stands at most once
abbrev pub is_once : Given → Bool
is_once g = at_most_one g.domains && at_most_one g.depths && at_most_one g.rows && at_most_one g.makes

abbrev pub is_nil : {A : Type 0} → List A → Bool
is_nil [] = true
is_nil (x ∷ xs) = false

-- either a file and no `--make`, or `--make` and no file
abbrev pub is_work : Given → Bool
is_work g = if is_nil g.makes then not (is_nil g.files) else is_nil g.files

-- the settings, with what holds where an option doesn't stand
abbrev pub chosen : Given → Settings
chosen g = record {
  domain = unwrap_or (slice_get g.domains 0) Ground;
  depth = unwrap_or (slice_get g.depths 0) 3;
  rows = unwrap_or (slice_get g.rows 0) 20000;
  make = slice_get g.makes 0;
  files = g.files;
}

unfoldable pub completed : Given → Option Settings
completed g = if is_once g && is_work g then Some (chosen g) else None

-- the settings of a command, and none where the words form no command
unfoldable pub settings_of : List (List ℕ) → Option Settings
settings_of words = option_and_then completed (given words None)
