-- The names of the options, whole, and a value behind `=` (GNU Coding Standards, 4.8; POSIX.1-2017, Base Definitions, 12.2).
use Rattle.std.specs.Prelude.{ℕ, List, [], ◌∷◌, Bool, false, Option, None, Some, ◌&&◌, ◌||◌, ◌==◌, not, nat_eq, nat_lt, length, drop, codes, if◌then◌else◌}
use Rattle.std.specs.List.{starts_with}
use Rattle.std.specs.Str.{bytes_eq}

-- an option
pub data Key : Type 0 where
  Domain : Key
  Depth : Key
  Rows : Key
  Make : Key

-- a word that begins with `-`
unfoldable pub is_dashed : List ℕ → Bool
is_dashed word = starts_with nat_eq word (codes "-")

-- a word that begins with `-` and is longer than that
unfoldable pub is_option : List ℕ → Bool
is_option word = is_dashed word && nat_lt 1 (length word)

-- one dash, with more behind it that isn't a second one
unfoldable pub is_bundle : List ℕ → Bool
is_bundle [] = false
is_bundle (first ∷ []) = false
is_bundle (first ∷ second ∷ rest) = (first == 45) && not (second == 45)

-- the word that ends the options
unfoldable pub is_end : List ℕ → Bool
is_end word = bytes_eq word (codes "--")

-- the option whose name the word is
unfoldable pub named : List ℕ → Option Key
named word =
    if bytes_eq word (codes "--domain") then Some Domain
    else if bytes_eq word (codes "--depth") then Some Depth
    else if bytes_eq word (codes "--rows") then Some Rows
    else if bytes_eq word (codes "--make") then Some Make
    else None

-- what stands behind a prefix
unfoldable pub behind : List ℕ → List ℕ → Option (List ℕ)
behind prefix word = if starts_with nat_eq word prefix then Some (drop (length prefix) word) else None

-- the option with the value that stands behind its prefix, or else another answer
abbrev pub valued : Key → Option (List ℕ) → Option (Key × List ℕ) → Option (Key × List ℕ)
valued key None other = other
valued key (Some value) other = Some (key, value)

-- the option that the word names, and its value behind `=`
unfoldable pub attached : List ℕ → Option (Key × List ℕ)
attached word =
    valued Domain (behind (codes "--domain=") word)
    (valued Depth (behind (codes "--depth=") word)
    (valued Rows (behind (codes "--rows=") word)
    (valued Make (behind (codes "--make=") word) None)))

-- such a word stands before the first that ends the options
unfoldable pub has_bundle : List (List ℕ) → Bool
has_bundle [] = false
has_bundle (word ∷ rest) = if is_end word then false else (is_bundle word || has_bundle rest)
