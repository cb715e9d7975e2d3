-- Sets of keys, in which a key is found at once.
use Rattle.std.specs.Prelude.{◌≡◌, ℕ, Bool, ◌&&◌, nat_eq, List}
use Rattle.std.specs.List.{list_any}
use Rattle.std.specs.Cmp.Lexicographic.{pointwise}

-- the test for equal keys
abbrev pub same_key : List ℕ × ℕ → List ℕ × ℕ → Bool
same_key a b = pointwise nat_eq a.0 b.0 && nat_eq a.1 b.1

-- the keys that pass a test are those of the set
abbrev pub IsSetOf : (List ℕ × ℕ → Bool) → List (List ℕ × ℕ) → Type 0
IsSetOf test keys = (key : List ℕ × ℕ) → list_any (same_key key) keys ≡ test key
