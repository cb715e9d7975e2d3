-- The modules that export what is imported, found by the names of the predicates.
use Rattle.std.specs.Prelude.{ℕ, nat_eq, unwrap_or, Option, Some, None, List, [], ◌∷◌, if◌then◌else◌}
use Rattle.std.specs.Map.{lookup}
use Rattle.std.specs.Cmp.Lexicographic.{pointwise}

-- among the modules that export predicates of one name, by numbers of arguments, the first for that number
abbrev pub exporter_by : List (ℕ × List ℕ) → ℕ → Option (List ℕ)
exporter_by [] arity = None
exporter_by (e ∷ exporters) arity = if nat_eq e.0 arity then Some e.1 else exporter_by exporters arity

-- the modules that export predicates of a name
abbrev pub exporters_in : List (List ℕ × List (ℕ × List ℕ)) → List ℕ → List (ℕ × List ℕ)
exporters_in entries name = unwrap_or (lookup (pointwise nat_eq name) entries) []
