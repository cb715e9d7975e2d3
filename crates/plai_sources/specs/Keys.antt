-- Predicate indicators (ISO/IEC 13211-1:1995, 7.1.6.6), as the directives `module` and `use_module` list them.
use Rattle.std.specs.Prelude.{ℕ, cond, Option, Some, None, option_and_then, List, codes}
use Rattle.plai_terms.specs.declared.term.Term.{Term}
use Rattle.plai_domain.specs.Conditions.{most_arguments}
use Rattle.plai_clauses.specs.Builtins.{is_definable}
use Rattle.plai_clauses.specs.ClauseOf.{two_arguments}
use Rattle.plai_sources.specs.Shapes.{atom_of, number_up_to, list_items, each}

-- a name and a number of arguments that a program may define
abbrev pub key : List ℕ → ℕ → Option (List ℕ × ℕ)
key name arity = cond (is_definable name arity) (Some (name, arity)) None

abbrev pub key_from : Term × Term → Option (List ℕ × ℕ)
key_from p = option_and_then (λ name. option_and_then (key name) (number_up_to most_arguments p.1)) (atom_of p.0)

-- the key of P/A
abbrev pub key_of : Term → Option (List ℕ × ℕ)
key_of t = option_and_then key_from (two_arguments (codes "/") t)

-- the keys of [P/A,..]
abbrev pub keys_of : Term → Option (List (List ℕ × ℕ))
keys_of t = option_and_then (each key_of) (list_items t)
