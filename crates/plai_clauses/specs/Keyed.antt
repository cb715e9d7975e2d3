-- The definitions of predicates that are found by their keys.
use Rattle.std.specs.Prelude.{List, map}
use Rattle.plai_terms.specs.declared.pred_key.PredKey.{PredKey}
use Rattle.plai_clauses.specs.declared.clause.Clause.{Clause}
use Rattle.plai_clauses.specs.declared.definition.Definition.{Definition}

-- a definition for each predicate with its clauses
abbrev pub definitions_in : List (PredKey × List Clause) → List Definition
definitions_in entries = map (λ e. record { pred = e.0; clauses = e.1 }) entries
