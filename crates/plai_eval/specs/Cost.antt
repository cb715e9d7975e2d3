-- How many steps the evaluation of a clause takes at most: each operation of the domain is one.
use Rattle.std.specs.Prelude.{ℕ, ◌+◌, length, sum_by}
use Rattle.plai_clauses.specs.declared.clause.Clause.{Clause}
use Rattle.plai_clauses.specs.declared.clause.Literal.{Literal}
use Rattle.plai_clauses.specs.declared.clause.Target.{Target}
use Rattle.plai_clauses.specs.declared.clause.Target.TheVariants.{Pred, Builtin}
use Rattle.plai_builtins.specs.Actions.{actions_of}

abbrev pub cost_at : Literal → Target → ℕ
cost_at literal (Pred pred) = 2
cost_at literal Builtin = length (actions_of literal.name (length literal.args))

-- two for a literal of a predicate, one for each action of a builtin
abbrev pub literal_cost : Literal → ℕ
literal_cost literal = cost_at literal literal.target

-- two for the clause, beside its literals
abbrev pub cost_of : Clause → ℕ
cost_of clause = 2 + sum_by literal_cost clause.body
