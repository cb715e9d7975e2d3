use Rattle.std.proofs.Common.{◌≡◌, drop, map}
use Rattle.plai_clauses.specs.Builtins.{first_of_key}
use Rattle.plai_clauses.proofs.builtin.first_of_key.Given as goal

-- no row so far has the name and the number of arguments
abbrev pub invariant-loop-row : goal.invariant-loop-row
invariant-loop-row l =
    first_of_key (map (λ row. (row.0.now, row.1, row.2)) (drop l.row-index l.rows)) l.name l.arity
    ≡ first_of_key (map (λ row. (row.0.now, row.1, row.2)) l.rows) l.name l.arity
