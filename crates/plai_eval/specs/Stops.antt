-- What stops an analysis: an evaluation that forms a set of too many groups, or too many rows.
use Rattle.std.specs.Prelude.{ℕ, List, map}
use Rattle.plai_theory.specs.Limits as limits
use Rattle.plai_theory.specs.Claims as claims
use Rattle.plai_terms.specs.declared.plain_row.PlainRow.{PlainRow}
use Rattle.plai_domain.specs.Plain.{PlainDomain}
use Rattle.plai_clauses.specs.Program.{ProgramView}
use Rattle.plai_eval.specs.Meaning.{as_domain, as_limits, as_program}
use Rattle.plai_eval.specs.LeastTable.{row_of}

-- at some stage, the evaluation of a clause for a name that is reached there forms a set of too many groups
abbrev pub IsOver : PlainDomain → ProgramView → Type 0
IsOver p program = limits.IsOver (as_domain p) (as_program p program) (as_limits p)

-- so many different names lie at or below names of these rows, each of the same predicate
abbrev pub HaveBelow : PlainDomain → List PlainRow → ℕ → Type 0
HaveBelow p rows n = claims.HaveBelow (as_domain p) (map (row_of p) rows) n
