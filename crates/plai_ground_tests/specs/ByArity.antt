-- One answer for all calls of one number of arguments.
use Rattle.std.specs.Prelude.{ℕ, nat_eq, Option, Some, None, if◌then◌else◌}
use Rattle.plai_terms.specs.declared.abs.Abs.{Abs}
use Rattle.plai_terms.specs.declared.row_name.RowName.{RowName}

abbrev pub by_arity : ℕ → Abs → RowName → Option Abs
by_arity arity answer name = if nat_eq name.pred.arity arity then Some answer else None
