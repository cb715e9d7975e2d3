-- Rows over a domain's own values as rows of patterns.
use Rattle.std.specs.Prelude.{ℕ, List, All, Option, unwrap_or, IfSome}
use Rattle.std.specs.Option.{option_map}
use Rattle.plai_terms.specs.declared.abs.Abs.{Abs}
use Rattle.plai_terms.specs.declared.abs.Abs.TheVariants.{Nothing}
use Rattle.plai_terms.specs.declared.plain_row.PlainRow.{PlainRow}
use Rattle.plai_terms.specs.declared.prop.Prop.{Prop}
use Rattle.plai_domain.specs.Plain.{PlainDomain}
use Rattle.plai_domain.specs.Names.{name_of}
use Rattle.plai_domain.specs.Conditions.{IsValue}
use Rattle.plai_domain.specs.Instances.{speaks_within}
use Rattle.plai_assert.specs.declared.row.Row.{Row}

module _ {V : Type 0} (value_of : V → Abs) where
  -- the row as a row of patterns
  abbrev pub plain : Row V → PlainRow
  plain row = record { name = name_of value_of row.name.now; answer = unwrap_or (option_map (λ v. value_of v.now) row.answer) Nothing }

  -- call and answer are values of so many arguments
  abbrev pub IsRowOf : PlainDomain → ℕ → Row V → Type 0
  IsRowOf p n row = IsValue p n (value_of row.name.now.call) × IfSome row.answer (λ v. IsValue p n (value_of v.now))

  -- of as many as the row's predicate has
  abbrev pub IsFit : PlainDomain → Row V → Type 0
  IsFit p row = IsRowOf p row.name.now.pred.arity row

-- the properties speak of arguments of the value
abbrev pub SpeakOf : PlainDomain → List Prop → Abs → Type 0
SpeakOf p props a = (n : ℕ) × IsValue p n a × All (speaks_within n) props
