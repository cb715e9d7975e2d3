-- Names of rows over a domain's own values.
use Rattle.plai_terms.specs.declared.abs.Abs.{Abs}
use Rattle.plai_terms.specs.declared.row_name.RowName.{RowName}
use Rattle.plai_domain.specs.declared.key.Key.{Key}

-- the name that a key stands for, where a value is seen as a pattern
abbrev pub name_of : {V : Type 0} → (V → Abs) → Key V → RowName
name_of value_of key = record { pred = key.pred; call = value_of key.call }
