-- The classes of bytes that a run of them has.
use Rattle.std.specs.Prelude.{ℕ, Bool, not, nat_eq}
use Rattle.plai_lex.specs.declared.class.Class.{Class}
use Rattle.plai_lex.specs.declared.class.Class.TheVariants.{Alphanumeric, Symbol, Line}
use Rattle.plai_lex.specs.Bytes.{is_alphanumeric, is_symbol}

abbrev pub in_class : Class → ℕ → Bool
in_class Alphanumeric = is_alphanumeric
in_class Symbol = is_symbol
in_class Line = λ b. not (nat_eq b 10)
