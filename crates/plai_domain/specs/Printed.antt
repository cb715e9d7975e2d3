-- What the text of a value tells: that it is one, of how many arguments, and which one.
use Rattle.std.specs.Prelude.{◌≡◌, ◌≢◌, ℕ, ◌≤◌}
use Rattle.plai_terms.specs.declared.abs.Abs.{Abs}
use Rattle.plai_terms.specs.declared.abs.Abs.TheVariants.{Nothing}
use Rattle.plai_terms.specs.Pattern.{pattern_text, arity_of}
use Rattle.plai_domain.specs.Plain.{PlainDomain}
use Rattle.plai_domain.specs.Conditions.{most_arguments, IsValue}

-- No value is the pattern of no answer, each speaks of its arguments, and different ones have different texts.
pub record IsPrinted (p : PlainDomain) : Type 0 where
  pub some : (n : ℕ) (a : Abs) → IsValue p n a → a ≢ Nothing
  pub arity : (n : ℕ) (a : Abs) → IsValue p n a → arity_of a ≡ n
  pub apart : (n : ℕ) (a b : Abs) → n ≤ most_arguments → IsValue p n a → IsValue p n b → pattern_text a ≡ pattern_text b → a ≡ b
