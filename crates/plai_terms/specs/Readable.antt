-- Terms as they are read (ISO/IEC 13211-1:1995, 6.2 and 6.3): what the calls that take one may rely on.
use Rattle.std.specs.Prelude.{◌≡◌, ◌<◌, ◌^◌, Bool, true, false, ◌||◌, nat_lt, length}
use Rattle.std.specs.List.{list_any}
use Rattle.plai_terms.specs.declared.read_term.ReadTerm.{ReadTerm}
use Rattle.plai_terms.specs.declared.term.Term.{Term, fold-Term}
use Rattle.plai_terms.specs.declared.term.Term.TheOpen.{Term-F}
use Rattle.plai_terms.specs.Term.{has_variables_below}

abbrev pub wide_step : Term-F Bool → Bool
wide_step (Term-F.Var _) = false
wide_step (Term-F.Int _) = false
wide_step (Term-F.Atom _) = false
wide_step (Term-F.Compound _ wides) = nat_lt 255 (length wides) || list_any (λ b. b) wides

-- some compound in it has more than 255 arguments
abbrev pub is_wide : Term → Bool
is_wide = fold-Term Bool wide_step

-- The variables are numbered below how many there are, which is below 2 ^ 31, and no compound has more than 255 arguments.
pub record IsReadable (read : ReadTerm) : Type 0 where
  pub numbered : has_variables_below read.variables read.term ≡ true
  pub few_variables : read.variables < 2 ^ 31
  pub few_arguments : is_wide read.term ≡ false
