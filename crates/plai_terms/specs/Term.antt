-- Depth, variables and groundness of terms (ISO/IEC 13211-1:1995, 7.1 and 7.1.1.1).
use Rattle.std.specs.Prelude.{ℕ, ◌+◌, ◌^◌, ℤ, pos, negsuc, Bool, true, false, nat_eq, nat_lt, max, fold}
use Rattle.std.specs.List.{list_any, list_all}
use Rattle.plai_terms.specs.declared.term.Term.{Term, fold-Term, out-Term}
use Rattle.plai_terms.specs.declared.term.Term.TheOpen.{Term-F}

-- a variable, integer or atom is 1 deep
abbrev pub depth_step : Term-F ℕ → ℕ
depth_step (Term-F.Var _) = 1
depth_step (Term-F.Int _) = 1
depth_step (Term-F.Atom _) = 1
depth_step (Term-F.Compound _ depths) = 1 + fold max 0 depths

-- one more than the depth of the deepest argument
abbrev pub depth_of : Term → ℕ
depth_of = fold-Term ℕ depth_step

-- one level: the arguments are ground
abbrev pub ground_step : Term-F Bool → Bool
ground_step (Term-F.Var _) = false
ground_step (Term-F.Int _) = true
ground_step (Term-F.Atom _) = true
ground_step (Term-F.Compound _ grounds) = list_all (λ b. b) grounds

-- no variable occurs
abbrev pub is_ground : Term → Bool
is_ground = fold-Term Bool ground_step

-- one level: the variable occurs in an argument
abbrev pub occurs_step : ℕ → Term-F Bool → Bool
occurs_step v (Term-F.Var w) = nat_eq v w
occurs_step v (Term-F.Int _) = false
occurs_step v (Term-F.Atom _) = false
occurs_step v (Term-F.Compound _ occurrences) = list_any (λ b. b) occurrences

-- the variable occurs
abbrev pub occurs : ℕ → Term → Bool
occurs v = fold-Term Bool (occurs_step v)

-- one level: the variables of the arguments are below the limit
abbrev pub below_step : ℕ → Term-F Bool → Bool
below_step limit (Term-F.Var v) = nat_lt v limit
below_step limit (Term-F.Int _) = true
below_step limit (Term-F.Atom _) = true
below_step limit (Term-F.Compound _ belows) = list_all (λ b. b) belows

-- each variable is numbered below the limit
abbrev pub has_variables_below : ℕ → Term → Bool
has_variables_below limit = fold-Term Bool (below_step limit)

-- from -2^127 to 2^127 - 1
abbrev pub integer_fits : ℤ → Bool
integer_fits (pos n) = nat_lt n (2 ^ 127)
integer_fits (negsuc n) = nat_lt n (2 ^ 127)

-- one level: the numbers of the arguments are within their types
abbrev pub fits_step : Term-F Bool → Bool
fits_step (Term-F.Var v) = nat_lt v (2 ^ 32)
fits_step (Term-F.Int n) = integer_fits n
fits_step (Term-F.Atom _) = true
fits_step (Term-F.Compound _ fits) = list_all (λ b. b) fits

-- each variable is numbered below 2^32, and each integer has 128 bits
abbrev pub numbers_fit : Term → Bool
numbers_fit = fold-Term Bool fits_step

abbrev pub is_variable_at : ℕ → Term-F Term → Bool
is_variable_at v (Term-F.Var w) = nat_eq v w
is_variable_at v _ = false

-- the term is the variable
unfoldable pub is_variable : ℕ → Term → Bool
is_variable v t = is_variable_at v (out-Term t)

abbrev pub is_within_at : ℕ → Term-F Term → Bool
is_within_at limit (Term-F.Var v) = nat_lt v limit
is_within_at limit _ = true

-- the term itself is no variable from the limit on
unfoldable pub is_within : ℕ → Term → Bool
is_within limit t = is_within_at limit (out-Term t)
