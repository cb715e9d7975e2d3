-- The numbers of variables, from 0 by first appearance (ISO/IEC 13211-1:1995, 6.4.3: the variable `_` is new each time).
use Rattle.std.specs.Prelude.{ℕ, ◌+◌, Bool, cond, nat_eq, Option, Some, None, unwrap_or, List, [], ◌∷◌, codes}
use Rattle.std.specs.Cmp.Lexicographic.{pointwise}
use Rattle.std.specs.FinMap as finite
use Rattle.plai_reader.specs.declared.variables.Variables.{Variables}
use Rattle.plai_lex.specs.declared.token.Token.{Token}
use Rattle.plai_lex.specs.declared.token.TokenKind.{TokenKind}
use Rattle.plai_lex.specs.declared.token.TokenKind.TheVariants as token

abbrev pub no_variables : Variables
no_variables = record { numbers = finite.empty; count = 0 }

abbrev pub is_blank : List ℕ → Bool
is_blank name = pointwise nat_eq name (codes "_")

-- the number that a name has already
abbrev pub known : Variables → List ℕ → Option ℕ
known vs name = cond (is_blank name) None (finite.get vs.numbers name)

abbrev pub number_of : Variables → List ℕ → ℕ
number_of vs name = unwrap_or (known vs name) vs.count

abbrev pub counted : Variables → List ℕ → Option ℕ → Variables
counted vs name None = record { numbers = cond (is_blank name) vs.numbers (finite.insert vs.numbers name vs.count); count = vs.count + 1 }
counted vs name (Some _) = vs

-- behind a variable
abbrev pub with_variable : Variables → List ℕ → Variables
with_variable vs name = counted vs name (known vs name)

-- the number of a token that is a variable
abbrev pub number_at : Variables → TokenKind → ℕ
number_at vs (token.Var name) = number_of vs name
number_at vs _ = 0

abbrev pub after_token : Variables → TokenKind → Variables
after_token vs (token.Var name) = with_variable vs name
after_token vs _ = vs

abbrev pub after_tokens : Variables → List Token → Variables
after_tokens vs [] = vs
after_tokens vs (x ∷ xs) = after_tokens (after_token vs x.kind) xs

-- how many different variables there are
abbrev pub variables_of : List Token → ℕ
variables_of tokens = (after_tokens no_variables tokens).count
