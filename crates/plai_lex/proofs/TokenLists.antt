-- Calls for the next token one after the other.
use Rattle.std.proofs.Common.{◌≡◌, List, [], ◌∷◌, ◌++◌, refl, sym, ap, ◌∙◌, append_assoc}
use Rattle.plai_lex.specs.declared.token.Token.{Token}
use Rattle.plai_lex.specs.Tokens.{Tokens, with_token, with_tokens, Gives}

pub given_and_left : (all : Tokens) (given : List Token) (left : Tokens) → Gives all given left → all ≡ with_tokens given left
given_and_left all [] left h = sym h
given_and_left all (token ∷ tokens) left h = h.1 ∙ ap (with_token token) (given_and_left h.0 tokens left h.2)

-- one more token is given
pub one_more : (given : List Token) (token : Token) (left : Tokens) → with_tokens given (with_token token left) ≡ with_tokens (given ++ token ∷ []) left
one_more given token left = rw (append_assoc given (token ∷ []) left.tokens) refl
