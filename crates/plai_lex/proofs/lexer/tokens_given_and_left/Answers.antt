use Rattle.plai_lex.proofs.TokenLists.{given_and_left}
use Rattle.plai_lex.proofs.lexer.tokens_given_and_left.Goals as goal

pub returns : goal.returns
returns c = given_and_left
