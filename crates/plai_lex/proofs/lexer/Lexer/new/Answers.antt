use Rattle.plai_lex.proofs.TokenPieces.{few}
use Rattle.plai_lex.proofs.lexer.Lexer.new.Goals as goal

pub returns-clause-few : goal.returns-clause-few
returns-clause-few c = few c.args.text.now
