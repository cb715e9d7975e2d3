use Rattle.plai_lex.proofs.Comments.{Searched}
use Rattle.plai_lex.proofs.gap.close_len.Given as goal

abbrev pub invariant-loop-i : goal.invariant-loop-i
invariant-loop-i l = Searched l.text l.i
