use Rattle.std.proofs.Common.{[], unwrap_or}
use Rattle.plai_terms.proofs.LetGo.{left_to_go}
use Rattle.plai_terms.proofs.term.Term.drop.Given as goal

abbrev pub decreases-loop-self : goal.decreases-loop-self
decreases-loop-self l = left_to_go l.self (unwrap_or l.waiting [])
