use Rattle.std.proofs.Common.{◌≡◌, ◌++◌, reverse}
use Rattle.plai_terms.specs.Pieces.{parts_of}
use Rattle.plai_terms.specs.Print.{text_of}
use Rattle.plai_terms.proofs.Pieces.{parts_text, pieces_left}
use Rattle.plai_terms.proofs.print.write_term.Given as goal

abbrev pub invariant-loop-piece : goal.invariant-loop-piece
invariant-loop-piece l = l.out.items ++ parts_text (reverse (parts_of l.waiting.items)) ≡ l.initial.out.items ++ text_of l.term

abbrev pub decreases-loop-piece : goal.decreases-loop-piece
decreases-loop-piece l = pieces_left l.waiting.items
