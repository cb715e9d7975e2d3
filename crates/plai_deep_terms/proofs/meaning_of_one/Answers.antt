use Rattle.std.proofs.Common.{◌≡◌, Bool, true, false, ◌||◌}
use Rattle.plai_terms.specs.Term.{occurs}
use Rattle.plai_deep_terms.proofs.meaning_of_one.Goals as goal

alone : (p : Bool) → (p || false) ≡ true → p ≡ true
alone true e = e
alone false e = e

pub meaning-requires-clause-below : goal.meaning-requires-clause-below
meaning-requires-clause-below c v o = c.in_ok-has_variables_below.ensures.below c.if-branch.true v (alone (occurs v c.args.term) o)
