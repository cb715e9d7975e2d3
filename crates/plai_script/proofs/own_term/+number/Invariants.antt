use Rattle.std.proofs.Common.{◌≡◌, map, take}
use Rattle.plai_terms.specs.Substitution.{under}
use Rattle.plai_script.specs.OwnTerms.{numbered}
use Rattle.plai_script.proofs.own_term.+number.Given as goal

abbrev pub invariant-number_all-loop-term : goal.invariant-number_all-loop-term
invariant-number_all-loop-term l = l.all.items ≡ map (under (numbered l.seen.keys)) (take l.term-index l.terms)
