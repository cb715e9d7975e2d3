use Rattle.std.proofs.Common.{◌≡◌, take, map}
use Rattle.plai_terms.specs.Subst.{bound_to}
use Rattle.plai_terms.specs.Substitution.{under}
use Rattle.plai_sld.proofs.terms.terms_under.Given as goal

abbrev pub invariant-loop-term : goal.invariant-loop-term
invariant-loop-term l = l.changed.items ≡ map (under (bound_to l.bindings)) (take l.term-index l.terms)
