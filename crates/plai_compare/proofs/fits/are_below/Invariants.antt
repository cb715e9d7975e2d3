use Rattle.std.proofs.Common.{◌≡◌, drop}
use Rattle.plai_domain.specs.Instances.{all_below}
use Rattle.plai_compare.proofs.fits.are_below.Given as goal

abbrev pub invariant-loop-term : goal.invariant-loop-term
invariant-loop-term l = all_below l.limit (drop l.term-index l.terms) ≡ all_below l.limit l.terms
