use Rattle.std.proofs.Common.{◌≡◌, true, map, drop, bit_or}
use Rattle.std.specs.List.{list_all}
use Rattle.plai_terms.specs.Term.{has_variables_below}
use Rattle.plai_share_laws.specs.Sides.{unions, term_slots}
use Rattle.plai_share.proofs.side.+term_slots.Given as goal

abbrev pub decreases-term_slots : goal.decreases-term_slots
decreases-term_slots l = goal.size-term_slots l

abbrev pub invariant-loop-arg : goal.invariant-loop-arg
invariant-loop-arg l = record {
  term : list_all (λ b. b) (map (has_variables_below l.variables) (drop l.arg-index l.arg-items)) ≡ true;
  all : bit_or l.slots (unions (map (term_slots l.base) (drop l.arg-index l.arg-items))) ≡ term_slots l.base l.term;
}
