use Rattle.std.proofs.Common.{◌≡◌, ◌&&◌, true, map, drop}
use Rattle.std.specs.List.{list_all}
use Rattle.plai_terms.specs.Term.{has_variables_below}
use Rattle.plai_bdd.specs.Assignment.{Assignment}
use Rattle.plai_bdd.specs.Slots.{conjunction}
use Rattle.plai_pos_laws.specs.Assignments.{holds}
use Rattle.plai_pos.specs.TermSlots.{IsBelow}
use Rattle.plai_pos.proofs.slots.+with_variables.Given as goal

abbrev pub decreases-with_variables : goal.decreases-with_variables
decreases-with_variables l = goal.size-with_variables l

abbrev pub invariant-loop-arg : goal.invariant-loop-arg
invariant-loop-arg l = record {
  term : list_all (λ b. b) (map (has_variables_below l.variables) (drop l.arg-index l.arg-items)) ≡ true;
  below : IsBelow l.variables l.all;
  all : (at : Assignment) → (conjunction l.all at && list_all (λ b. b) (map (holds at) (drop l.arg-index l.arg-items)))
      ≡ (conjunction l.fn.slots at && holds at l.term);
}
