use Rattle.std.proofs.Common.{◌≡◌, ◌⊎◌, inl, inr, Bool, true, false, ◌||◌}
use Rattle.plai_terms.specs.Term.{occurs}
use Rattle.plai_deep_terms.proofs.meaning_of_two.Goals as goal

in_one : (p q : Bool) → (p || (q || false)) ≡ true → (p ≡ true) ⊎ (q ≡ true)
in_one true q e = inl e
in_one false true e = inr e
in_one false false e = inr e

pub meaning-requires-clause-below : goal.meaning-requires-clause-below
meaning-requires-clause-below c v o =
    elim (in_one (occurs v c.args.left) (occurs v c.args.right) o) [
      | inl p ↦ c.in_ok-has_variables_below.ensures.below c.if-branch.true v p
      | inr p ↦ c.in_ok-has_variables_below-2.ensures.below c.if-branch-2.true v p
    ]
