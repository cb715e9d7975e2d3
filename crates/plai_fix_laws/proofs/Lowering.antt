-- Each step lowers one of the three numbers, and leaves those before it.
use Rattle.std.proofs.Common.{◌≡◌, ◌≢◌, ℕ, ◌<◌, Bool, true, List, [], ◌∷◌, ◌++◌, map, Option, Some, None, arith}
use Rattle.plai_theory.specs.Words.{item}
use Rattle.plai_theory.specs.Domain.{Domain, Program, IsLawful}
use Rattle.plai_theory.specs.Evaluation.{NameOf}
use Rattle.plai_theory.specs.LegalWork.{WorkRow, new_row, after_evaluating, after_growing}
use Rattle.plai_theory.specs.Measure.{IsRank}
use Rattle.plai_theory.proofs.Measure.{made_lowers, evaluated_lowers, growth_lowers, growth_room, first_room}
use Rattle.plai_fix_laws.specs.WorkStates.{Keeping, Keeps, kept_live}
use Rattle.plai_fix_laws.specs.Changes.{SetsCalls}
use Rattle.plai_fix_laws.specs.Measures.{kept_room, kept_ranks, kept_dirties}
use Rattle.plai_fix_laws.proofs.Linked.{same_live}
use Rattle.plai_fix_laws.proofs.Lists.{item_within}
use Rattle.plai_fix_laws.proofs.Measured.{same_room, same_ranks, same_dirties}
use Rattle.plai_fix_laws.proofs.Places.{found_at, there}

module _ (d : Domain) (g : Program d) (laws : IsLawful d g) (k new : Keeping d) (open_pair next : Option (ℕ × ℕ)) (rows : List (WorkRow d))
    (keeps : Keeps d g k open_pair rows) where
  -- a made row
  pub made_room : (limit : ℕ) (x : NameOf d) → Keeps d g new next (rows ++ new_row d x ∷ []) → kept_live d k.rows < limit
      → kept_room d limit new.rows < kept_room d limit k.rows
  made_room limit x after few =
      let l = same_live d g laws k open_pair rows keeps in
      let a = same_room d g laws k open_pair rows keeps limit in
      let b = same_room d g laws new next (rows ++ new_row d x ∷ []) after limit in
      let m = made_lowers d rows x limit (omega arith) in omega arith

  module _ (n : ℕ) (r : WorkRow d) (at : item rows n ≡ Some r) (live : r.live ≡ true) where
    -- an evaluation of a dirty pair
    pub evaluated_dirties : (i : ℕ) (c : d.Clause) → item (g.clauses r.name.pred) i ≡ Some c → r.dirty i ≡ true → (names : List (NameOf d))
        → Keeps d g new next (map (after_evaluating d r.name i names) rows) → kept_dirties d g new < kept_dirties d g k
    evaluated_dirties i c s dirty names after =
        let a = same_dirties d g laws k open_pair rows keeps in
        let b = same_dirties d g laws new next (map (after_evaluating d r.name i names) rows) after in
        let m = evaluated_lowers d g laws rows keeps.own r.name i names r (found_at d g laws rows keeps.own n r at) live dirty
        (item_within (g.clauses r.name.pred) i (there (item (g.clauses r.name.pred) i) c s)) in omega arith

    module _ (v : d.Value) (after : Keeps d g new next (map (after_growing d r.name (Some v)) rows)) where
      -- a first answer
      pub first_answer : (limit : ℕ) → r.answer ≡ None → kept_room d limit new.rows < kept_room d limit k.rows
      first_answer limit none =
          let a = same_room d g laws k open_pair rows keeps limit in
          let b = same_room d g laws new next (map (after_growing d r.name (Some v)) rows) after limit in
          let m = first_room d g laws rows keeps.own r.name limit v r (found_at d g laws rows keeps.own n r at) live none in omega arith

      -- a later growth
      pub later_room : (limit : ℕ) (u : d.Value) → r.answer ≡ Some u → kept_room d limit new.rows ≡ kept_room d limit k.rows
      later_room limit u had =
          let a = same_room d g laws k open_pair rows keeps limit in
          let b = same_room d g laws new next (map (after_growing d r.name (Some v)) rows) after limit in
          let m = growth_room d g laws limit rows r.name keeps.own u v r (found_at d g laws rows keeps.own n r at) had in omega arith

      pub later_ranks : (rank : d.Pred → d.Value → ℕ) → IsRank d rank → (u : d.Value) → r.answer ≡ Some u → d.leq r.name.pred u v → u ≢ v
          → kept_ranks d rank new.rows < kept_ranks d rank k.rows
      later_ranks rank is u had up other =
          let a = same_ranks d g laws k open_pair rows keeps rank in
          let b = same_ranks d g laws new next (map (after_growing d r.name (Some v)) rows) after rank in
          let m = growth_lowers d g laws rows keeps.own r.name rank is u v r (found_at d g laws rows keeps.own n r at) live had up other in omega arith

-- calls that are set
pub set_dirties : (d : Domain) (g : Program d) (k new : Keeping d) (n i : ℕ) (called : ℕ → Bool) → SetsCalls d k new n i called
    → kept_dirties d g new ≡ kept_dirties d g k
set_dirties d g k new n i called set = λ j. kept_dirties d g (record { rows = set.rows j; dirty = λ a m. set.dirty a m j; calls = k.calls })
