use Rattle.std.proofs.Common.{◌+◌, length, refl, sym, ap, ◌∙◌}
use Rattle.std.proofs.lemmas.Result.{err_from_is_err_and}
use Rattle.plai_domain.specs.Outcomes.{too_large_from}
use Rattle.plai_share_laws.specs.Groups.{without}
use Rattle.plai_share_laws.specs.Shares.{slots_of, is_free, lost, unify_groups, unify_formed, sizes}
use Rattle.plai_share.specs.Formed.{groups_formed}
use Rattle.plai_share.specs.Sides.{seen}
use Rattle.plai_share.specs.Values.{shares}
use Rattle.plai_share.proofs.Steps.{unify_sets}
use Rattle.plai_share.proofs.Places.{fails_same}
use Rattle.plai_share.proofs.Widened.{built}
use Rattle.plai_share.proofs.unify.unify.Goals as goal

pub returns-in_err-groups-clause-part : goal.returns-in_err-groups-clause-part
returns-in_err-groups-clause-part c =
    let p = err_from_is_err_and c.from_residual.result c.from_residual.ensures.1 in
    let x = seen c.args.left.now in
    let t = seen c.args.right.now in
    let v = shares c.args.state.now in
    let one = c.either_is_free-one_free in
    let sets = unify_sets x t v one.result c.slots-left_slots.result c.slots-right_slots.result c.as_slice.result.now
    one.ensures c.slots-left_slots.ensures c.slots-right_slots.ensures c.as_slice.ensures.value in
    rw (p.1, p.2) (fails_same c.args.sets.now (groups_formed one.result c.slots-left_slots.result c.slots-right_slots.result c.as_slice.result.now)
    (unify_formed x t v)
    c.in_err-groups.field-0.0 (ap sizes sets) c.in_err-groups.ensures.part)

pub returns-clause-part : goal.returns-clause-part
returns-clause-part c =
    let x = seen c.args.left.now in
    let t = seen c.args.right.now in
    let v = shares c.args.state.now in
    let one = c.either_is_free-one_free in
    let sets = unify_sets x t v one.result c.slots-left_slots.result c.slots-right_slots.result c.as_slice.result.now
    one.ensures c.slots-left_slots.ensures c.slots-right_slots.ensures c.as_slice.ensures.value in (
      ap (λ zs. too_large_from (c.args.sets.now + 1) (sizes zs)) (sym sets) ∙ c.in_ok-groups.ensures.part.0,
      built _ _ _ _ _ _ refl
          (c.in_ok-groups.ensures.part.1 ∙ (λ i. unify_groups (one.ensures i) (c.slots-left_slots.ensures i) (c.slots-right_slots.ensures i)
          (c.as_slice.ensures.value i)))
          (c.without-free.ensures ∙ ap (without v.free) (c.lost-bound.ensures ∙ ap
          (lost (is_free v.free x) (is_free v.free t) (slots_of x) (slots_of t)) c.as_slice-2.ensures.value)),
    )

pub returns-clause-count : goal.returns-clause-count
returns-clause-count c =
    let x = seen c.args.left.now in
    let t = seen c.args.right.now in
    let v = shares c.args.state.now in
    let one = c.either_is_free-one_free in
    let sets = unify_sets x t v one.result c.slots-left_slots.result c.slots-right_slots.result c.as_slice.result.now
    one.ensures c.slots-left_slots.ensures c.slots-right_slots.ensures c.as_slice.ensures.value in
    c.in_ok-groups.ensures.count ∙ ap (λ zs. c.args.sets.now + length zs) sets
