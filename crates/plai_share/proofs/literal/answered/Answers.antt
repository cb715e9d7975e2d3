use Rattle.std.proofs.Common.{[], ◌∷◌, map, refl, sym, ap, ◌∙◌, ◌+◌}
use Rattle.std.proofs.lemmas.Result.{err_from_is_err_and}
use Rattle.plai_base.specs.Mask.{all_true}
use Rattle.plai_domain.specs.Outcomes.{too_large_from}
use Rattle.plai_share_laws.specs.Groups.{without, near, rel, star}
use Rattle.plai_share_laws.specs.Shares.{back_groups}
use Rattle.plai_share_laws.specs.Calls.{raise}
use Rattle.plai_share.proofs.Answered.{behind_answer, answer_sizes, answer_groups}
use Rattle.plai_share.proofs.Places.{fails_same}
use Rattle.plai_share.proofs.Widened.{built}
use Rattle.plai_share.proofs.literal.answered.Goals as goal

pub returns-in_err-groups : goal.returns-in_err-groups
returns-in_err-groups c =
    let p = err_from_is_err_and c.from_residual.result c.from_residual.ensures.1 in
    let set = c.raised-set.ensures ∙ ap (raise c.args.first) c.first_slots.ensures in
    let sizes_are = answer_sizes c.args.first
    (all_true c.args.answer.now.slots) c.args.answer.now.groups.items c.as_slice-2.result.now c.args.wide.now.groups.items c.as_slice.result.now
    c.raised-set.result set c.as_slice-2.ensures.value c.as_slice.ensures.value in
    let a = raise c.args.first (all_true c.args.answer.now.slots) in
    rw (p.1, p.2) (fails_same c.args.sets.now
    (star (rel c.raised-set.result c.as_slice.result.now) ∷ behind_answer c.args.first c.raised-set.result c.as_slice-2.result.now c.as_slice.result.now ∷ [])
    (star (rel a c.args.wide.now.groups.items) ∷ back_groups a (map (raise c.args.first) c.args.answer.now.groups.items) c.args.wide.now.groups.items ∷ [])
    c.in_err-groups.field-0.0 sizes_are c.in_err-groups.ensures)

pub returns : goal.returns
returns c =
    let set = c.raised-set.ensures ∙ ap (raise c.args.first) c.first_slots.ensures in
    let sizes_are = answer_sizes c.args.first
    (all_true c.args.answer.now.slots) c.args.answer.now.groups.items c.as_slice-2.result.now c.args.wide.now.groups.items c.as_slice.result.now
    c.raised-set.result set c.as_slice-2.ensures.value c.as_slice.ensures.value in
    let groups_are = answer_groups c.args.first
    (all_true c.args.answer.now.slots) c.args.answer.now.groups.items c.as_slice-2.result.now c.args.wide.now.groups.items c.as_slice.result.now
    c.raised-set.result set c.as_slice-2.ensures.value c.as_slice.ensures.value in
    let bound = c.without-bound.ensures ∙ (λ i. without (set i) (c.raised.ensures i)) in (
      ap (too_large_from (c.args.sets.now + 1)) (sym sizes_are) ∙ c.in_ok-groups.ensures.0,
      built _ _ _ _ _ _ refl (c.in_ok-groups.ensures.1 ∙ groups_are)
          (c.without.ensures ∙ ap (without c.args.wide.now.free) (c.near-lost.ensures ∙ (λ i. near (bound i) (c.as_slice-3.ensures.value i)))),
    )
