use Rattle.std.proofs.Common.{◌≡◌, ◌-◌, ◌<◌, bit_or, ◌++◌, map, length, subst, ◌∙◌, ap}
use Rattle.plai_base.specs.Mask.{mask_of}
use Rattle.plai_domain.specs.Outcomes.{most_groups}
use Rattle.plai_share_laws.specs.Groups.{normal, bin}
use Rattle.plai_share.specs.Splitting.{having, lacking, with_slot}
use Rattle.plai_share.proofs.AllUnions.{formed_same}
use Rattle.plai_share.proofs.BySlots.{low_stops, high_stops, mixed_stops, split_same}
use Rattle.plai_share.proofs.splitting.+bin_by_slots.Goals as goal

pub returns-in_default : goal.returns-in_default
returns-in_default t c =
    let slot = c.args.slots - 1 in
    let left : c.deref.result.now ≡ lacking slot c.args.left.now = c.deref.ensures.value ∙ c.in_ok-left_without.ensures in
    let right : c.deref-2.result.now ≡ lacking slot c.args.right.now = c.deref-2.ensures.value ∙ c.in_ok-right_without.ensures in
    let large = rw c.in_default.is at c.in_ok-low.ensures in
    low_stops slot c.args.left.now c.args.right.now (subst (λ n. most_groups < n) (λ i. length (normal (bin (left i) (right i)))) large)

pub returns-in_default-2 : goal.returns-in_default-2
returns-in_default-2 t c =
    let slot = c.args.slots - 1 in
    let left : c.deref-5.result.now ≡ having slot c.args.left.now = c.deref-5.ensures.value ∙ c.in_ok-left_with.ensures in
    let others : c.deref-3.result.now ≡ lacking slot c.args.right.now = c.deref-3.ensures.value ∙ c.in_ok-right_without.ensures in
    let some : c.deref-4.result.now ≡ having slot c.args.right.now = c.deref-4.ensures.value ∙ c.in_ok-right_with.ensures in
    let right : c.deref-6.result.now ≡ with_slot slot c.args.right.now =
    c.deref-6.ensures.value ∙ c.in_ok-all_with.ensures ∙ (λ i. normal (map (bit_or (mask_of slot)) (others i) ++ some i)) in
    let large = rw c.in_default-2.is at c.in_ok-high.ensures in
    high_stops slot c.args.left.now c.args.right.now (subst (λ n. most_groups < n) (λ i. length (normal (bin (left i) (right i)))) large)

pub returns-in_default-3 : goal.returns-in_default-3
returns-in_default-3 t c =
    let slot = c.args.slots - 1 in
    let left : c.deref-7.result.now ≡ lacking slot c.args.left.now = c.deref-7.ensures.value ∙ c.in_ok-left_without.ensures in
    let right : c.deref-8.result.now ≡ having slot c.args.right.now = c.deref-8.ensures.value ∙ c.in_ok-right_with.ensures in
    let large = rw c.in_default-3.is at c.in_ok-mixed.ensures in
    mixed_stops slot c.args.left.now c.args.right.now (subst (λ n. most_groups < n) (λ i. length (normal (bin (left i) (right i)))) large)

pub returns : goal.returns
returns t c =
    let slot = c.args.slots - 1 in
    let others : c.deref-3.result.now ≡ lacking slot c.args.right.now = c.deref-3.ensures.value ∙ c.in_ok-right_without.ensures in
    let some : c.deref-4.result.now ≡ having slot c.args.right.now = c.deref-4.ensures.value ∙ c.in_ok-right_with.ensures in
    let left_low : c.deref.result.now ≡ lacking slot c.args.left.now = c.deref.ensures.value ∙ c.in_ok-left_without.ensures in
    let right_low : c.deref-2.result.now ≡ lacking slot c.args.right.now = c.deref-2.ensures.value ∙ c.in_ok-right_without.ensures in
    let left_high : c.deref-5.result.now ≡ having slot c.args.left.now = c.deref-5.ensures.value ∙ c.in_ok-left_with.ensures in
    let right_high : c.deref-6.result.now ≡ with_slot slot c.args.right.now =
    c.deref-6.ensures.value ∙ c.in_ok-all_with.ensures ∙ (λ i. normal (map (bit_or (mask_of slot)) (others i) ++ some i)) in
    let left_mixed : c.deref-7.result.now ≡ lacking slot c.args.left.now = c.deref-7.ensures.value ∙ c.in_ok-left_without.ensures in
    let right_mixed : c.deref-8.result.now ≡ having slot c.args.right.now = c.deref-8.ensures.value ∙ c.in_ok-right_with.ensures in
    let low = rw c.in-Some.is at c.in_ok-low.ensures in
    let high = rw c.in-Some-2.is at c.in_ok-high.ensures in
    let mixed = rw c.in-Some-3.is at c.in_ok-mixed.ensures in
    let all : c.extend_from_slice-2.new.self.items ≡ (c.in-Some.low.items ++ c.in-Some-2.high.items) ++ c.in-Some-3.mixed.items =
    c.in_ok-extend_from_slice-2.ensures.items
    ∙ (λ i. (c.in_ok-extend_from_slice.ensures.items ∙ ap (λ zs. c.in-Some.low.items ++ zs) c.as_slice.ensures.value) i ++ c.as_slice-2.ensures.value i) in
    formed_same c.extend_from_slice-2.new.self.items (bin c.args.left.now c.args.right.now)
    (ap normal all ∙ split_same slot c.args.left.now c.args.right.now c.in-Some.low.items c.in-Some-2.high.items c.in-Some-3.mixed.items
    (low.0 ∙ (λ i. normal (bin (left_low i) (right_low i))))
    (high.0 ∙ (λ i. normal (bin (left_high i) (right_high i))))
    (mixed.0 ∙ (λ i. normal (bin (left_mixed i) (right_mixed i)))))
    _ c.formed.ensures
