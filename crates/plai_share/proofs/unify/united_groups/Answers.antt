use Rattle.std.proofs.Common.{◌≡◌, ◌+◌, None, bit_or, [], ◌∷◌, ◌++◌, length, sym, ap, ◌∙◌}
use Rattle.std.proofs.lemmas.Result.{err_from_is_err_and}
use Rattle.plai_domain.specs.Outcomes.{too_large_from}
use Rattle.plai_share_laws.specs.Groups.{normal, rel, missing}
use Rattle.plai_share_laws.specs.Shares.{united, unify_groups, sizes}
use Rattle.plai_share.specs.Formed.{united_formed}
use Rattle.plai_share.proofs.Steps.{new_groups, same_groups}
use Rattle.plai_share.proofs.Places.{fails_later, small_later}
use Rattle.plai_share.proofs.unify.united_groups.Goals as goal

pub returns-in_err-unified-clause-part : goal.returns-in_err-unified-clause-part
returns-in_err-unified-clause-part c =
    let p = err_from_is_err_and c.from_residual-in_err-unified.result c.from_residual-in_err-unified.ensures.1 in
    let one = c.args.one_free in
    let a = c.args.left in
    let b = c.args.right in
    let s = c.args.groups.now in
    let r = c.as_slice.ensures.value ∙ c.in_ok-first.ensures in
    let t = c.as_slice-2.ensures.value ∙ c.in_ok-second.ensures in
    let small : too_large_from (c.args.sets.now + 1) (sizes (united_formed one (rel a s) (rel b s))) ≡ None =
    (λ i. too_large_from (c.args.sets.now + 1) (sizes (united_formed one (sym r i) (sym t i)))) ∙ c.in_ok-united.ensures.part.0 in
    let count : c.united.new.sets ≡ c.args.sets.now + length (united_formed one (rel a s) (rel b s)) =
    c.in_ok-united.ensures.count ∙ (λ i. c.args.sets.now + length (united_formed one (r i) (t i))) in
    let us : c.in_ok-united.united.items ≡ normal (united one (rel a s) (rel b s)) = c.in_ok-united.ensures.part.1 ∙ (λ i. normal (united one (r i) (t i))) in
    let all : c.extend_from_slice.new.self.items ≡ missing (bit_or a b) s ++ c.in_ok-united.united.items =
    c.in_ok-extend_from_slice.ensures.items ∙ (λ i. (c.in_ok-all.ensures ∙ ap (λ m. missing m s) c.union.ensures) i ++ c.as_slice-3.ensures.value i) in
    let formed = new_groups one a b s c.in_ok-united.united.items c.extend_from_slice.new.self.items _ us all c.formed.ensures in
    rw (p.1, p.2) (fails_later c.args.sets.now c.united.new.sets (united_formed one (rel a s) (rel b s))
    (unify_groups one a b s ∷ []) c.in_err-unified.field-0.0
    small count (c.in_err-unified.ensures.part (unify_groups one a b s) formed))

pub returns-clause-part : goal.returns-clause-part
returns-clause-part c =
    let one = c.args.one_free in
    let a = c.args.left in
    let b = c.args.right in
    let s = c.args.groups.now in
    let r = c.as_slice.ensures.value ∙ c.in_ok-first.ensures in
    let t = c.as_slice-2.ensures.value ∙ c.in_ok-second.ensures in
    let small : too_large_from (c.args.sets.now + 1) (sizes (united_formed one (rel a s) (rel b s))) ≡ None =
    (λ i. too_large_from (c.args.sets.now + 1) (sizes (united_formed one (sym r i) (sym t i)))) ∙ c.in_ok-united.ensures.part.0 in
    let count : c.united.new.sets ≡ c.args.sets.now + length (united_formed one (rel a s) (rel b s)) =
    c.in_ok-united.ensures.count ∙ (λ i. c.args.sets.now + length (united_formed one (r i) (t i))) in
    let us : c.in_ok-united.united.items ≡ normal (united one (rel a s) (rel b s)) = c.in_ok-united.ensures.part.1 ∙ (λ i. normal (united one (r i) (t i))) in
    let all : c.extend_from_slice.new.self.items ≡ missing (bit_or a b) s ++ c.in_ok-united.united.items =
    c.in_ok-extend_from_slice.ensures.items ∙ (λ i. (c.in_ok-all.ensures ∙ ap (λ m. missing m s) c.union.ensures) i ++ c.as_slice-3.ensures.value i) in
    let formed = new_groups one a b s c.in_ok-united.united.items c.extend_from_slice.new.self.items _ us all c.formed.ensures in
    let q = c.in_ok-unified.ensures.part (unify_groups one a b s) formed in (
      small_later c.args.sets.now c.united.new.sets (united_formed one (rel a s) (rel b s)) (unify_groups one a b s ∷ []) small count q.0,
      q.1
          ∙ same_groups one a b s,
    )
