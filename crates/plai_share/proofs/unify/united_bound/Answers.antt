use Rattle.std.proofs.Common.{[], ◌∷◌, ap, ◌∙◌}
use Rattle.std.proofs.lemmas.Result.{err_from_is_err_and}
use Rattle.plai_share_laws.specs.Groups.{normal, star, bin}
use Rattle.plai_share.proofs.Steps.{star_sides}
use Rattle.plai_share.proofs.Places.{fails_first, fails_later, small_later}
use Rattle.plai_share.proofs.unify.united_bound.Goals as goal

pub returns-in_err-first-clause-part : goal.returns-in_err-first-clause-part
returns-in_err-first-clause-part c =
    let p = err_from_is_err_and c.from_residual-in_err-first.result c.from_residual-in_err-first.ensures.1 in
    let a = star c.args.left.now in
    let b = star c.args.right.now in
    let d = bin a b in
    rw (p.1, p.2) (fails_first c.args.sets.now (a ∷ []) (b ∷ d ∷ []) c.in_err-first.field-0.0 (c.in_err-first.ensures.part a c.in_ok-made.ensures.all))

pub returns-in_err-second-clause-part : goal.returns-in_err-second-clause-part
returns-in_err-second-clause-part c =
    let p = err_from_is_err_and c.from_residual-in_err-second.result c.from_residual-in_err-second.ensures.1 in
    let a = star c.args.left.now in
    let b = star c.args.right.now in
    let d = bin a b in
    let first = c.in_ok-first.ensures.part a c.in_ok-made.ensures.all in
    rw (p.1, p.2) (fails_later c.args.sets.now c.admitted_unions.new.sets (a ∷ []) (b ∷ d ∷ []) c.in_err-second.field-0.0 first.0 c.in_ok-first.ensures.count
    (fails_first c.admitted_unions.new.sets (b ∷ []) (d ∷ []) c.in_err-second.field-0.0 (c.in_err-second.ensures.part b c.in_ok-also.ensures.all)))

pub returns-in_err-united-clause-part : goal.returns-in_err-united-clause-part
returns-in_err-united-clause-part c =
    let p = err_from_is_err_and c.from_residual-in_err-united.result c.from_residual-in_err-united.ensures.1 in
    let a = star c.args.left.now in
    let b = star c.args.right.now in
    let d = bin a b in
    let first = c.in_ok-first.ensures.part a c.in_ok-made.ensures.all in
    let second = c.in_ok-second.ensures.part b c.in_ok-also.ensures.all in
    let base = c.in_ok-second.ensures.base b c.in_ok-also.ensures.base in
    let both = star_sides c.as_slice.result.now c.as_slice-2.result.now c.args.left.now c.args.right.now _ (c.as_slice.ensures.value ∙ first.1)
    (ap (λ xs. normal (star xs)) c.as_slice-2.ensures.value ∙ base) c.in_ok-both.ensures in
    rw (p.1, p.2) (fails_later c.args.sets.now c.admitted_unions.new.sets (a ∷ []) (b ∷ d ∷ []) c.in_err-united.field-0.0 first.0 c.in_ok-first.ensures.count
    (fails_later c.admitted_unions.new.sets c.admitted_unions-2.new.sets (b ∷ []) (d ∷ []) c.in_err-united.field-0.0 second.0 c.in_ok-second.ensures.count
    (c.in_err-united.ensures.part d both)))

pub returns-clause-part : goal.returns-clause-part
returns-clause-part c =
    let a = star c.args.left.now in
    let b = star c.args.right.now in
    let d = bin a b in
    let first = c.in_ok-first.ensures.part a c.in_ok-made.ensures.all in
    let second = c.in_ok-second.ensures.part b c.in_ok-also.ensures.all in
    let base = c.in_ok-second.ensures.base b c.in_ok-also.ensures.base in
    let both = star_sides c.as_slice.result.now c.as_slice-2.result.now c.args.left.now c.args.right.now _ (c.as_slice.ensures.value ∙ first.1)
    (ap (λ xs. normal (star xs)) c.as_slice-2.ensures.value ∙ base) c.in_ok-both.ensures in
    let last = c.in_ok-united.ensures.part d both in (
      small_later c.args.sets.now c.admitted_unions.new.sets (a ∷ []) (b ∷ d ∷ []) first.0 c.in_ok-first.ensures.count
          (small_later c.admitted_unions.new.sets c.admitted_unions-2.new.sets (b ∷ []) (d ∷ []) second.0 c.in_ok-second.ensures.count last.0),
      last.1,
    )
