use Rattle.std.proofs.Common.{◌≡◌, [], ◌∷◌, ◌++◌, sym, ap, ◌∙◌}
use Rattle.std.proofs.lemmas.Result.{err_from_is_err_and}
use Rattle.plai_share_laws.specs.Groups.{normal, rel, missing, star}
use Rattle.plai_share.proofs.InOrder.{normal_twice}
use Rattle.plai_share.proofs.AllUnions.{formed_same}
use Rattle.plai_share.proofs.Answered.{behind_same}
use Rattle.plai_share.proofs.Places.{fails_later, small_later}
use Rattle.plai_share.proofs.refine.havocked_groups.Goals as goal

pub returns-in_err-all : goal.returns-in_err-all
returns-in_err-all c =
    let p = err_from_is_err_and c.from_residual-in_err-all.result c.from_residual-in_err-all.ensures.1 in
    let made = star (rel c.args.set c.args.groups.now) in
    let others = missing c.args.set c.args.groups.now in
    let e : c.extend_from_slice.new.self.items ≡ others ++ normal made =
    c.in_ok-extend_from_slice.ensures.items ∙ (λ i. c.in_ok-after.ensures i ++ (c.as_slice.ensures.value ∙ c.in_ok-unions.ensures.part.1) i) in
    let f = ap normal e ∙ behind_same others made ∙ sym (normal_twice (others ++ made)) in
    rw (p.1, p.2) (fails_later c.args.sets.now c.touched_unions.new.sets (made ∷ [])
    (normal (others ++ made) ∷ []) c.in_err-all.field-0.0 c.in_ok-unions.ensures.part.0 c.in_ok-unions.ensures.count
    (c.in_err-all.ensures.part (normal (others ++ made)) (formed_same c.extend_from_slice.new.self.items (normal (others ++ made)) f _ c.formed.ensures)))

pub returns : goal.returns
returns c =
    let made = star (rel c.args.set c.args.groups.now) in
    let others = missing c.args.set c.args.groups.now in
    let e : c.extend_from_slice.new.self.items ≡ others ++ normal made =
    c.in_ok-extend_from_slice.ensures.items ∙ (λ i. c.in_ok-after.ensures i ++ (c.as_slice.ensures.value ∙ c.in_ok-unions.ensures.part.1) i) in
    let f = ap normal e ∙ behind_same others made ∙ sym (normal_twice (others ++ made)) in
    let q = c.in_ok-all.ensures.part (normal (others ++ made))
    (formed_same c.extend_from_slice.new.self.items (normal (others ++ made)) f _ c.formed.ensures) in (
      small_later c.args.sets.now c.touched_unions.new.sets (made ∷ [])
          (normal (others ++ made) ∷ []) c.in_ok-unions.ensures.part.0 c.in_ok-unions.ensures.count q.0,
      q.1 ∙ normal_twice (others ++ made),
    )
