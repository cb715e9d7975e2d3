use Rattle.std.proofs.Common.{◌≡◌, ℕ, Bool, ◌/◌, ◌^◌, bit_and, [], ◌∷◌, ◌++◌, filter, ap, ◌∙◌}
use Rattle.std.proofs.lemmas.Result.{err_from_is_err_and}
use Rattle.plai_base.specs.Sets.{has}
use Rattle.plai_share_laws.specs.Groups.{normal, rel, missing, star}
use Rattle.plai_share.proofs.AllUnions.{formed_same}
use Rattle.plai_share.proofs.Answered.{behind_answer, behind_filtered}
use Rattle.plai_share.proofs.Places.{fails_later, small_later}
use Rattle.plai_share.proofs.literal.answered_groups.Goals as goal

pub returns-in_err-all : goal.returns-in_err-all
returns-in_err-all c =
    let p = err_from_is_err_and c.from_residual-in_err-all.result c.from_residual-in_err-all.ensures.1 in
    let set = c.args.set in
    let groups = c.args.groups.now in
    let made = star (rel set groups) in
    let test : ℕ → Bool = λ g. has c.args.answer.now (bit_and set g / 2 ^ c.args.first) in
    let all = behind_answer c.args.first set c.args.answer.now groups in
    let e : c.extend_from_slice.new.self.items ≡ missing set groups ++ filter test (normal made) =
    c.in_ok-extend_from_slice.ensures.items ∙ (λ i. c.in_ok-after.ensures i ++ (c.as_slice-2.ensures.value ∙ c.in_ok-kept.ensures
    ∙ ap (filter test) (c.as_slice.ensures.value ∙ c.in_ok-unions.ensures.part.1)) i) in
    let f = ap normal e ∙ behind_filtered (missing set groups) test made in
    rw (p.1, p.2) (fails_later c.args.sets.now c.touched_unions.new.sets (made ∷ [])
    (all ∷ []) c.in_err-all.field-0.0 c.in_ok-unions.ensures.part.0 c.in_ok-unions.ensures.count
    (c.in_err-all.ensures.part all (formed_same c.extend_from_slice.new.self.items all f _ c.formed.ensures)))

pub returns : goal.returns
returns c =
    let set = c.args.set in
    let groups = c.args.groups.now in
    let made = star (rel set groups) in
    let test : ℕ → Bool = λ g. has c.args.answer.now (bit_and set g / 2 ^ c.args.first) in
    let all = behind_answer c.args.first set c.args.answer.now groups in
    let e : c.extend_from_slice.new.self.items ≡ missing set groups ++ filter test (normal made) =
    c.in_ok-extend_from_slice.ensures.items ∙ (λ i. c.in_ok-after.ensures i ++ (c.as_slice-2.ensures.value ∙ c.in_ok-kept.ensures
    ∙ ap (filter test) (c.as_slice.ensures.value ∙ c.in_ok-unions.ensures.part.1)) i) in
    let f = ap normal e ∙ behind_filtered (missing set groups) test made in
    let q = c.in_ok-all.ensures.part all (formed_same c.extend_from_slice.new.self.items all f _ c.formed.ensures) in
    (small_later c.args.sets.now c.touched_unions.new.sets (made ∷ []) (all ∷ []) c.in_ok-unions.ensures.part.0 c.in_ok-unions.ensures.count q.0, q.1)
