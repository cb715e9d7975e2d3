use Rattle.std.proofs.Common.{[], ◌∷◌, sym}
use Rattle.std.proofs.lemmas.Result.{err_from_is_err_and}
use Rattle.plai_share_laws.specs.Groups.{bin}
use Rattle.plai_share_laws.specs.Shares.{sizes}
use Rattle.plai_share.specs.Formed.{united_formed}
use Rattle.plai_share.proofs.Places.{fails_same}
use Rattle.plai_share.proofs.unify.united.Goals as goal

pub returns-in_err-united-clause-part : goal.returns-in_err-united-clause-part
returns-in_err-united-clause-part c =
    let p = err_from_is_err_and c.from_residual-in_err-united.result c.from_residual-in_err-united.ensures.1 in
    rw (p.1, p.2) (fails_same c.args.sets.now (bin c.args.left.now c.args.right.now ∷ [])
    (united_formed c.args.one_free c.args.left.now c.args.right.now) c.in_err-united.field-0.0
    (λ i. sizes (united_formed (sym c.if-one_free.true i) c.args.left.now c.args.right.now))
    (c.in_err-united.ensures.part (bin c.args.left.now c.args.right.now) c.in_ok-set.ensures))
