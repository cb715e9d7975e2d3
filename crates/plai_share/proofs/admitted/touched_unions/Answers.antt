use Rattle.std.proofs.Common.{[], ◌∷◌, ap, ◌∙◌}
use Rattle.std.proofs.lemmas.Result.{err_from_is_err_and}
use Rattle.plai_share_laws.specs.Groups.{rel, star}
use Rattle.plai_share_laws.specs.Shares.{sizes}
use Rattle.plai_share.proofs.Places.{fails_same}
use Rattle.plai_share.proofs.admitted.touched_unions.Goals as goal

pub returns-in_err-unions-clause-part : goal.returns-in_err-unions-clause-part
returns-in_err-unions-clause-part c =
    let p = err_from_is_err_and c.from_residual-in_err-unions.result c.from_residual-in_err-unions.ensures.1 in
    let e = c.as_slice.ensures.value ∙ c.in_ok-touched.ensures in
    rw (p.1, p.2) (fails_same c.args.sets.now (star c.as_slice.result.now ∷ []) (star (rel c.args.set c.args.groups.now) ∷ []) c.in_err-unions.field-0.0
    (ap (λ xs. sizes (star xs ∷ [])) e) (c.in_err-unions.ensures.part (star c.as_slice.result.now) c.in_ok-made.ensures.all))
