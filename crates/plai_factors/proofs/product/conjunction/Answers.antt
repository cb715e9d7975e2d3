use Rattle.std.proofs.Common.{◌≡◌, ◌<◌, ◌&&◌, [], ◌∷◌, ◌++◌, length, get_or, take, sym, ap, ◌∙◌}
use Rattle.std.proofs.lemmas.List.{take_more}
use Rattle.plai_bdd.specs.Nodes.{holds}
use Rattle.plai_factors.specs.Product.{together}
use Rattle.plai_bdd.proofs.Functions.{IsFunction-as}
use Rattle.plai_factors.proofs.Products.{together-push}
use Rattle.plai_factors.proofs.product.conjunction.Goals as goal

pub loop-factor-preserved : goal.loop-factor-preserved
loop-factor-preserved c =
    let i = c.loop-factor.factor-index in
    let all = c.args.factors.now in
    let within : i < length all = c.loop-factor-test.true in
    let item : c.factor-item.result ≡ get_or all i c.factor-item.result = c.factor-item.is in
    IsFunction-as
    (λ at.
    (λ x. c.loop-factor.invariant.answers at x && holds (c.diagram.ensures x) at)
    ∙ sym (together-push (take i all) c.factor-item.result at)
    ∙ ap (λ f. together (take i all ++ f ∷ []) at) item
    ∙ ap (λ fs. together fs at) (sym (take_more all i c.factor-item.result within)))
    c.in_ok-all-2.ensures
