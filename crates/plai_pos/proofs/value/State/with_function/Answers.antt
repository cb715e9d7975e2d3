use Rattle.std.proofs.Common.{◌&&◌, ap, ◌∙◌}
use Rattle.plai_bdd.specs.Nodes.{holds}
use Rattle.plai_factors.specs.Product.{together}
use Rattle.plai_bdd.proofs.Steps.{ok_then}
use Rattle.plai_pos_laws.specs.Groundness.{state_with}
use Rattle.plai_pos.specs.Values.{determined}
use Rattle.plai_pos.proofs.Equal.{state_positive}
use Rattle.plai_pos.proofs.Factors.{positive_push, models_push}
use Rattle.plai_pos.proofs.value.State.with_function.Goals as goal

pub with_factors-requires : goal.with_factors-requires
with_factors-requires c =
    let s = c.args.self.now in
    let shared = c.in_ok-factors.ensures ∙ c.as_slice.ensures.value in
    positive_push s.variables s.factors.items c.args.function c.in_ok-factors-2.factors.items
    (λ at. c.in_ok-factors-2.ensures at ∙ ap (λ fs. together fs at && holds c.args.function at) shared) (state_positive s) c.requires

pub returns : goal.returns
returns c =
    let s = c.args.self.now in
    let shared = c.in_ok-factors.ensures ∙ c.as_slice.ensures.value in
    ok_then _ _
    (λ next h.
    h ∙ ap (λ ys. state_with s.arity s.variables (determined s.arity s.variables s.sets.items ys))
    (models_push s.variables s.factors.items c.args.function c.in_ok-factors-2.factors.items
    (λ at. c.in_ok-factors-2.ensures at ∙ ap (λ fs. together fs at && holds c.args.function at) shared)))
    c.with_factors.result c.with_factors.ensures
