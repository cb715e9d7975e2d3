use Rattle.std.proofs.Common.{sym, ap, ◌∙◌, subst}
use Rattle.plai_factors.specs.Product.{together}
use Rattle.plai_bdd.proofs.Steps.{ok_then}
use Rattle.plai_pos_laws.specs.Groundness.{state_with}
use Rattle.plai_pos.specs.Values.{determined, models_in, IsPositiveBelow}
use Rattle.plai_pos.proofs.Equal.{state_positive}
use Rattle.plai_pos.proofs.value.State.copy.Goals as goal

pub with_factors-requires : goal.with_factors-requires
with_factors-requires c =
    subst (λ fs. IsPositiveBelow c.args.self.now.variables (together fs)) (sym (c.in_ok-factors.ensures ∙ c.as_slice.ensures.value))
    (state_positive c.args.self.now)

pub returns : goal.returns
returns c =
    let s = c.args.self.now in
    ok_then _ _
    (λ next h.
    h ∙ ap (λ fs. state_with s.arity s.variables (determined s.arity s.variables s.sets.items (models_in s.variables (together fs))))
    (c.in_ok-factors.ensures ∙ c.as_slice.ensures.value))
    c.with_factors.result c.with_factors.ensures
