use Rattle.std.proofs.Common.{◌≡◌, length, sym, ap, ◌∙◌, subst}
use Rattle.plai_factors.specs.Product.{together}
use Rattle.plai_pos_laws.specs.Groundness.{state_with}
use Rattle.plai_pos.specs.TermSlots.{AreBelow}
use Rattle.plai_pos.specs.Values.{determined, models_in}
use Rattle.plai_pos.proofs.value.State.with_factors.Goals as goal

pub invariant_of-result : goal.invariant_of-result
invariant_of-result c =
    let s = c.args.self.now in
    let same : c.in_ok-sets.sets.items ≡ s.sets.items = c.in_ok-sets.ensures.items ∙ c.as_slice.ensures.value in
    record {
      small = s.small;
      slots = s.slots;
      size = ap length same ∙ s.size;
      below = subst (AreBelow s.variables) (sym same) s.below;
      over = c.requires.over;
      top = c.requires.top;
    }

pub returns : goal.returns
returns c =
    let s = c.args.self.now in
    ap (λ xs. state_with s.arity s.variables (determined s.arity s.variables xs (models_in s.variables (together c.args.factors.items))))
    (c.in_ok-sets.ensures.items ∙ c.as_slice.ensures.value)
