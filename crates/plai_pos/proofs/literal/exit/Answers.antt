use Rattle.std.proofs.Common.{◌≡◌, ◌^◌, length, sym, ap, ◌∙◌, subst, arith}
use Rattle.plai_base.specs.Mask.{has_slot}
use Rattle.plai_base.proofs.Sets.{IsSet-kept}
use Rattle.plai_factors.specs.Product.{together}
use Rattle.plai_bdd.proofs.Steps.{ok_then}
use Rattle.plai_pos_laws.specs.Assignments.{exit_of}
use Rattle.plai_pos.specs.TermSlots.{AreBelow}
use Rattle.plai_pos.specs.Values.{IsDiagramOf, IsPositiveBelow, assignments_of, image, models_in}
use Rattle.plai_pos.proofs.Equal.{state_positive}
use Rattle.plai_pos.proofs.Determined.{exit_whole}
use Rattle.plai_pos.proofs.literal.exit.Goals as goal

pub image-requires-clause-slots : goal.image-requires-clause-slots
image-requires-clause-slots c =
    let s = c.args.state.now in
    let seen : length c.as_slice-2.result.now ≡ length s.sets.items = ap length c.as_slice-2.ensures.value in
    omega (arith, seen, s.size, s.slots)

pub image-requires-clause-below : goal.image-requires-clause-below
image-requires-clause-below c = subst (AreBelow c.args.state.now.variables) (sym c.as_slice-2.ensures.value) c.args.state.now.below

pub image-requires-clause-functions : goal.image-requires-clause-functions
image-requires-clause-functions c =
    subst (λ fs. IsPositiveBelow c.args.state.now.variables (together fs)) (sym (c.in_ok-factors.ensures ∙ c.as_slice.ensures.value))
    (state_positive c.args.state.now)

pub returns : goal.returns
returns c =
    let s = c.args.state.now in
    let ys = models_in s.variables (together s.factors.items) in
    ok_then _ _
    (λ b h.
    subst (λ k. IsDiagramOf k (exit_of s.arity (assignments_of s)) b) s.size
    (subst (λ xs. IsDiagramOf (length s.sets.items) xs b)
    (sym (exit_whole s.arity s.variables s.sets.items ys s.size (IsSet-kept (2 ^ s.variables) (λ y. together s.factors.items (has_slot y)))))
    (subst (λ sets. IsDiagramOf (length sets) (image sets ys) b) c.as_slice-2.ensures.value
    (subst (λ fs. IsDiagramOf (length c.as_slice-2.result.now) (image c.as_slice-2.result.now (models_in s.variables (together fs))) b)
    (c.in_ok-factors.ensures ∙ c.as_slice.ensures.value) h))))
    c.image.result c.image.ensures
