use Rattle.std.proofs.Common.{◌≡◌, ◌||◌, true, false, [], List, Option, Some, None, sym, ap, subst, arith}
use Rattle.std.proofs.lemmas.Grind.{common_steps}
use Rattle.plai_bdd.specs.declared.node.Node.{Node}
use Rattle.plai_bdd.specs.Assignment.{Assignment, IsFree, with_slot}
use Rattle.plai_bdd.specs.Nodes.{IsFunction, holds}
use Rattle.plai_bdd.specs.Slots.{some_slot}
use Rattle.plai_bdd.proofs.Branches.{some_unused}
use Rattle.plai_factors.specs.Product.{together}
use Rattle.plai_factors.proofs.Products.{IsParting, parting_rest, parting_joined, parted_none, parted_some}
use Rattle.plai_factors.proofs.product.without.Goals as goal
use Rattle.plai_factors.proofs.product.without.Goals.{in-Some-joined+in_ok-less+in_ok-new+in_ok-push-2, in_default-joined}

pub returns-then-is_unused : goal.returns-then-is_unused
returns-then-is_unused c at =
    some_unused (together c.args.factors.items) c.args.slot
    (subst (λ fs. IsFree (together fs) c.args.slot) c.as_slice.ensures.value (c.is_unused.ensures c.if-is_unused.true)) c.args.slots at

pub loop-factor-preserved-then-depends_on : goal.loop-factor-preserved-then-depends_on
loop-factor-preserved-then-depends_on c =
    parting_joined c.args.slot c.args.factors.items c.loop-factor.factors.items c.pop.new.self.items c.loop-factor.rest.items c.in-Some.factor
    c.loop-factor.joined
    c.in-Some.ensures.items c.loop-factor.invariant c.in_ok-and_first.field-0 c.in_ok-and_first.ensures

pub loop-factor-preserved : goal.loop-factor-preserved
loop-factor-preserved c =
    parting_rest c.args.slot c.args.factors.items c.loop-factor.factors.items c.pop.new.self.items c.loop-factor.rest.items c.in-Some.factor
    c.loop-factor.joined
    c.in-Some.ensures.items c.loop-factor.invariant c.push.new.self.items c.in_ok-push.ensures.items (c.depends_on.ensures c.if-depends_on.false)

pub returns : goal.returns
returns c =
    let cases = c.in_default.ensures.cases in
    let empty : c.loop-factor.factors.items ≡ [] = grind (arith, common_steps, cases, c.in_default.ensures.items) in
    let was : Option (List Node) → Type 0 = IsParting c.args.slot c.args.factors.items c.loop-factor.factors.items c.loop-factor.rest.items in
    let done : List (List Node) → Type 0 = λ rest. (at : Assignment)
    → together rest at ≡ some_slot c.args.slots c.args.slot (together c.args.factors.items) at in
    elim c.match-joined-2.branch [
      | in-Some-joined+in_ok-less+in_ok-new+in_ok-push-2 w ↦
          let some : was (Some w.in-Some-joined.factor) = subst was w.in-Some-joined.is c.loop-factor.invariant in
          subst done (sym (ap (λ v. v.items) w.rest-is))
          (parted_some c.args.slots c.args.slot c.args.factors.items c.loop-factor.rest.items c.loop-factor.factors.items w.in-Some-joined.factor
          w.in_ok-new.field-0
          w.push-in-Some-joined.new.self.items empty c.requires.there w.in_ok-push-2.ensures.items
          (subst (λ n. IsFunction n (λ at. holds w.in-Some-joined.factor (with_slot at c.args.slot false)
          || holds w.in-Some-joined.factor (with_slot at c.args.slot true))) (sym w.in_ok-new.ensures)
          (subst (λ (d : List Node). IsFunction w.in_ok-less.less (λ at. holds d (with_slot at c.args.slot false) || holds d (with_slot at c.args.slot true)))
          w.diagram.ensures w.in_ok-less.ensures))
          some)
      | in_default-joined w ↦
          let none : was None = subst was w.in_default-joined.is c.loop-factor.invariant in
          subst done (sym (ap (λ v. v.items) w.rest-is))
          (parted_none c.args.slots c.args.slot c.args.factors.items c.loop-factor.rest.items c.loop-factor.factors.items empty none)
    ]
