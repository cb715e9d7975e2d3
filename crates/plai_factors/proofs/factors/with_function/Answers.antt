use Rattle.std.proofs.Common.{◌≡◌, ◌&&◌, [], List, sym, subst, arith, ap, ◌∙◌}
use Rattle.std.proofs.lemmas.Grind.{common_steps}
use Rattle.plai_bdd.specs.declared.node.Node.{Node}
use Rattle.plai_bdd.specs.Assignment.{Assignment}
use Rattle.plai_bdd.specs.Nodes.{holds}
use Rattle.plai_factors.specs.Product.{together}
use Rattle.plai_factors.proofs.Products.{merging_start, merging_kept, merging_joined, merged_some, merged_always}
use Rattle.plai_factors.proofs.factors.with_function.Goals as goal
use Rattle.plai_factors.proofs.factors.with_function.Goals.{then-not-is_always+in_ok-push, else-not-is_always}

pub loop-factor-init : goal.loop-factor-init
loop-factor-init c = merging_start c.args.factors.items c.new-kept.result.items c.args.function c.in_ok-new.new c.new-kept.ensures.items c.in_ok-new.ensures

pub loop-factor-preserved-in-Some-branch-3 : goal.loop-factor-preserved-in-Some-branch-3
loop-factor-preserved-in-Some-branch-3 c =
    merging_joined (λ at. together c.args.factors.items at && holds c.args.function at) c.loop-factor.factors.items c.pop.new.self.items
    c.loop-factor.kept.items c.in-Some.factor c.loop-factor.new
    c.in-Some.ensures.items c.loop-factor.invariant c.in-Some-2.both (rw c.in-Some-2.is at c.in_ok-both.ensures)

pub loop-factor-preserved : goal.loop-factor-preserved
loop-factor-preserved c =
    merging_kept (λ at. together c.args.factors.items at && holds c.args.function at) c.loop-factor.factors.items c.pop.new.self.items
    c.loop-factor.kept.items c.in-Some.factor c.loop-factor.new
    c.in-Some.ensures.items c.loop-factor.invariant c.push.new.self.items c.in_ok-push-in-None.ensures.items

pub returns : goal.returns
returns c =
    let cases = c.in_default.ensures.cases in
    let empty : c.loop-factor.factors.items ≡ [] = grind (arith, common_steps, cases, c.in_default.ensures.items) in
    let done : List (List Node) → Type 0 = λ all. (at : Assignment) → together all at ≡ (together c.args.factors.items at && holds c.args.function at) in
    elim c.if-not-is_always.branch [
      | then-not-is_always+in_ok-push w ↦
          subst done (sym (ap (λ v. v.items) w.kept-is))
          (merged_some (λ at. together c.args.factors.items at && holds c.args.function at) c.loop-factor.factors.items c.loop-factor.kept.items
          c.loop-factor.new empty c.loop-factor.invariant
          w.push-then-not-is_always.new.self.items w.in_ok-push.ensures.items)
      | else-not-is_always w ↦
          subst done (sym (ap (λ v. v.items) w.kept-is))
          (merged_always (λ at. together c.args.factors.items at && holds c.args.function at) c.loop-factor.factors.items c.loop-factor.kept.items
          c.loop-factor.new empty c.loop-factor.invariant
          (λ at. sym (ap (λ f. holds f at) c.diagram.ensures) ∙ c.is_always.ensures.0 w.if-not-is_always.false at))
    ]
