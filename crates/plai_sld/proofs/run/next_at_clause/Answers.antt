use Rattle.std.proofs.Common.{◌≡◌, ◌⊎◌, inl, inr, ◌+◌, ◌++◌, map, ap, refl, subst, ◌∙◌}
use Rattle.plai_terms.specs.Subst.{bound_to}
use Rattle.plai_terms.specs.Substitution.{under}
use Rattle.plai_terms.specs.declared.outcome.Outcome.{Outcome}
use Rattle.plai_terms.specs.declared.outcome.Outcome.TheVariants.{Clash, Occurs}
use Rattle.plai_terms.specs.Unification.{UnifiesTo}
use Rattle.plai_sld.specs.Runs.{items_under, goals_of}
use Rattle.plai_sld.specs.Stacks.{limited}
use Rattle.plai_sld.specs.Steps.{answer_to}
use Rattle.plai_sld.specs.declared.stepped.Stepped.TheVariants as steps
use Rattle.plai_sld.proofs.Reached.{head_renamed, unified_head, clause_top_is}
use Rattle.plai_sld.proofs.run.next_at_clause.Goals as goal

pub returns-in-Unified : goal.returns-in-Unified
returns-in-Unified c =
    let heads = c.deref.ensures.value ∙ head_renamed c.args.clause.now c.requires.clause c.args.number _ c.in_ok-renaming.ensures c.in_ok-head.head.items
    (c.in_ok-head.ensures ∙ ap (map (under _)) c.as_slice.ensures) in
    let outcome = subst (λ o. UnifiesTo c.deref.result.now c.args.args.now o) c.in-Unified.is c.in_ok-bindings.ensures in
    let next = c.args.number + c.args.clause.now.variables in
    let goals = items_under (bound_to c.in-Unified.bindings) (goals_of (bound_to c.in_ok-renaming.renaming) c.as_slice-body.result.now) in
    let top = c.in_ok-push_goals-in-Unified.ensures ∙ ap (λ ws. ws ++ limited next goals) c.new-top.ensures.items in
    let (change, items) =
    clause_top_is c.args.clause.now c.requires.clause c.args.number _ c.in_ok-renaming.ensures c.args.pred.now c.args.args.now c.args.below.now.bindings
    c.in-Unified.bindings c.args.stack.now c.push_goals.new.items.items c.new-in-Unified-2.result
    c.as_slice-body.result.now goals c.in_ok-below-in-Unified.below _ _ _ _ c.args.below.now.limit c.as_slice-body.ensures refl top
    (c.new-in-Unified-2.ensures ∙ c.in_ok-push-in-Unified.ensures.items) refl c.in_ok-copy-in-Unified.ensures
    (c.new.ensures ∙ c.in_ok-copy_terms-in-Unified.ensures) (c.new-in-Unified.ensures ∙ c.in_ok-terms_under-in-Unified.ensures)
    c.in_ok-below-in-Unified.ensures.limit c.in_ok-below-in-Unified.ensures.both c.requires.below c.requires.stack in
    (change, c.in-Unified.bindings, unified_head _ _ c.args.args.now _ heads outcome, ap (λ xs. record { items = xs; next = next }) items)

pub returns : goal.returns
returns c =
    let heads = c.deref.ensures.value ∙ head_renamed c.args.clause.now c.requires.clause c.args.number _ c.in_ok-renaming.ensures c.in_ok-head.head.items
    (c.in_ok-head.ensures ∙ ap (map (under _)) c.as_slice.ensures) in
    (refl, c.in_ok-bindings.field-0, unified_head _ _ c.args.args.now _ heads c.in_ok-bindings.ensures, clash c.in_ok-bindings.field-0 c.in-Clash.is)
  where
    clash : (o : Outcome) → (o ≡ Clash) ⊎ (o ≡ Occurs) → answer_to o ≡ steps.Clash
    clash o (inl e) = ap answer_to e
    clash o (inr e) = ap answer_to e
