-- Actions of builtins, part by part.
use Rattle.std.proofs.Common.{◌≡◌, ℕ, ◌+◌, List, ◌++◌, length, None, Some, sym, ap, subst, ◌∙◌, arith}
use Rattle.plai_domain.specs.declared.dom_fail.DomFail.{DomFail}
use Rattle.plai_domain.specs.declared.action.Action.{Action}
use Rattle.plai_domain.specs.Outcomes.{too_large_from, too_large}
use Rattle.plai_share_laws.specs.Shares.{Shares, Side, first_slots, sizes}
use Rattle.plai_share_laws.specs.Calls.{extend, extend_formed, acted, acted_formed, refine, refine_formed, first_of_some}
use Rattle.plai_share_laws.specs.Sharing.{state_with, state_from}
use Rattle.plai_share.specs.Formed.{IsFailure}
use Rattle.plai_share.proofs.Places.{behind, fails_later}

module _ (first : ℕ) (sides : List Side) (action : Action) (v : Shares) where
  formed_is : (wide : Shares) → wide ≡ extend first sides v → extend_formed first sides v ++ acted_formed first action wide ≡ refine_formed first sides action v
  formed_is wide e = ap (λ w. extend_formed first sides v ++ acted_formed first action w) e

  zero : (now : ℕ) → now ≡ length (extend_formed first sides v) → now ≡ 0 + length (extend_formed first sides v)
  zero now d = d ∙ (let z : length (extend_formed first sides v) ≡ 0 + length (extend_formed first sides v) = omega arith in z)

  pub refine_fails : (wide : Shares) (now : ℕ) (fail : DomFail) → wide ≡ extend first sides v
      → too_large_from (0 + 1) (sizes (extend_formed first sides v)) ≡ None → now ≡ length (extend_formed first sides v)
      → IsFailure now (acted_formed first action wide) fail → IsFailure 0 (refine_formed first sides action v) fail
  refine_fails wide now fail e h d p = subst (λ zs. IsFailure 0 zs fail) (formed_is wide e)
      (fails_later 0 now (extend_formed first sides v) (acted_formed first action wide) fail h (zero now d) p)

  pub refine_sizes : (wide : Shares) (now : ℕ) → wide ≡ extend first sides v
      → too_large_from (0 + 1) (sizes (extend_formed first sides v)) ≡ None → now ≡ length (extend_formed first sides v)
      → too_large_from (now + 1) (sizes (acted_formed first action wide)) ≡ None → too_large (sizes (refine_formed first sides action v)) ≡ None
  refine_sizes wide now e h d p = ap (λ zs. too_large_from 1 (sizes zs)) (sym (formed_is wide e))
      ∙ behind 0 (extend_formed first sides v) (acted_formed first action wide) h
      ∙ ap (λ k. too_large_from (k + 1) (sizes (acted_formed first action wide))) (sym (zero now d)) ∙ p

  pub refine_none : (arity variables : ℕ) (wide : Shares) → wide ≡ extend first sides v → None ≡ acted first sides action wide
      → None ≡ state_from arity variables (refine first sides action v)
  refine_none arity variables wide e d = ap (λ o. state_from arity variables (first_of_some first o)) (d ∙ ap (acted first sides action) e)

  pub refine_some : (arity variables : ℕ) (wide after next : Shares) → wide ≡ extend first sides v → Some after ≡ acted first sides action wide
      → next ≡ first_slots first after
      → Some (state_with arity variables next) ≡ state_from arity variables (refine first sides action v)
  refine_some arity variables wide after next e d p = ap (λ w. Some (state_with arity variables w)) p
      ∙ ap (λ o. state_from arity variables (first_of_some first o)) (d ∙ ap (acted first sides action) e)
