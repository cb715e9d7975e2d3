-- Operations of a lawful domain lead from values and states to values and states.
use Rattle.std.proofs.Common.{◌≡◌, ◌≤◌, ℕ, List, length, Option, Some, None, sym, subst}
use Rattle.std.specs.Prelude.{All, IfSome}
use Rattle.std.specs.Option.{option_map}
use Rattle.plai_terms.specs.declared.term.Term.{Term}
use Rattle.plai_terms.specs.declared.prop.Prop.{Prop}
use Rattle.plai_terms.specs.declared.abs.Abs.{Abs}
use Rattle.plai_domain.specs.declared.action.Action.{Action}
use Rattle.plai_domain.specs.Plain.{StateView, PlainDomain, UpTo}
use Rattle.plai_domain.specs.Instances.{speaks_within, acts_within}
use Rattle.plai_domain.specs.Conditions.{IsValue, IsHead, AreArguments, most_arguments}
use Rattle.plai_domain.specs.Laws.{IsLawful}
use Rattle.plai_compare.specs.Known.{IsStateOf}

module _ (p : PlainDomain) (laws : IsLawful p) where
  pub described : (n : ℕ) (pre : List Prop) (a : Abs) → n ≤ most_arguments → All (speaks_within n) pre → a ≡ p.describe n pre → IsValue p n a
  described n pre a few within e = subst (λ x. IsValue p n x) (sym e) (laws.ordered.describe n pre few within)

  pub joined : (n : ℕ) (a b c : Abs) → IsValue p n a → IsValue p n b → c ≡ p.join a b → IsValue p n c
  joined n a b c va vb e = subst (λ x. IsValue p n x) (sym e) (laws.ordered.right n a (p.join a b) (laws.ordered.join_first n a b va vb))

  module _ (n v : ℕ) where
    abbrev There : StateView → Type 0
    There s = p.Below n v s s

    -- a clause's state has the clause's numbers
    is_state_of : (s : StateView) → There s → IsStateOf p n v s
    is_state_of s h = record {
      state = subst (λ k. p.Below k s.variables s s) (sym (laws.shaped.arity n v s s h))
          (subst (λ k. p.Below n k s s) (sym (laws.shaped.variables n v s s h)) h);
      arity = laws.shaped.arity n v s s h;
      variables = laws.shaped.variables n v s s h;
    }

    is_there : (s : StateView) → IsStateOf p n v s → There s
    is_there s h = subst (λ k. p.Below n k s s) h.variables (subst (λ k. p.Below k s.variables s s) h.arity h.state)

    all_there : {S : Type 0} (view : S → StateView) (o : Option S) → UpTo (p.Below n v) (option_map view o) (option_map view o)
        → IfSome o (λ s. IsStateOf p n v (view s))
    all_there view None h = tt
    all_there view (Some s) h = is_state_of (view s) h

    there : {S : Type 0} (view : S → StateView) (o : Option S) (found : Option StateView) → option_map view o ≡ found → UpTo (p.Below n v) found found
        → IfSome o (λ s. IsStateOf p n v (view s))
    there view o found e h = all_there view o (subst (λ x. UpTo (p.Below n v) x x) (sym e) h)

    pub entered : {S : Type 0} (view : S → StateView) (o : Option S) (head : List Term) (call : Abs) → IsHead n v head → IsValue p n call
        → option_map view o ≡ (p.enter call head v).value → IfSome o (λ s. IsStateOf p n v (view s))
    entered view o head call good value e = there view o _ e (laws.monotone.enter n v head call call good value)

    pub exited : (s : StateView) (head : List Term) (a : Abs) → IsStateOf p n v s → IsHead n v head → a ≡ p.exit s head → IsValue p n a
    exited s head a is good e = subst (λ x. IsValue p n x) (sym e) (laws.monotone.exit n v head s s good (is_there s is))

    module _ (s : StateView) (is : IsStateOf p n v s) (args : List Term) (good : AreArguments n v args) where
      pub called : (a : Abs) → a ≡ (p.call s args).value → IsValue p (length args) a
      called a e = subst (λ x. IsValue p (length args) x) (sym e) (laws.monotone.call n v args s s good (is_there s is))

      pub backed : {S : Type 0} (view : S → StateView) (o : Option S) (answer : Abs) → IsValue p (length args) answer
          → option_map view o ≡ (p.back s args answer).value → IfSome o (λ s. IsStateOf p n v (view s))
      backed view o answer value e = there view o _ e (laws.monotone.back n v args s s answer answer good (is_there s is) value)

      pub refined : {S : Type 0} (view : S → StateView) (o : Option S) (action : Action) → acts_within (length args) action
          → option_map view o ≡ (p.refine s args action).value → IfSome o (λ s. IsStateOf p n v (view s))
      refined view o action within e = there view o _ e (laws.monotone.refine n v args action s s good within (is_there s is))
