-- Actions are monotone, with none below all.
use Rattle.std.proofs.Common.{◌≡◌, ℕ, ◌+◌, ◌-◌, ◌≤◌, ◌<◌, Bool, true, false, cond, List, length, Option, Some, None, refl, arith}
use Rattle.std.proofs.lemmas.Bool.{false≢true}
use Rattle.plai_base.specs.Mask.{has_slot, all_true}
use Rattle.plai_base.specs.Sets.{has_all}
use Rattle.plai_base.proofs.Bits.{top_slot}
use Rattle.plai_terms.specs.declared.term.Term.{Term}
use Rattle.plai_domain.specs.declared.action.Action.{Action}
use Rattle.plai_domain.specs.declared.action.Action.TheVariants as action
use Rattle.plai_domain.specs.Instances.{acts_within, all_below}
use Rattle.plai_domain.specs.Plain.{UpTo}
use Rattle.plai_pos_laws.specs.Assignments.{LeqModels, agree, variable_in, variable_at, if_variable, refine_of}
use Rattle.plai_pos_laws.proofs.Parts.{all_less, agree_true}
use Rattle.plai_pos_laws.proofs.Order.{acted_order}

unless_all : {A : Type 0} (R : A → A → Type 0) (a b : Bool) (x y : A) → (b ≡ true → a ≡ true) → R x y → UpTo R (cond a None (Some x)) (cond b None (Some y))
unless_all R true b x y h r = tt
unless_all R false true x y h r = absurd (false≢true (h refl))
unless_all R false false x y h r = r

variable_order : (n b : ℕ) (xs ys : List ℕ) (o : Option ℕ) → LeqModels b xs ys → UpTo (LeqModels b) (if_variable n xs o) (if_variable n ys o)
variable_order n b xs ys None h = tt
variable_order n b xs ys (Some v) h =
    unless_all (LeqModels b) (has_all xs (λ x. variable_in n x v)) (has_all ys (λ x. variable_in n x v)) xs ys
    (all_less xs ys (λ x. variable_in n x v) h.within) h

module _ (n v : ℕ) (args : List Term) (below : all_below v args ≡ true) where
  top_agrees : (i j : ℕ) → (1 ≤ i) × (i ≤ length args) × (1 ≤ j) × (j ≤ length args)
      → agree (has_slot (all_true (n + v + length args)) (n + v + (i - 1))) (has_slot (all_true (n + v + length args)) (n + v + (j - 1))) ≡ true
  top_agrees i j h =
      let p : n + v + (i - 1) < n + v + length args = omega (arith, h.0, h.1) in
      let q : n + v + (j - 1) < n + v + length args = omega (arith, h.2, h.3) in
      agree_true _ _ (top_slot (n + v + length args) (n + v + (i - 1)) p) (top_slot (n + v + length args) (n + v + (j - 1)) q)

  top_holds_at : (i : ℕ) → (1 ≤ i) × (i ≤ length args) → has_slot (all_true (n + v + length args)) (n + v + (i - 1)) ≡ true
  top_holds_at i h =
      let p : n + v + (i - 1) < n + v + length args = omega (arith, h.0, h.1) in
      top_slot (n + v + length args) (n + v + (i - 1)) p

  pub refine_order : (a : Action) (xs ys : List ℕ) → acts_within (length args) a → LeqModels (n + v) xs ys
      → UpTo (LeqModels (n + v)) (refine_of n v args a xs) (refine_of n v args a ys)
  refine_order action.Fail xs ys w h = tt
  refine_order (action.Unify i j) xs ys w h =
      let test : ℕ → Bool = λ y. agree (has_slot y (n + v + (i - 1))) (has_slot y (n + v + (j - 1))) in
      acted_order n v args test test xs ys below (top_agrees i j w) (λ m e. e) h
  refine_order (action.Same i j) xs ys w h =
      let test : ℕ → Bool = λ y. agree (has_slot y (n + v + (i - 1))) (has_slot y (n + v + (j - 1))) in
      acted_order n v args test test xs ys below (top_agrees i j w) (λ m e. e) h
  refine_order (action.Ground i) xs ys w h =
      let test : ℕ → Bool = λ y. has_slot y (n + v + (i - 1)) in
      acted_order n v args test test xs ys below (top_holds_at i w) (λ m e. e) h
  refine_order (action.BindInt i) xs ys w h =
      let test : ℕ → Bool = λ y. has_slot y (n + v + (i - 1)) in
      acted_order n v args test test xs ys below (top_holds_at i w) (λ m e. e) h
  refine_order (action.Var i) xs ys w h = variable_order n (n + v) xs ys (variable_at args (i - 1)) h
  refine_order (action.Nonvar i) xs ys w h = h
  refine_order (action.Havoc slots) xs ys w h = h
