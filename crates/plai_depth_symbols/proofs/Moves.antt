-- Pulls, pushes and the operations of terms cut at a depth give only symbols of the skeletons and terms that they are given.
use Rattle.std.proofs.Common.{◌≡◌, ℕ, zero, suc, ◌-◌, ℤ, Bool, true, false, cond, ◌&&◌, List, [], ◌∷◌, map, length, set, slice_index_or, replicate, Some}
use Rattle.std.proofs.Common.{None, refl, sym, ◌∙◌, subst, inl, inr, rules}
use Rattle.std.specs.Option.{option_map}
use Rattle.std.specs.List.{flat_map, AllByRecursion}
use Rattle.std.proofs.lemmas.List.{length-map}
use Rattle.plai_theory.specs.Words.{IsIn}
use Rattle.plai_terms.specs.declared.term.Term.{Term, out-Term, Var, Int as number, Atom as constant, Compound as structure, the_lemmas}
use Rattle.plai_terms.specs.declared.prop.Prop.{Prop}
use Rattle.plai_terms.specs.declared.prop.Prop.TheVariants as property
use Rattle.plai_terms.proofs.Terms.{induction}
use Rattle.plai_terms.specs.declared.skeleton.Skeleton.{Skeleton, out-Skeleton, Any, Integer, Int, Atom}
use Rattle.plai_terms.specs.declared.skeleton.Skeleton.TheOpen.{Skeleton-F}
use Rattle.plai_domain.specs.declared.action.Action.{Action}
use Rattle.plai_domain.specs.declared.action.Action.TheVariants as action
use Rattle.plai_domain.specs.Instances.{argument}
use Rattle.plai_depth_laws.specs.Skeletons.{same_functor, cut, meet}
use Rattle.plai_depth_laws.specs.Moves.{skeleton_at, pull, push_args, push_compound, push, push_all}
use Rattle.plai_depth_laws.specs.Operations.{is_any, describe_of, pulled, join_of, enter_of, unify_of, is_variable_layer, refine_of}
use Rattle.plai_depth_laws.proofs.Cuts.{cut_up}
use Rattle.plai_depth_laws.proofs.Joins.{join_above}
use Rattle.plai_depth_laws.proofs.Moves.{pull-Var, pull-Int, pull-Atom, pull-Compound, push-Var, push-Int, push-Atom, push-Compound, mapped_some, then_some}
use Rattle.plai_depth_symbols.specs.Symbols.{Symbol, Number, Constant, Functor, term_symbols}
use Rattle.plai_depth_symbols.proofs.Symbols.{in_first, in_second, Over, AllOver, layer_over, over-Any, over-Integer, over-Int, over-Atom, over-Compound}
use Rattle.plai_depth_symbols.proofs.Symbols.{over_above}
use Rattle.plai_depth_symbols.proofs.Meets.{meet_over}

-- ---- the symbols of terms

symbols-Var : (v : ℕ) → term_symbols (Var v) ≡ []
symbols-Var v = search (rules, the_lemmas)

symbols-Int : (n : ℤ) → term_symbols (number n) ≡ Number n ∷ []
symbols-Int n = search (rules, the_lemmas)

symbols-Atom : (name : List ℕ) → term_symbols (constant name) ≡ Constant name ∷ []
symbols-Atom name = search (rules, the_lemmas)

symbols-Compound : (name : List ℕ) (args : List Term) → term_symbols (structure name args)
    ≡ Functor name (length (map term_symbols args)) ∷ flat_map (λ symbols. symbols) (map term_symbols args)
symbols-Compound name args = search (rules, the_lemmas)

module _ (signature : List Symbol) where
  -- each symbol that stands in the term is of the signature
  abbrev pub TermOver : Term → Type 0
  TermOver t = (x : Symbol) → IsIn x (term_symbols t) → IsIn x signature

  abbrev pub TermsOver : List Term → Type 0
  TermsOver = AllByRecursion TermOver

  var_over : (v : ℕ) → TermOver (Var v)
  var_over v x i = absurd (subst (IsIn x) (symbols-Var v) i)

  args_over : (args : List Term) → ((x : Symbol) → IsIn x (flat_map (λ symbols. symbols) (map term_symbols args)) → IsIn x signature) → TermsOver args
  args_over [] h = tt
  args_over (t ∷ args) h = (
    λ x i. h x (in_first x (term_symbols t) (flat_map (λ symbols. symbols) (map term_symbols args)) i),
    args_over args (λ x i. h x (in_second x (term_symbols t) (flat_map (λ symbols. symbols) (map term_symbols args)) i)),
  )

  argument_over : (args : List Term) → TermsOver args → (i : ℕ) → TermOver (argument args i)
  argument_over args h i = at args h (i - 1)
    where
      at : (args : List Term) → TermsOver args → (i : ℕ) → TermOver (slice_index_or args i (Var 0))
      at [] h i = var_over 0
      at (t ∷ args) h zero = h.0
      at (t ∷ args) h (suc i) = at args h.1 i

  -- ---- pulls

  at_over : (ss : List Skeleton) → AllOver signature ss → (v : ℕ) → Over signature (skeleton_at ss v)
  at_over [] h v = over-Any signature
  at_over (s ∷ ss) h zero = h.0
  at_over (s ∷ ss) h (suc v) = at_over ss h.1 v

  module _ (ss : List Skeleton) (has : AllOver signature ss) where
    abbrev PullOver : Term → Type 0
    PullOver t = TermOver t → Over signature (pull ss t)

    pulls_over : (args : List Term) → AllByRecursion PullOver args → TermsOver args → AllOver signature (map (pull ss) args)
    pulls_over [] h k = tt
    pulls_over (t ∷ args) h k = (h.0 k.0, pulls_over args h.1 k.1)

    pub pull_over : (t : Term) → TermOver t → Over signature (pull ss t)
    pull_over = induction PullOver
        (λ v k. subst (Over signature) (sym (pull-Var ss v)) (at_over ss has v))
        (λ n k. subst (Over signature) (sym (pull-Int ss n)) (over-Int signature n (k (Number n) (subst (IsIn (Number n)) (sym (symbols-Int n)) (inl refl)))))
        (λ name k. subst (Over signature) (sym (pull-Atom ss name))
        (over-Atom signature name (k (Constant name) (subst (IsIn (Constant name)) (sym (symbols-Atom name)) (inl refl)))))
        (λ name args h k.
        let each = λ (x : Symbol) (i : IsIn x (Functor name (length (map term_symbols args)) ∷ flat_map (λ symbols. symbols) (map term_symbols args))).
        k x (subst (IsIn x) (sym (symbols-Compound name args)) i) in
        let count : length (map term_symbols args) ≡ length (map (pull ss) args) = length-map args term_symbols ∙ sym (length-map args (pull ss)) in
        subst (Over signature) (sym (pull-Compound ss name args))
        (over-Compound signature name (map (pull ss) args)
        (subst (λ n. IsIn (Functor name n) signature) count (each (Functor name (length (map term_symbols args))) (inl refl)))
        (pulls_over args h (args_over args (λ x i. each x (inr i))))))

    pub pulled_over : (k : ℕ) (terms : List Term) → TermsOver terms → AllOver signature (pulled k terms ss)
    pulled_over k [] h = tt
    pulled_over k (t ∷ terms) h = (over_above signature (cut_up k (pull ss t)) (pull_over t h.0), pulled_over k terms h.1)

  -- ---- pushes

  set_over : (ss : List Skeleton) (v : ℕ) (m : Skeleton) → AllOver signature ss → Over signature m → AllOver signature (set ss v m)
  set_over [] v m h k = tt
  set_over (s ∷ ss) zero m h k = (k, h.1)
  set_over (s ∷ ss) (suc v) m h k = (h.0, set_over ss v m h.1 k)

  abbrev PushOver : Term → Type 0
  PushOver t = (ss ss' : List Skeleton) (a : Skeleton) → AllOver signature ss → Over signature a → push t ss a ≡ Some ss' → AllOver signature ss'

  push_args_over : (args : List Term) → AllByRecursion PushOver args → (as' ss ss' : List Skeleton) → AllOver signature ss → AllOver signature as'
      → push_args (map push args) as' ss ≡ Some ss' → AllOver signature ss'
  push_args_over [] h as' ss ss' p q e = let is : ss ≡ ss' = cc in subst (AllOver signature) is p
  push_args_over (t ∷ args) h [] ss ss' p q e = let is : ss ≡ ss' = cc in subst (AllOver signature) is p
  push_args_over (t ∷ args) h (a ∷ as') ss ss' p q e =
      let (mid, f, g) = then_some (push_args (map push args) as') (push t ss a) ss' e in
      push_args_over args h.1 as' mid ss' (h.0 ss mid a p q.0 f) q.1 g

  compound_over : (name : List ℕ) (args : List Term) → AllByRecursion PushOver args → (ss ss' : List Skeleton) (a : Skeleton) → AllOver signature ss
      → Over signature a
      → (x : Skeleton-F Skeleton) → out-Skeleton a ≡ x → push_compound name (map push args) ss x ≡ Some ss' → AllOver signature ss'
  compound_over name args h ss ss' a p q Skeleton-F.Any i e = let is : ss ≡ ss' = cc in subst (AllOver signature) is p
  compound_over name args h ss ss' a p q (Skeleton-F.Compound other as') i e =
      elim (same_functor name (length (map push args)) other (length as')) as (λ b.
      cond b (push_args (map push args) as' ss) None ≡ Some ss' → AllOver signature ss') [
        | true ↦ λ r. push_args_over args h as' ss ss' p (layer_over signature a (Skeleton-F.Compound other as') i q).1 r
        | false ↦ λ r. absurd cc
      ] e
  compound_over name args h ss ss' a p q _ i e = absurd cc

  pub push_over : (t : Term) (ss ss' : List Skeleton) (a : Skeleton) → AllOver signature ss → Over signature a → push t ss a ≡ Some ss'
      → AllOver signature ss'
  push_over = induction PushOver
      (λ v ss ss' a p q e.
      let (m, f, is) = mapped_some (set ss v) (meet (skeleton_at ss v) a) ss' (sym (push-Var v ss a) ∙ e) in
      subst (AllOver signature) (sym is) (set_over ss v m p (meet_over signature (skeleton_at ss v) a m (at_over ss p v) q f)))
      (λ n ss ss' a p q e. subst (AllOver signature) (sym (mapped_some (λ m. ss) (meet (Int n) a) ss' (sym (push-Int n ss a) ∙ e)).2) p)
      (λ name ss ss' a p q e. subst (AllOver signature) (sym (mapped_some (λ m. ss) (meet (Atom name) a) ss' (sym (push-Atom name ss a) ∙ e)).2) p)
      (λ name args h ss ss' a p q e. compound_over name args h ss ss' a p q (out-Skeleton a) refl (sym (push-Compound name args ss a) ∙ e))

  pub pushes_over : (terms : List Term) (as' ss ss' : List Skeleton) → AllOver signature ss → AllOver signature as' → push_all terms as' ss ≡ Some ss'
      → AllOver signature ss'
  pushes_over [] as' ss ss' p q e = let is : ss ≡ ss' = cc in subst (AllOver signature) is p
  pushes_over (t ∷ terms) [] ss ss' p q e = let is : ss ≡ ss' = cc in subst (AllOver signature) is p
  pushes_over (t ∷ terms) (a ∷ as') ss ss' p q e =
      let (mid, f, g) = then_some (push_all terms as') (push t ss a) ss' e in
      pushes_over terms as' mid ss' (push_over t ss mid a p q.0 f) q.1 g

  -- ---- operations

  any_over : (n : ℕ) → AllOver signature (replicate n Any)
  any_over zero = tt
  any_over (suc n) = (over-Any signature, any_over n)

  pub describe_over : (n : ℕ) (pre : List Prop) → AllOver signature (describe_of n pre)
  describe_over n [] = any_over n
  describe_over n (property.Ground i ∷ pre) = describe_over n pre
  describe_over n (property.Var i ∷ pre) = describe_over n pre
  describe_over n (property.Nonvar i ∷ pre) = describe_over n pre
  describe_over n (property.Int i ∷ pre) = set_over (describe_of n pre) (i - 1) Integer (describe_over n pre) (over-Integer signature)
  describe_over n (property.Indep i j ∷ pre) = describe_over n pre

  pub enter_over : (head : List Term) (variables : ℕ) (call ss : List Skeleton) → AllOver signature call → enter_of head variables call ≡ Some ss
      → AllOver signature ss
  enter_over head variables call ss h e = pushes_over head call (replicate variables Any) ss (any_over variables) h e

  pub join_over : (ss ts : List Skeleton) → AllOver signature ss → AllOver signature (join_of ss ts)
  join_over [] ts h = tt
  join_over (s ∷ ss) [] h = tt
  join_over (s ∷ ss) (t ∷ ts) h = (over_above signature (join_above s t).0 h.0, join_over ss ts h.1)

  cuts_over : (k : ℕ) (ss : List Skeleton) → AllOver signature ss → AllOver signature (map (cut k) ss)
  cuts_over k [] h = tt
  cuts_over k (s ∷ ss) h = (over_above signature (cut_up k s) h.0, cuts_over k ss h.1)

  unify_over : (k : ℕ) (t u : Term) (ss ss' : List Skeleton) → TermOver t → TermOver u → AllOver signature ss → unify_of k t u ss ≡ Some ss'
      → AllOver signature ss'
  unify_over k t u ss ss' h i p e =
      let (m, f, g) = then_some (λ m. option_map (map (cut k)) (push_all (t ∷ u ∷ []) (m ∷ m ∷ []) ss)) (meet (pull ss t) (pull ss u)) ss' e in
      let (mid, j, is) = mapped_some (map (cut k)) (push_all (t ∷ u ∷ []) (m ∷ m ∷ []) ss) ss' g in
      let over = meet_over signature (pull ss t) (pull ss u) m (pull_over ss p t h) (pull_over ss p u i) f in
      subst (AllOver signature) (sym is) (cuts_over k mid (pushes_over (t ∷ u ∷ []) (m ∷ m ∷ []) ss mid p (over, (over, tt)) j))

  if_over : (b : Bool) (ss ss' : List Skeleton) → AllOver signature ss → cond b (Some ss) None ≡ Some ss' → AllOver signature ss'
  if_over true ss ss' p e = let is : ss ≡ ss' = cc in subst (AllOver signature) is p
  if_over false ss ss' p e = absurd cc

  same_over : (ss ss' : List Skeleton) → AllOver signature ss → Some ss ≡ Some ss' → AllOver signature ss'
  same_over ss ss' p e = if_over true ss ss' p e

  pub refine_over : (k : ℕ) (args : List Term) (x : Action) (ss ss' : List Skeleton) → TermsOver args → AllOver signature ss
      → refine_of k args x ss ≡ Some ss' → AllOver signature ss'
  refine_over k args action.Fail ss ss' h p e = absurd cc
  refine_over k args (action.Unify i j) ss ss' h p e =
      unify_over k (argument args i) (argument args j) ss ss' (argument_over args h i) (argument_over args h j) p e
  refine_over k args (action.Same i j) ss ss' h p e =
      unify_over k (argument args i) (argument args j) ss ss' (argument_over args h i) (argument_over args h j) p e
  refine_over k args (action.Ground i) ss ss' h p e = same_over ss ss' p e
  refine_over k args (action.BindInt i) ss ss' h p e = push_over (argument args i) ss ss' Integer p (over-Integer signature) e
  refine_over k args (action.Var i) ss ss' h p e = if_over (is_variable_layer (out-Term (argument args i)) && is_any (pull ss (argument args i))) ss ss' p e
  refine_over k args (action.Nonvar i) ss ss' h p e = same_over ss ss' p e
  refine_over k args (action.Havoc slots) ss ss' h p e = same_over ss ss' p e
