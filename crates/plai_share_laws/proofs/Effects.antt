-- What one step of unification does with an equation.
use Rattle.std.proofs.Common.{◌≡◌, ◌⊎◌, ℕ, Bool, true, false, ◌==◌, ◌&&◌, nat_eq, List, [], ◌∷◌, ◌++◌, length, refl, sym, ◌∙◌, subst, inl, inr}
use Rattle.std.specs.Cmp.Lexicographic.{pointwise}
use Rattle.std.specs.Ordering.{int_eq}
use Rattle.plai_terms.specs.Term.{occurs}
use Rattle.plai_terms.specs.Subst.{composed}
use Rattle.plai_terms.specs.Unification.{Equations, Bindings, equations, bind_of, skip_if, split_of, move_of, Next, Go, Stop, put, moved}
use Rattle.plai_terms.specs.declared.term.Term.{Term, Var, out-Term, roll-Term, roll-out-Term}
use Rattle.plai_terms.specs.declared.term.Term.TheOpen.{Term-F}
use Rattle.plai_terms.specs.declared.term.Term.TheVariants.{rolls-Var, rolls-Int, rolls-Atom, rolls-Compound}
use Rattle.plai_terms.specs.declared.outcome.Outcome.{Outcome}
use Rattle.plai_terms.specs.declared.outcome.Outcome.TheVariants.{Unified, Clash, Occurs}
use Rattle.plai_terms.proofs.MoveAt.{var_var, var_other, int_var, atom_var, compound_var, int_int, atom_atom, compound_compound, int_other, atom_other}
use Rattle.plai_terms.proofs.MoveAt.{compound_other}
use Rattle.plai_terms.proofs.MoveLaws.{IsMove, IsSplit, move_is}
use Rattle.plai_share_laws.proofs.Masks.{by_test}

-- from equations and bindings to what is next
abbrev pub Step : Type 0
Step = Equations → Bindings → Next

pub record Skips (l r : Term) (f : Step) : Type 0 where
  pub same : l ≡ r
  pub goes : (es : Equations) (bs : Bindings) → f es bs ≡ Go es bs

pub record Binds (l r : Term) (f : Step) : Type 0 where
  pub variable : ℕ
  pub term : Term
  pub absent : occurs variable term ≡ false
  pub sides : ((l ≡ Var variable) × (r ≡ term)) ⊎ ((l ≡ term) × (r ≡ Var variable))
  pub goes : (es : Equations) (bs : Bindings) → f es bs ≡ Go (put variable term es) (composed bs ((variable, term) ∷ []))

pub record Parts (l r : Term) (f : Step) : Type 0 where
  pub parts : Equations
  pub split : IsSplit l r parts
  pub goes : (es : Equations) (bs : Bindings) → f es bs ≡ Go (parts ++ es) bs

pub record Stops (f : Step) : Type 0 where
  pub outcome : Outcome
  pub fails : (s : Bindings) → outcome ≡ Unified s → ⊥
  pub goes : (es : Equations) (bs : Bindings) → f es bs ≡ Stop outcome

abbrev pub Effect : Term → Term → Step → Type 0
Effect l r f = Skips l r f ⊎ (Binds l r f ⊎ (Parts l r f ⊎ Stops f))

clash : (f : Step) → ((es : Equations) (bs : Bindings) → f es bs ≡ Stop Clash) → Stops f
clash f g = record { outcome = Clash; fails = λ s e. cc; goes = g }

occurs_there : (f : Step) → ((es : Equations) (bs : Bindings) → f es bs ≡ Stop Occurs) → Stops f
occurs_there f g = record { outcome = Occurs; fails = λ s e. cc; goes = g }

skip_effect : (l r : Term) (b : Bool) → IsMove l r (skip_if b) → Effect l r (moved (skip_if b))
skip_effect l r true h = inl (record { same = h; goes = λ es bs. refl })
skip_effect l r false h = inr (inr (inr (clash (moved (skip_if false)) (λ es bs. refl))))

bind_effect : (l r : Term) (v : ℕ) (t : Term) → IsMove l r (bind_of v t) → Effect l r (moved (bind_of v t))
bind_effect l r v t h = by_test (occurs v t)
    (λ e. inr (inr (inr (occurs_there (moved (bind_of v t)) (λ es bs. rw e refl)))))
    (λ e. let k = rw e at h in
    inr (inl (record { variable = v; term = t; absent = k.0; sides = k.1; goes = λ es bs. rw e refl })))

split_effect : (l r : Term) (a b : List ℕ) (xs ys : List Term) → IsMove l r (split_of a xs b ys) → Effect l r (moved (split_of a xs b ys))
split_effect l r a b xs ys h = by_test (pointwise nat_eq a b && nat_eq (length xs) (length ys))
    (λ e. let k : IsSplit l r (equations xs ys) = rw e at h in
    inr (inr (inl (record { parts = equations xs ys; split = k; goes = λ es bs. rw e refl }))))
    (λ e. inr (inr (inr (clash (moved (split_of a xs b ys)) (λ es bs. rw e refl)))))

module _ (l r : Term) where
  here : IsMove l r (move_of l r)
  here = move_is l r

  effect_of : (x y : Term-F Term) → roll-Term x ≡ l → roll-Term y ≡ r → Effect l r (moved (move_of l r))
  effect_of (Term-F.Var v) (Term-F.Var w) d e =
      let m = var_var l r v w (sym d ∙ rolls-Var v) (sym e ∙ rolls-Var w) in
      let h = subst (λ k. IsMove l r k) m here in
      subst (λ k. Effect l r (moved k)) (sym m)
      (by_test (v == w)
      (λ t. let k : l ≡ r = rw t at h in inl (record { same = k; goes = λ es bs. rw t refl }))
      (λ t. let k = rw t at h in inr (inl (record { variable = v; term = r; absent = k.0; sides = k.1; goes = λ es bs. rw t refl }))))
  effect_of (Term-F.Var v) (Term-F.Int n) d e =
      let m = var_other l r v (sym d ∙ rolls-Var v) (inl (n, sym e ∙ rolls-Int n)) in
      subst (λ k. Effect l r (moved k)) (sym m) (bind_effect l r v r (subst (λ k. IsMove l r k) m here))
  effect_of (Term-F.Var v) (Term-F.Atom a) d e =
      let m = var_other l r v (sym d ∙ rolls-Var v) (inr (inl (a, sym e ∙ rolls-Atom a))) in
      subst (λ k. Effect l r (moved k)) (sym m) (bind_effect l r v r (subst (λ k. IsMove l r k) m here))
  effect_of (Term-F.Var v) (Term-F.Compound a xs) d e =
      let m = var_other l r v (sym d ∙ rolls-Var v) (inr (inr (a, xs, sym e ∙ rolls-Compound a xs))) in
      subst (λ k. Effect l r (moved k)) (sym m) (bind_effect l r v r (subst (λ k. IsMove l r k) m here))
  effect_of (Term-F.Int n) (Term-F.Var w) d e =
      let m = int_var l r n w (sym d ∙ rolls-Int n) (sym e ∙ rolls-Var w) in
      subst (λ k. Effect l r (moved k)) (sym m) (bind_effect l r w l (subst (λ k. IsMove l r k) m here))
  effect_of (Term-F.Atom a) (Term-F.Var w) d e =
      let m = atom_var l r a w (sym d ∙ rolls-Atom a) (sym e ∙ rolls-Var w) in
      subst (λ k. Effect l r (moved k)) (sym m) (bind_effect l r w l (subst (λ k. IsMove l r k) m here))
  effect_of (Term-F.Compound a xs) (Term-F.Var w) d e =
      let m = compound_var l r a xs w (sym d ∙ rolls-Compound a xs) (sym e ∙ rolls-Var w) in
      subst (λ k. Effect l r (moved k)) (sym m) (bind_effect l r w l (subst (λ k. IsMove l r k) m here))
  effect_of (Term-F.Int i) (Term-F.Int n) d e =
      let m = int_int l r i n (sym d ∙ rolls-Int i) (sym e ∙ rolls-Int n) in
      subst (λ k. Effect l r (moved k)) (sym m) (skip_effect l r (int_eq i n) (subst (λ k. IsMove l r k) m here))
  effect_of (Term-F.Atom a) (Term-F.Atom b) d e =
      let m = atom_atom l r a b (sym d ∙ rolls-Atom a) (sym e ∙ rolls-Atom b) in
      subst (λ k. Effect l r (moved k)) (sym m) (skip_effect l r (pointwise nat_eq a b) (subst (λ k. IsMove l r k) m here))
  effect_of (Term-F.Compound a xs) (Term-F.Compound b ys) d e =
      let m = compound_compound l r a b xs ys (sym d ∙ rolls-Compound a xs) (sym e ∙ rolls-Compound b ys) in
      subst (λ k. Effect l r (moved k)) (sym m) (split_effect l r a b xs ys (subst (λ k. IsMove l r k) m here))
  effect_of (Term-F.Int n) (Term-F.Atom b) d e =
      let m = int_other l r n (sym d ∙ rolls-Int n) (inl (b, sym e ∙ rolls-Atom b)) in
      inr (inr (inr (clash (moved (move_of l r)) (λ es bs. rw m refl))))
  effect_of (Term-F.Int n) (Term-F.Compound b ys) d e =
      let m = int_other l r n (sym d ∙ rolls-Int n) (inr (b, ys, sym e ∙ rolls-Compound b ys)) in
      inr (inr (inr (clash (moved (move_of l r)) (λ es bs. rw m refl))))
  effect_of (Term-F.Atom a) (Term-F.Int n) d e =
      let m = atom_other l r a (sym d ∙ rolls-Atom a) (inl (n, sym e ∙ rolls-Int n)) in
      inr (inr (inr (clash (moved (move_of l r)) (λ es bs. rw m refl))))
  effect_of (Term-F.Atom a) (Term-F.Compound b ys) d e =
      let m = atom_other l r a (sym d ∙ rolls-Atom a) (inr (b, ys, sym e ∙ rolls-Compound b ys)) in
      inr (inr (inr (clash (moved (move_of l r)) (λ es bs. rw m refl))))
  effect_of (Term-F.Compound a xs) (Term-F.Int n) d e =
      let m = compound_other l r a xs (sym d ∙ rolls-Compound a xs) (inl (n, sym e ∙ rolls-Int n)) in
      inr (inr (inr (clash (moved (move_of l r)) (λ es bs. rw m refl))))
  effect_of (Term-F.Compound a xs) (Term-F.Atom b) d e =
      let m = compound_other l r a xs (sym d ∙ rolls-Compound a xs) (inr (b, sym e ∙ rolls-Atom b)) in
      inr (inr (inr (clash (moved (move_of l r)) (λ es bs. rw m refl))))

  pub effect : Effect l r (moved (move_of l r))
  effect = effect_of (out-Term l) (out-Term r) (roll-out-Term l) (roll-out-Term r)
