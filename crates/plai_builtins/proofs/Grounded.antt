-- Unifiers with terms that have no variables.
use Rattle.std.proofs.Common.{◌≡◌, inl, inr, ℕ, ◌<◌, ℤ, true, false, cond, [], ◌∷◌, sym, ap, ◌∙◌, rules, arith}
use Rattle.plai_base.specs.Mask.{mask_of}
use Rattle.plai_terms.specs.Term.{is_ground, occurs}
use Rattle.plai_terms.specs.Subst.{bound_to}
use Rattle.plai_terms.specs.declared.term.Term.{Term, Var, Int, the_lemmas}
use Rattle.plai_terms.specs.Substitution.{under, then_also, occurs_in, IsBelow, AreBelow, IsLocal}
use Rattle.plai_terms.specs.Unification.{Bindings}
use Rattle.plai_terms.specs.Unifiers.{IsMostGeneral}
use Rattle.plai_terms.proofs.Substs.{apply_of-ground}
use Rattle.plai_terms.proofs.Under.{under-Var, occurs-Var_same, or_cases, or_second, or_none, decided, under_same, under_under, under_Var, source, reaches}
use Rattle.plai_domain.specs.declared.action.Action.TheVariants as action
use Rattle.plai_builtins.specs.InTurn.{AllowedInTurn}
use Rattle.plai_builtins.proofs.Turns.{last_action, first_action, idle_local}

pub in_one : (v : ℕ) (t : Term) → occurs_in v (t ∷ []) ≡ true → occurs v t ≡ true
in_one v t o = elim (or_cases (occurs v t) false o) [ inl p ↦ p | inr p ↦ cc ]

-- a term without variables
pub record IsClosed (t : Term) : Type 0 where
  pub grounded : is_ground t ≡ true
  pub free : (v : ℕ) → occurs v t ≡ false

-- two terms that are unified with two that have no variables
module _ (n : ℕ) (t x y c d : Term) (s : Bindings) (below : AreBelow n (t ∷ x ∷ y ∷ [])) (closed : IsClosed c) (z : ℤ) (is_int : d ≡ Int z)
    (u : IsMostGeneral (x ∷ y ∷ []) (c ∷ d ∷ []) s) where
  int_free : (v : ℕ) → occurs v d ≡ false
  int_free v = let no : occurs v (Int z) ≡ false = search (rules, the_lemmas) in ap (occurs v) is_int ∙ no

  first_is : under (bound_to s) x ≡ c
  first_is = let e = u.unifies in let p : under (bound_to s) x ≡ under (bound_to s) c = cc in p ∙ apply_of-ground s c closed.grounded

  second_is : under (bound_to s) y ≡ Int z
  second_is =
      let e = u.unifies in
      let p : under (bound_to s) y ≡ under (bound_to s) d = cc in
      let q : under (bound_to s) (Int z) ≡ Int z = search (rules, the_lemmas) in
      p ∙ ap (under (bound_to s)) is_int ∙ q

  first_dry : (v w : ℕ) → occurs v x ≡ true → occurs w (bound_to s v) ≡ true → ⊥
  first_dry v w i o = let p = sym (ap (occurs w) first_is) ∙ reaches (bound_to s) v w o x i in let q = closed.free w in cc

  second_dry : (v w : ℕ) → occurs v y ≡ true → occurs w (bound_to s v) ≡ true → ⊥
  second_dry v w i o =
      let p = sym (ap (occurs w) second_is) ∙ reaches (bound_to s) v w o y i in
      let q : occurs w (Int z) ≡ false = search (rules, the_lemmas) in
      cc

  -- the bindings of the first term's variables, and those of the others
  first : ℕ → Term
  first v = cond (occurs v x) (bound_to s v) (Var v)

  others : ℕ → Term
  others v = cond (occurs v x) (Var v) (bound_to s v)

  first_at : (v : ℕ) → occurs v x ≡ true → first v ≡ bound_to s v
  unfolding first
  first_at v o = ap (λ b. cond b (bound_to s v) (Var v)) o

  first_off : (v : ℕ) → occurs v x ≡ false → first v ≡ Var v
  unfolding first
  first_off v o = ap (λ b. cond b (bound_to s v) (Var v)) o

  others_at : (v : ℕ) → occurs v x ≡ true → others v ≡ Var v
  unfolding others
  others_at v o = ap (λ b. cond b (Var v) (bound_to s v)) o

  others_off : (v : ℕ) → occurs v x ≡ false → others v ≡ bound_to s v
  unfolding others
  others_off v o = ap (λ b. cond b (Var v) (bound_to s v)) o

  one_and_others : (v : ℕ) → bound_to s v ≡ then_also first others v
  one_and_others v =
      elim (decided (occurs v x)) [
        | inl e ↦
            sym (under_Var (bound_to s v)) ∙ under_same Var others (bound_to s v) (λ w o. absurd (first_dry v w e o))
            ∙ ap (under others) (sym (first_at v e))
        | inr e ↦ sym (others_off v e) ∙ sym (under-Var others v) ∙ ap (under others) (sym (first_off v e))
      ]

  first_grounds : is_ground (under first x) ≡ true
  first_grounds = ap is_ground (under_same first (bound_to s) x first_at ∙ first_is) ∙ closed.grounded

  others_give : under others (under first y) ≡ Int z
  others_give = under_under first others y ∙ under_same (then_also first others) (bound_to s) y (λ v o. sym (one_and_others v)) ∙ second_is

  first_local : IsLocal first n (x ∷ [])
  first_local = record {
    moves = λ v lt out. first_off v (or_none (occurs v x) false out).0;
    brings = λ v w lt i o. let j = in_one v x i in absurd (first_dry v w j (ap (occurs w) (sym (first_at v j)) ∙ o));
  }

  first_below : (v : ℕ) → v < n → IsBelow n (first v)
  first_below v lt w o =
      elim (decided (occurs v x)) [
        | inl e ↦ absurd (first_dry v w e (ap (occurs w) (sym (first_at v e)) ∙ o))
        | inr e ↦ let same = occurs-Var_same w v (ap (occurs w) (sym (first_off v e)) ∙ o) in omega arith
      ]

  others_rest : (v : ℕ) → v < n → occurs v (under first y) ≡ false → others v ≡ Var v
  others_rest v lt out =
      elim (decided (occurs v x)) [
        | inl e ↦ others_at v e
        | inr e ↦
            elim (decided (occurs v y)) [
              | inl k ↦
                  let self : occurs v (Var v) ≡ true = search (rules, the_lemmas) in
                  let there = reaches first v v (ap (occurs v) (first_off v e) ∙ self) y k in
                  cc
              | inr k ↦
                  let a : occurs_in v (x ∷ y ∷ []) ≡ false = cc in
                  others_off v e ∙ u.moves v a (closed_out v)
            ]
      ]
    where
      closed_out : (v : ℕ) → occurs_in v (c ∷ d ∷ []) ≡ false
      closed_out v = let p = closed.free v in let q = int_free v in cc

  others_local : IsLocal others n (under first y ∷ [])
  others_local = record {
    moves = λ v lt out. others_rest v lt (or_none (occurs v (under first y)) false out).0;
    brings = λ v w lt i o.
        elim (decided (occurs v x)) [
          | inl e ↦ inl (ap (λ a. occurs_in a (under first y ∷ [])) (occurs-Var_same w v (ap (occurs w) (sym (others_at v e)) ∙ o)) ∙ i)
          | inr e ↦
              let (a, j, k) = source first v y (in_one v (under first y) i) in
              elim (decided (occurs a x)) [
                | inl p ↦ absurd (first_dry a v p (ap (occurs v) (sym (first_at a p)) ∙ k))
                | inr p ↦
                    let same = occurs-Var_same v a (ap (occurs v) (sym (first_off a p)) ∙ k) in
                    absurd (second_dry v w (ap (λ b. occurs b y) same ∙ j) (ap (occurs w) (sym (others_off v e)) ∙ o))
              ]
        ];
  }

  others_below : (v : ℕ) → v < n → IsBelow n (others v)
  others_below v lt w o =
      elim (decided (occurs v x)) [
        | inl e ↦ let same = occurs-Var_same w v (ap (occurs w) (sym (others_at v e)) ∙ o) in omega arith
        | inr e ↦
            elim (u.brings v w (ap (occurs w) (sym (others_off v e)) ∙ o)) [
              | inl p ↦ omega arith
              | inr (inl p) ↦ below w (or_second (occurs w t) (occurs_in w (x ∷ y ∷ [])) p)
              | inr (inr p) ↦
                  elim (or_cases (occurs w c) (occurs_in w (d ∷ [])) p) [
                    | inl q ↦ let k = closed.free w in absurd cc
                    | inr q ↦ let k = int_free w in let l = in_one w d q in absurd cc
                  ]
            ]
      ]

  -- the second argument is made ground, then the third an integer, and then nothing more is done
  pub grounds_two : AllowedInTurn n (action.Ground 2 ∷ action.BindInt 3 ∷ action.Havoc (mask_of 0) ∷ []) (t ∷ x ∷ y ∷ []) (bound_to s)
  grounds_two =
      first_action n (action.Ground 2) (action.BindInt 3 ∷ action.Havoc (mask_of 0) ∷ []) (t ∷ x ∷ y ∷ []) first others (bound_to s)
      (first_local, first_grounds) first_below
      (first_action n (action.BindInt 3) (action.Havoc (mask_of 0) ∷ []) (under first t ∷ under first x ∷ under first y ∷ []) others Var others
      (others_local, (z, others_give)) others_below
      (last_action n (action.Havoc (mask_of 0)) (under others (under first t) ∷ under others (under first x) ∷ under others (under first y) ∷ []) Var
      (idle_local n _))
      (λ v lt. sym (under_Var (others v))))
      (λ v lt. one_and_others v)
