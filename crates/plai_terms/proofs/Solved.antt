-- Solved equations: the outcome unifies them, is most general and is local to them.
use Rattle.std.proofs.Common.{◌≡◌, ◌⊎◌, inl, inr, ℕ, true, false, ◌||◌, cond, eqb, List, [], ◌∷◌, ◌++◌, map, length, refl, sym, ap, subst, ◌∙◌, rules, arith}
use Rattle.std.proofs.lemmas.Bool.{eqb-true, eq-eqb}
use Rattle.plai_terms.specs.Term.{occurs}
use Rattle.plai_terms.specs.Subst.{bound_to}
use Rattle.plai_terms.specs.declared.term.Term.{Term, Var, Compound, out-Term, the_lemmas}
use Rattle.plai_terms.specs.declared.term.Term.TheOpen.{Term-F}
use Rattle.plai_terms.specs.Substitution.{under, then_also}
use Rattle.plai_terms.specs.Unification.{Equations, equations, put}
use Rattle.plai_terms.proofs.Solutions.{Unifies, occurs_there}
use Rattle.plai_terms.proofs.Under.{under-Var, under-Compound, occurs-Var_same, or_cases, or_first, or_second, decided, under_same, under_under, under_Var}
use Rattle.plai_terms.proofs.Under.{source}
use Rattle.plai_terms.proofs.MoveLaws.{IsSplit}

-- one binding
abbrev pub single : ℕ → Term → ℕ → Term
single v t = bound_to ((v, t) ∷ [])

pub single_cases : (v : ℕ) (t : Term) (w : ℕ) → ((v ≡ w) × (single v t w ≡ t)) ⊎ ((eqb v w ≡ false) × (single v t w ≡ Var w))
single_cases v t w =
    elim (decided (eqb v w)) [
      | inl e ↦ inl (eqb-true v w e, ap (λ b. cond b t (Var w)) e)
      | inr e ↦ inr (e, ap (λ b. cond b t (Var w)) e)
    ]

pub single-same : (v : ℕ) (t : Term) → single v t v ≡ t
single-same v t = ap (λ b. cond b t (Var v)) (eq-eqb v v refl)

-- a binding leaves a term in which its variable does not occur
pub single-absent : (v : ℕ) (t x : Term) → occurs v x ≡ false → under (single v t) x ≡ x
single-absent v t x h =
    under_same (single v t) Var x (λ w o.
    elim (single_cases v t w) [
      | inl k ↦ let o' : occurs v x ≡ true = ap (λ u. occurs u x) k.0 ∙ o in cc
      | inr k ↦ k.1
    ])
    ∙ under_Var x

-- where f makes v equal to t, the binding changes nothing below f
pub absorbed : (f : ℕ → Term) (v : ℕ) (t : Term) → f v ≡ under f t → (w : ℕ) → under f (single v t w) ≡ f w
absorbed f v t e w =
    elim (single_cases v t w) [
      | inl k ↦ ap (under f) k.1 ∙ sym e ∙ ap f k.0
      | inr k ↦ ap (under f) k.1 ∙ under-Var f w
    ]

pub absorbed_under : (f : ℕ → Term) (v : ℕ) (t : Term) → f v ≡ under f t → (x : Term) → under f (under (single v t) x) ≡ under f x
absorbed_under f v t e x = under_under (single v t) f x ∙ under_same (then_also (single v t) f) f x (λ w o. absorbed f v t e w)

-- the variables that a binding leaves
left_in : (v : ℕ) (t : Term) (w : ℕ) (x : Term) → occurs w (under (single v t) x) ≡ true → (occurs w t ≡ true) ⊎ ((occurs w x ≡ true) × (eqb v w ≡ false))
left_in v t w x o =
    let (u, i, j) = source (single v t) w x o in
    elim (single_cases v t u) [
      | inl k ↦ inl (ap (occurs w) (sym k.1) ∙ j)
      | inr k ↦
          let same : w ≡ u = occurs-Var_same w u (ap (occurs w) (sym k.1) ∙ j) in
          inr (ap (λ y. occurs y x) same ∙ i, ap (eqb v) same ∙ k.0)
    ]

pub put_left : (v : ℕ) (t : Term) (w : ℕ) (es : Equations) → occurs_there w (put v t es) ≡ true
    → (occurs w t ≡ true) ⊎ ((occurs_there w es ≡ true) × (eqb v w ≡ false))
put_left v t w [] o = cc
put_left v t w (e ∷ es) o =
    elim (or_cases (occurs w (under (single v t) e.0) || occurs w (under (single v t) e.1)) (occurs_there w (put v t es)) o) [
      | inl p ↦
          elim (or_cases (occurs w (under (single v t) e.0)) (occurs w (under (single v t) e.1)) p) [
            | inl q ↦
                elim (left_in v t w e.0 q) [
                  | inl k ↦ inl k
                  | inr k ↦ inr (or_first (occurs w e.0 || occurs w e.1) (occurs_there w es) (or_first (occurs w e.0) (occurs w e.1) k.0), k.1)
                ]
            | inr q ↦
                elim (left_in v t w e.1 q) [
                  | inl k ↦ inl k
                  | inr k ↦ inr (or_first (occurs w e.0 || occurs w e.1) (occurs_there w es) (or_second (occurs w e.0) (occurs w e.1) k.0), k.1)
                ]
          ]
      | inr p ↦
          elim (put_left v t w es p) [
            | inl k ↦ inl k
            | inr k ↦ inr (or_second (occurs w e.0 || occurs w e.1) (occurs_there w es) k.0, k.1)
          ]
    ]

-- unifiers
pub unifies_append : (f : ℕ → Term) (ds es : Equations) → Unifies f (ds ++ es) → Unifies f ds × Unifies f es
unifies_append f [] es u = (tt, u)
unifies_append f (d ∷ ds) es u = let r = unifies_append f ds es u.1 in ((u.0, r.0), r.1)

pub append_unifies : (f : ℕ → Term) (ds es : Equations) → Unifies f ds → Unifies f es → Unifies f (ds ++ es)
append_unifies f [] es u k = k
append_unifies f (d ∷ ds) es u k = (u.0, append_unifies f ds es u.1 k)

pub unified_lists : (f : ℕ → Term) (xs ys : List Term) → length xs ≡ length ys → Unifies f (equations xs ys) → map (under f) xs ≡ map (under f) ys
unified_lists f [] [] e u = refl
unified_lists f [] (y ∷ ys) e u = absurd (omega arith)
unified_lists f (x ∷ xs) [] e u = absurd (omega arith)
unified_lists f (x ∷ xs) (y ∷ ys) e u =
    let m : length xs ≡ length ys = omega arith in
    let p = u.0 in
    let q = unified_lists f xs ys m u.1 in
    cc

pub lists_unified : (f : ℕ → Term) (xs ys : List Term) → map (under f) xs ≡ map (under f) ys → Unifies f (equations xs ys)
lists_unified f [] ys e = tt
lists_unified f (x ∷ xs) [] e = tt
lists_unified f (x ∷ xs) (y ∷ ys) e =
    let p : under f x ≡ under f y = cc in
    let q : map (under f) xs ≡ map (under f) ys = cc in
    (p, lists_unified f xs ys q)

pub Compound_args : (name : List ℕ) (xs ys : List Term) → Compound name xs ≡ Compound name ys → xs ≡ ys
Compound_args name xs ys e =
    let a : out-Term (Compound name xs) ≡ Term-F.Compound name xs = search (rules, the_lemmas) in
    let b : out-Term (Compound name ys) ≡ Term-F.Compound name ys = search (rules, the_lemmas) in
    let k : Term-F.Compound name xs ≡ Term-F.Compound name ys = sym a ∙ ap out-Term e ∙ b in
    cc

pub split_unified : (f : ℕ → Term) (l r : Term) (ds : Equations) → IsSplit l r ds → Unifies f ds → under f l ≡ under f r
split_unified f l r ds s u =
    let k : Unifies f (equations s.xs s.ys) = subst (Unifies f) s.they u in
    ap (under f) s.left ∙ under-Compound f s.name s.xs ∙ ap (Compound s.name) (unified_lists f s.xs s.ys s.as_many k)
    ∙ sym (under-Compound f s.name s.ys) ∙ ap (under f) (sym s.right)

pub unified_split : (f : ℕ → Term) (l r : Term) (ds : Equations) → IsSplit l r ds → under f l ≡ under f r → Unifies f ds
unified_split f l r ds s e =
    let k : Compound s.name (map (under f) s.xs) ≡ Compound s.name (map (under f) s.ys) =
    sym (under-Compound f s.name s.xs) ∙ ap (under f) (sym s.left) ∙ e ∙ ap (under f) s.right ∙ under-Compound f s.name s.ys in
    subst (Unifies f) (sym s.they) (lists_unified f s.xs s.ys (Compound_args s.name (map (under f) s.xs) (map (under f) s.ys) k))
