-- What a solved list of equations gives.
use Rattle.std.proofs.Common.{◌≡◌, ◌⊎◌, inl, inr, ℕ, zero, suc, true, false, ◌||◌, List, [], ◌∷◌, ◌++◌, Some, refl, sym, ap, ◌∙◌}
use Rattle.std.proofs.lemmas.Bool.{eq-eqb}
use Rattle.plai_terms.specs.Term.{occurs}
use Rattle.plai_terms.specs.Subst.{bound_to, composed}
use Rattle.plai_terms.specs.declared.term.Term.{Term, Var}
use Rattle.plai_terms.specs.Substitution.{under, then_also, occurs_in}
use Rattle.plai_terms.specs.Unification.{Equations, Bindings, equations, move_of, Next, Go, Stop, put, moved, step, going_on, solve}
use Rattle.plai_terms.proofs.Solutions.{Unifies, occurs_there, IsLocalTo}
use Rattle.plai_terms.specs.declared.moves.Move.{Move}
use Rattle.plai_terms.specs.declared.moves.Move.TheVariants.{Skip, Bind, Split, Differ, Contain}
use Rattle.plai_terms.specs.declared.outcome.Outcome.{Outcome}
use Rattle.plai_terms.specs.declared.outcome.Outcome.TheVariants.{Unified}
use Rattle.plai_terms.proofs.Under.{under-Var, occurs-Var, occurs-Var_same, occurs-args, or_cases, or_first, or_second, decided, under_same, under_under}
use Rattle.plai_terms.proofs.Under.{under_Var, source, under-composed}
use Rattle.plai_terms.proofs.MoveLaws.{IsMove, IsSplit, move_is}
use Rattle.plai_terms.proofs.Solved.{single, single_cases, single-same, single-absent, absorbed, absorbed_under, put_left, unifies_append, append_unifies}
use Rattle.plai_terms.proofs.Solved.{split_unified, unified_split}

-- d is what the equations add to the bindings bs, which makes s of them
pub record Extends (es : Equations) (bs s : Bindings) (d : ℕ → Term) : Type 0 where
  pub after : (v : ℕ) → bound_to s v ≡ under d (bound_to bs v)
  pub unifies : Unifies d es
  pub general : (f : ℕ → Term) → Unifies f es → (v : ℕ) → under f (d v) ≡ f v
  pub local : IsLocalTo d es

abbrev pub Extended : Equations → Bindings → Bindings → Type 0
Extended es bs s = (d : ℕ → Term) × Extends es bs s d

not_there : (v : ℕ) (es : Equations) → (occurs_there v es ≡ true → ⊥) → occurs_there v es ≡ false
not_there v es h = elim (decided (occurs_there v es)) [ inl e ↦ absurd (h e) | inr e ↦ e ]

wider : (d : ℕ → Term) (es fs : Equations) → ((w : ℕ) → occurs_there w es ≡ true → occurs_there w fs ≡ true) → IsLocalTo d es → IsLocalTo d fs
wider d es fs h k = record {
  moves = λ v e. k.moves v (not_there v es (λ o. let t = h v o in cc));
  brings = λ v w o. elim (k.brings v w o) [ inl a ↦ inl a | inr a ↦ inr (h w a) ];
}

there_append : (w : ℕ) (ds es : Equations) → occurs_there w (ds ++ es) ≡ true → (occurs_there w ds ≡ true) ⊎ (occurs_there w es ≡ true)
there_append w [] es o = inr o
there_append w (d ∷ ds) es o =
    elim (or_cases (occurs w d.0 || occurs w d.1) (occurs_there w (ds ++ es)) o) [
      | inl p ↦ inl (or_first (occurs w d.0 || occurs w d.1) (occurs_there w ds) p)
      | inr p ↦
          elim (there_append w ds es p) [
            | inl q ↦ inl (or_second (occurs w d.0 || occurs w d.1) (occurs_there w ds) q)
            | inr q ↦ inr q
          ]
    ]

pub there_equations : (w : ℕ) (xs ys : List Term) → occurs_there w (equations xs ys) ≡ true → (occurs_in w xs ≡ true) ⊎ (occurs_in w ys ≡ true)
there_equations w [] ys o = cc
there_equations w (x ∷ xs) [] o = cc
there_equations w (x ∷ xs) (y ∷ ys) o =
    elim (or_cases (occurs w x || occurs w y) (occurs_there w (equations xs ys)) o) [
      | inl p ↦
          elim (or_cases (occurs w x) (occurs w y) p) [
            | inl q ↦ inl (or_first (occurs w x) (occurs_in w xs) q)
            | inr q ↦ inr (or_first (occurs w y) (occurs_in w ys) q)
          ]
      | inr p ↦
          elim (there_equations w xs ys p) [
            | inl q ↦ inl (or_second (occurs w x) (occurs_in w xs) q)
            | inr q ↦ inr (or_second (occurs w y) (occurs_in w ys) q)
          ]
    ]

-- the variables of an equation's parts are its own
pub split_there : (x : Term × Term) (ds es : Equations) → IsSplit x.0 x.1 ds → (w : ℕ) → occurs_there w (ds ++ es) ≡ true → occurs_there w (x ∷ es) ≡ true
split_there x ds es s w o =
    elim (there_append w ds es o) [
      | inl p ↦
          or_first (occurs w x.0 || occurs w x.1) (occurs_there w es)
          (elim (there_equations w s.xs s.ys (ap (occurs_there w) (sym s.they) ∙ p)) [
            | inl q ↦ or_first (occurs w x.0) (occurs w x.1) (ap (occurs w) s.left ∙ occurs-args w s.name s.xs ∙ q)
            | inr q ↦ or_second (occurs w x.0) (occurs w x.1) (ap (occurs w) s.right ∙ occurs-args w s.name s.ys ∙ q)
          ])
      | inr p ↦ or_second (occurs w x.0 || occurs w x.1) (occurs_there w es) p
    ]

-- the two ways in which an equation binds a variable
abbrev pub Binds : Term × Term → ℕ → Term → Type 0
Binds x v t = ((x.0 ≡ Var v) × (x.1 ≡ t)) ⊎ ((x.0 ≡ t) × (x.1 ≡ Var v))

pub binder_there : (x : Term × Term) (v : ℕ) (t : Term) (es : Equations) → Binds x v t → occurs_there v (x ∷ es) ≡ true
binder_there x v t es (inl k) =
    or_first (occurs v x.0 || occurs v x.1) (occurs_there v es) (or_first (occurs v x.0) (occurs v x.1) (ap (occurs v) k.0 ∙ occurs-Var v v ∙ eq-eqb v v refl))
binder_there x v t es (inr k) =
    or_first (occurs v x.0 || occurs v x.1) (occurs_there v es) (or_second (occurs v x.0) (occurs v x.1) (ap (occurs v) k.1 ∙ occurs-Var v v ∙ eq-eqb v v refl))

term_there : (x : Term × Term) (v : ℕ) (t : Term) (es : Equations) → Binds x v t → (w : ℕ) → occurs w t ≡ true → occurs_there w (x ∷ es) ≡ true
term_there x v t es (inl k) w o =
    or_first (occurs w x.0 || occurs w x.1) (occurs_there w es) (or_second (occurs w x.0) (occurs w x.1) (ap (occurs w) k.1 ∙ o))
term_there x v t es (inr k) w o =
    or_first (occurs w x.0 || occurs w x.1) (occurs_there w es) (or_first (occurs w x.0) (occurs w x.1) (ap (occurs w) k.0 ∙ o))

-- the variables behind a binding are the equation's or the others'
pub put_there : (x : Term × Term) (v : ℕ) (t : Term) (es : Equations) → Binds x v t → (w : ℕ) → occurs_there w (put v t es) ≡ true
    → occurs_there w (x ∷ es) ≡ true
put_there x v t es b w o =
    elim (put_left v t w es o) [
      | inl p ↦ term_there x v t es b w p
      | inr p ↦ or_second (occurs w x.0 || occurs w x.1) (occurs_there w es) p.0
    ]

-- what f has to do, at the equation
pub binder_unified : (f : ℕ → Term) (x : Term × Term) (v : ℕ) (t : Term) → Binds x v t → under f x.0 ≡ under f x.1 → f v ≡ under f t
binder_unified f x v t (inl k) e = sym (ap (under f) k.0 ∙ under-Var f v) ∙ e ∙ ap (under f) k.1
binder_unified f x v t (inr k) e = sym (ap (under f) k.1 ∙ under-Var f v) ∙ sym e ∙ ap (under f) k.0

binder_closes : (x : Term × Term) (v : ℕ) (t : Term) → occurs v t ≡ false → Binds x v t → under (single v t) x.0 ≡ under (single v t) x.1
binder_closes x v t a (inl k) =
    ap (under (single v t)) k.0 ∙ under-Var (single v t) v ∙ single-same v t ∙ sym (single-absent v t t a) ∙ ap (under (single v t)) (sym k.1)
binder_closes x v t a (inr k) =
    sym (ap (under (single v t)) k.1 ∙ under-Var (single v t) v ∙ single-same v t ∙ sym (single-absent v t t a) ∙ ap (under (single v t)) (sym k.0))

put_unified : (d : ℕ → Term) (v : ℕ) (t : Term) (es : Equations) → Unifies d (put v t es) → Unifies (then_also (single v t) d) es
put_unified d v t [] u = tt
put_unified d v t (e ∷ es) u =
    (sym (under_under (single v t) d e.0) ∙ u.0 ∙ under_under (single v t) d e.1, put_unified d v t es u.1)

pub unified_put : (f : ℕ → Term) (v : ℕ) (t : Term) → f v ≡ under f t → (es : Equations) → Unifies f es → Unifies f (put v t es)
unified_put f v t h [] u = tt
unified_put f v t h (e ∷ es) u =
    (absorbed_under f v t h e.0 ∙ u.0 ∙ sym (absorbed_under f v t h e.1), unified_put f v t h es u.1)

bind_extends : (x : Term × Term) (v : ℕ) (t : Term) (es : Equations) (bs s : Bindings) (d : ℕ → Term) → occurs v t ≡ false → Binds x v t
    → Extends (put v t es) (composed bs ((v, t) ∷ [])) s d → Extends (x ∷ es) bs s (then_also (single v t) d)
bind_extends x v t es bs s d a b k = record {
  after = λ w.
      k.after w ∙ ap (under d) (under-composed bs ((v, t) ∷ []) w) ∙ under_under (single v t) d (bound_to bs w);
  unifies =
      (sym (under_under (single v t) d x.0) ∙ ap (under d) (binder_closes x v t a b) ∙ under_under (single v t) d x.1, put_unified d v t es k.unifies);
  general = λ f u w.
      let h : f v ≡ under f t = binder_unified f x v t b u.0 in
      under_under d f (single v t w)
      ∙ under_same (then_also d f) f (single v t w) (λ y o. k.general f (unified_put f v t h es u.1) y)
      ∙ absorbed f v t h w;
  local = record {
    moves = λ w e.
        elim (single_cases v t w) [
          | inl c ↦ let there : occurs_there w (x ∷ es) ≡ true = ap (λ u. occurs_there u (x ∷ es)) (sym c.0) ∙ binder_there x v t es b in cc
          | inr c ↦ ap (under d) c.1 ∙ under-Var d w ∙ k.local.moves w (not_there w (put v t es) (λ o. let there = put_there x v t es b w o in cc))
        ];
    brings = λ w y o.
        let (u, i, j) = source d y (single v t w) o in
        elim (k.local.brings u y j) [
          | inl e ↦
              let at : occurs y (single v t w) ≡ true = ap (λ z. occurs z (single v t w)) e ∙ i in
              elim (single_cases v t w) [
                | inl c ↦ inr (term_there x v t es b y (ap (occurs y) (sym c.1) ∙ at))
                | inr c ↦ inl (occurs-Var_same y w (ap (occurs y) (sym c.1) ∙ at))
              ]
          | inr e ↦ inr (put_there x v t es b y e)
        ];
  };
}

module _ (n : ℕ) (s : Bindings) (below : (es : Equations) (bs : Bindings) → solve n es bs ≡ Some (Unified s) → Extended es bs s) where
  extends_by : (x : Term × Term) (es : Equations) (bs : Bindings) (m : Move) → IsMove x.0 x.1 m → going_on (solve n) (moved m es bs) ≡ Some (Unified s)
      → Extended (x ∷ es) bs s
  extends_by x es bs Skip h e =
      let (d, k) = below es bs e in (
        d,
        record {
          after = k.after;
          unifies = (ap (under d) h, k.unifies);
          general = λ f u. k.general f u.1;
          local = wider d es (x ∷ es) (λ w o. or_second (occurs w x.0 || occurs w x.1) (occurs_there w es) o) k.local;
        },
      )
  extends_by x es bs (Bind v t) h e =
      let (d, k) = below (put v t es) (composed bs ((v, t) ∷ [])) e in
      (then_also (single v t) d, bind_extends x v t es bs s d h.0 h.1 k)
  extends_by x es bs (Split ds) h e =
      let (d, k) = below (ds ++ es) bs e in
      let u : Unifies d ds × Unifies d es = unifies_append d ds es k.unifies in (
        d,
        record {
          after = k.after;
          unifies = (split_unified d x.0 x.1 ds h u.0, u.1);
          general = λ f u. k.general f (append_unifies f ds es (unified_split f x.0 x.1 ds h u.0) u.1);
          local = wider d (ds ++ es) (x ∷ es) (split_there x ds es h) k.local;
        },
      )
  extends_by x es bs Differ h e = cc
  extends_by x es bs Contain h e = cc

pub extends : (n : ℕ) (es : Equations) (bs s : Bindings) → solve n es bs ≡ Some (Unified s) → Extended es bs s
unfolding solve
extends zero es bs s e = cc
extends (suc n) [] bs s e =
    let same : bs ≡ s = cc in (
      Var,
      record {
        after = λ v. ap (λ b. bound_to b v) (sym same) ∙ sym (under_Var (bound_to bs v));
        unifies = tt;
        general = λ f u v. under-Var f v;
        local = record { moves = λ v h. refl; brings = λ v w o. inl (occurs-Var_same w v o) };
      },
    )
extends (suc n) (x ∷ es) bs s e = extends_by n s (λ es bs. extends n es bs s) x es bs (move_of x.0 x.1) (move_is x.0 x.1) e

-- where some f unifies the equations, nothing but a solution comes
abbrev IsSolution : Outcome → Type 0
IsSolution o = (s : Bindings) × (o ≡ Unified s)

module _ (n : ℕ) (o : Outcome) (f : ℕ → Term) (below : (es : Equations) (bs : Bindings) → solve n es bs ≡ Some o → Unifies f es → IsSolution o) where
  solution_by : (x : Term × Term) (es : Equations) (bs : Bindings) (m : Move) → IsMove x.0 x.1 m → going_on (solve n) (moved m es bs) ≡ Some o
      → Unifies f (x ∷ es) → IsSolution o
  solution_by x es bs Skip h e u = below es bs e u.1
  solution_by x es bs (Bind v t) h e u = below (put v t es) (composed bs ((v, t) ∷ [])) e (unified_put f v t (binder_unified f x v t h.1 u.0) es u.1)
  solution_by x es bs (Split ds) h e u = below (ds ++ es) bs e (append_unifies f ds es (unified_split f x.0 x.1 ds h u.0) u.1)
  solution_by x es bs Differ h e u = absurd (h f u.0)
  solution_by x es bs Contain h e u = absurd (h f u.0)

pub solution : (n : ℕ) (es : Equations) (bs : Bindings) (o : Outcome) → solve n es bs ≡ Some o → (f : ℕ → Term) → Unifies f es → IsSolution o
unfolding solve
solution zero es bs o e f u = cc
solution (suc n) [] bs o e f u = let same : o ≡ Unified bs = cc in (bs, same)
solution (suc n) (x ∷ es) bs o e f u = solution_by n o f (λ es bs e u. solution n es bs o e f u) x es bs (move_of x.0 x.1) (move_is x.0 x.1) e u

-- one list of equations has one outcome
same_by : (n m : ℕ) (x : Next) (o p : Outcome) → ((es : Equations) (bs : Bindings) → solve n es bs ≡ Some o → solve m es bs ≡ Some p → o ≡ p)
    → going_on (solve n) x ≡ Some o → going_on (solve m) x ≡ Some p → o ≡ p
same_by n m (Go es bs) o p h d e = h es bs d e
same_by n m (Stop q) o p h d e = cc

pub one_outcome : (n m : ℕ) (es : Equations) (bs : Bindings) (o p : Outcome) → solve n es bs ≡ Some o → solve m es bs ≡ Some p → o ≡ p
unfolding solve
one_outcome zero m es bs o p d e = cc
one_outcome (suc n) zero es bs o p d e = cc
one_outcome (suc n) (suc m) es bs o p d e = same_by n m (step es bs) o p (λ es bs. one_outcome n m es bs o p) d e
