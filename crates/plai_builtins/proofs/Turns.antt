-- What actions allow, one after the other.
use Rattle.std.proofs.Common.{◌≡◌, ◌⊎◌, inl, inr, ℕ, zero, suc, ◌+◌, ◌<◌, ◌≤◌, true, false, List, [], ◌∷◌, map, refl, sym, ap, subst, ◌∙◌, rules, arith}
use Rattle.std.specs.List.{AllByRecursion}
use Rattle.std.proofs.lemmas.Bool.{cases_lt}
use Rattle.plai_terms.specs.Term.{occurs}
use Rattle.plai_terms.specs.Subst.{bound_to}
use Rattle.plai_terms.specs.declared.term.Term.{Term, Var, Int, Atom, the_lemmas}
use Rattle.plai_terms.specs.Substitution.{under, then_also, occurs_in, IsBelow, AreBelow, IsLocal}
use Rattle.plai_terms.specs.Unification.{Bindings}
use Rattle.plai_terms.specs.Unifiers.{IsMostGeneral}
use Rattle.plai_terms.proofs.Terms.{induction}
use Rattle.plai_terms.proofs.Under.{under-Var, occurs-Var_same, occurs-args, or_cases, decided, under_Var, under_Var_all}
use Rattle.plai_domain.specs.declared.action.Action.{Action}
use Rattle.plai_domain.specs.Allowed.{Allows}
use Rattle.plai_builtins.specs.InTurn.{AllowedInTurn}

-- some number is above all variables of a term
abbrev HasLimit : Term → Type 0
HasLimit t = (m : ℕ) × IsBelow m t

limits : (args : List Term) → AllByRecursion HasLimit args → (m : ℕ) × AreBelow m args
limits [] h = (0, λ w o. absurd cc)
limits (a ∷ args) h =
    let (m, k) = h.0 in
    let (n, l) = limits args h.1 in (
      m + n,
      λ w o.
          elim (or_cases (occurs w a) (occurs_in w args) o) [
            | inl p ↦ let q : w < m = k w p in omega arith
            | inr p ↦ let q : w < n = l w p in omega arith
          ],
    )

limit : (t : Term) → HasLimit t
limit = induction HasLimit
    (λ v. (suc v, λ w o. let e = occurs-Var_same w v o in omega arith))
    (λ n. (0, λ w o. let no : occurs w (Int n) ≡ false = search (rules, the_lemmas) in absurd cc))
    (λ a. (0, λ w o. let no : occurs w (Atom a) ≡ false = search (rules, the_lemmas) in absurd cc))
    (λ name args h. let (m, k) = limits args h in (m, λ w o. k w (sym (occurs-args w name args) ∙ o)))

limit_below : (f : ℕ → Term) (n : ℕ) → (m : ℕ) × ((v : ℕ) → v < n → IsBelow m (f v))
limit_below f zero = (0, λ v lt. absurd (omega arith))
limit_below f (suc n) =
    let (m, k) = limit_below f n in
    let (l, j) = limit (f n) in (
      m + l,
      λ v lt w o.
          elim (cases_lt v n) [
            | inl p ↦ let q : w < m = k v p w o in omega arith
            | inr p ↦
                let same : v ≡ n = omega arith in
                let q : w < l = j w (ap (λ x. occurs w (f x)) (sym same) ∙ o) in
                omega arith
          ],
    )

-- some number is above all that a substitution brings for the variables below a number
past : (f : ℕ → Term) (n : ℕ) → (m : ℕ) × (n ≤ m) × ((v : ℕ) → v < n → IsBelow m (f v))
past f n =
    let (m, k) = limit_below f n in
    (n + m, omega arith, λ v lt w o. let q : w < m = k v lt w o in omega arith)

-- an action that allows f, alone
pub last_action : (n : ℕ) (x : Action) (ts : List Term) (f : ℕ → Term) → Allows x n ts f → AllowedInTurn n (x ∷ []) ts f
last_action n x ts f allowed =
    let (m, le, k) = past f n in
    (f, Var, m, allowed, le, k, λ v lt. refl, λ v lt. sym (under_Var (f v)))

-- an action whose substitution brings no new variables, and then others
pub first_action : (n : ℕ) (x : Action) (xs : List Action) (ts : List Term) (first others f : ℕ → Term) → Allows x n ts first
    → ((v : ℕ) → v < n → IsBelow n (first v)) → AllowedInTurn n xs (map (under first) ts) others
    → ((v : ℕ) → v < n → f v ≡ then_also first others v) → AllowedInTurn n (x ∷ xs) ts f
first_action n x xs ts first others f allowed below later same = (first, others, n, allowed, omega arith, below, later, same)

-- an action that moves nothing, and then others
pub idle_action : (n : ℕ) (x : Action) (xs : List Action) (ts : List Term) (f : ℕ → Term) → Allows x n ts Var
    → AllowedInTurn n xs ts f → AllowedInTurn n (x ∷ xs) ts f
idle_action n x xs ts f allowed later =
    first_action n x xs ts Var f f allowed (λ v lt w o. let e = occurs-Var_same w v o in omega arith)
    (subst (λ us. AllowedInTurn n xs us f) (sym (under_Var_all ts)) later)
    (λ v lt. sym (under-Var f v))

pub idle_local : (n : ℕ) (ts : List Term) → IsLocal Var n ts
idle_local n ts = record {
  moves = λ v lt out. refl;
  brings = λ v w lt i o. inl (ap (λ x. occurs_in x ts) (occurs-Var_same w v o) ∙ i);
}

-- each variable of the first terms is one of the others or numbered from n on
abbrev pub AreOf : ℕ → List Term → List Term → Type 0
AreOf n us ts = (v : ℕ) → occurs_in v us ≡ true → (occurs_in v ts ≡ true) ⊎ (n ≤ v)

not_of : (n : ℕ) (us ts : List Term) → AreOf n us ts → (v : ℕ) → v < n → occurs_in v ts ≡ false → occurs_in v us ≡ false
not_of n us ts of v lt out =
    elim (decided (occurs_in v us)) [
      | inl e ↦ elim (of v e) [ inl p ↦ cc | inr p ↦ absurd (omega arith) ]
      | inr e ↦ e
    ]

-- a unifier of terms with variables of ts, and new ones, is local to ts
pub unifier_local : (n : ℕ) (ts left right : List Term) (s : Bindings) → IsMostGeneral left right s → AreOf n left ts → AreOf n right ts
    → IsLocal (bound_to s) n ts
unifier_local n ts left right s u a b = record {
  moves = λ v lt out. u.moves v (not_of n left ts a v lt out) (not_of n right ts b v lt out);
  brings = λ v w lt i o.
      elim (u.brings v w o) [
        | inl e ↦ inl (ap (λ x. occurs_in x ts) e ∙ i)
        | inr (inl e) ↦ a w e
        | inr (inr e) ↦ b w e
      ];
}
