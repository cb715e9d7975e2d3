-- The variables of equations, as a list that has each one that occurs, and such lists without one of them.
use Rattle.std.proofs.Common.{◌≡◌, ◌⊎◌, inl, inr, ℕ, suc, ◌<◌, ◌≤◌, Bool, true, false, ◌||◌, cond, eqb, List, [], ◌∷◌, ◌++◌, map, length, sym, ap, ◌∙◌, rules}
use Rattle.std.proofs.Common.{arith}
use Rattle.std.specs.List.{AllByRecursion}
use Rattle.std.proofs.lemmas.Bool.{eqb-true, eqb-false, eq-eqb}
use Rattle.plai_terms.specs.Term.{occurs}
use Rattle.plai_terms.proofs.Terms.{induction}
use Rattle.plai_terms.specs.declared.term.Term.{Term, fold-Term, Var, Int, Atom, Compound, the_lemmas}
use Rattle.plai_terms.specs.declared.term.Term.TheOpen.{Term-F}
use Rattle.plai_terms.specs.Substitution.{occurs_in}
use Rattle.plai_terms.specs.Unification.{Equations}
use Rattle.plai_terms.proofs.Solutions.{occurs_there}
use Rattle.plai_terms.proofs.Under.{occurs-Var_same, occurs-args, or_cases, or_first, or_second, decided}

-- lists of variables
abbrev pub listed : ℕ → List ℕ → Bool
listed v [] = false
listed v (w ∷ ws) = eqb v w || listed v ws

abbrev pub without : ℕ → List ℕ → List ℕ
without v [] = []
without v (w ∷ ws) = cond (eqb v w) (without v ws) (w ∷ without v ws)

without_le : (v : ℕ) (ws : List ℕ) → length (without v ws) ≤ length ws
without_le v [] = omega arith
without_le v (w ∷ ws) =
    let h : length (without v ws) ≤ length ws = without_le v ws in
    elim (decided (eqb v w)) [
      | inl e ↦ let s : length (without v (w ∷ ws)) ≡ length (without v ws) = ap (λ b. length (cond b (without v ws) (w ∷ without v ws))) e in omega arith
      | inr e ↦ let s : length (without v (w ∷ ws)) ≡ suc (length (without v ws)) = ap (λ b. length (cond b (without v ws) (w ∷ without v ws))) e in omega arith
    ]

pub without_lt : (v : ℕ) (ws : List ℕ) → listed v ws ≡ true → length (without v ws) < length ws
without_lt v [] h = cc
without_lt v (w ∷ ws) h =
    elim (decided (eqb v w)) [
      | inl e ↦
          let s : length (without v (w ∷ ws)) ≡ length (without v ws) = ap (λ b. length (cond b (without v ws) (w ∷ without v ws))) e in
          let k : length (without v ws) ≤ length ws = without_le v ws in
          omega arith
      | inr e ↦
          let s : length (without v (w ∷ ws)) ≡ suc (length (without v ws)) = ap (λ b. length (cond b (without v ws) (w ∷ without v ws))) e in
          let there : listed v ws ≡ true = ap (λ b. b || listed v ws) (sym e) ∙ h in
          let k : length (without v ws) < length ws = without_lt v ws there in
          omega arith
    ]

pub without_keeps : (v w : ℕ) (ws : List ℕ) → eqb v w ≡ false → listed w ws ≡ true → listed w (without v ws) ≡ true
without_keeps v w [] e h = cc
without_keeps v w (u ∷ ws) e h =
    elim (decided (eqb v u)) [
      | inl f ↦
          let s : listed w (without v (u ∷ ws)) ≡ listed w (without v ws) = ap (λ b. listed w (cond b (without v ws) (u ∷ without v ws))) f in
          elim (or_cases (eqb w u) (listed w ws) h) [
            | inl k ↦
                let a : v ≡ u = eqb-true v u f in
                let b : w ≡ u = eqb-true w u k in
                absurd (eqb-false v w e (a ∙ sym b))
            | inr k ↦ s ∙ without_keeps v w ws e k
          ]
      | inr f ↦
          let s : listed w (without v (u ∷ ws)) ≡ (eqb w u || listed w (without v ws)) = ap (λ b. listed w (cond b (without v ws) (u ∷ without v ws))) f in
          elim (or_cases (eqb w u) (listed w ws) h) [
            | inl k ↦ s ∙ or_first (eqb w u) (listed w (without v ws)) k
            | inr k ↦ s ∙ or_second (eqb w u) (listed w (without v ws)) (without_keeps v w ws e k)
          ]
    ]

listed_append : (v : ℕ) (xs ys : List ℕ) → (listed v xs ≡ true) ⊎ (listed v ys ≡ true) → listed v (xs ++ ys) ≡ true
listed_append v [] ys (inl h) = cc
listed_append v [] ys (inr h) = h
listed_append v (x ∷ xs) ys (inl h) =
    elim (or_cases (eqb v x) (listed v xs) h) [
      | inl k ↦ or_first (eqb v x) (listed v (xs ++ ys)) k
      | inr k ↦ or_second (eqb v x) (listed v (xs ++ ys)) (listed_append v xs ys (inl k))
    ]
listed_append v (x ∷ xs) ys (inr h) = or_second (eqb v x) (listed v (xs ++ ys)) (listed_append v xs ys (inr h))

-- the variables of a term, with repeats
abbrev all_of : List (List ℕ) → List ℕ
all_of [] = []
all_of (xs ∷ xss) = xs ++ all_of xss

abbrev variables_step : Term-F (List ℕ) → List ℕ
variables_step (Term-F.Var v) = v ∷ []
variables_step (Term-F.Int n) = []
variables_step (Term-F.Atom a) = []
variables_step (Term-F.Compound name lists) = all_of lists

abbrev variables_of : Term → List ℕ
variables_of = fold-Term (List ℕ) variables_step

variables_of-Var : (v : ℕ) → variables_of (Var v) ≡ v ∷ []
variables_of-Var v = search (rules, the_lemmas)

variables_of-Compound : (name : List ℕ) (args : List Term) → variables_of (Compound name args) ≡ all_of (map variables_of args)
variables_of-Compound name args = search (rules, the_lemmas)

abbrev IsListed : Term → Type 0
IsListed t = (v : ℕ) → occurs v t ≡ true → listed v (variables_of t) ≡ true

all_listed : (args : List Term) → AllByRecursion IsListed args → (v : ℕ) → occurs_in v args ≡ true → listed v (all_of (map variables_of args)) ≡ true
all_listed [] h v o = cc
all_listed (a ∷ args) h v o =
    elim (or_cases (occurs v a) (occurs_in v args) o) [
      | inl p ↦ listed_append v (variables_of a) (all_of (map variables_of args)) (inl (h.0 v p))
      | inr p ↦ listed_append v (variables_of a) (all_of (map variables_of args)) (inr (all_listed args h.1 v p))
    ]

is_listed : (t : Term) → IsListed t
is_listed = induction IsListed
    (λ u v o. ap (listed v) (variables_of-Var u) ∙ or_first (eqb v u) false (eq-eqb v u (occurs-Var_same v u o)))
    (λ n v o. let no : occurs v (Int n) ≡ false = search (rules, the_lemmas) in cc)
    (λ a v o. let no : occurs v (Atom a) ≡ false = search (rules, the_lemmas) in cc)
    (λ name args h v o. ap (listed v) (variables_of-Compound name args) ∙ all_listed args h v (sym (occurs-args v name args) ∙ o))

abbrev pub variables_there : Equations → List ℕ
variables_there [] = []
variables_there (e ∷ es) = (variables_of e.0 ++ variables_of e.1) ++ variables_there es

abbrev pub Covers : List ℕ → Equations → Type 0
Covers vs es = (w : ℕ) → occurs_there w es ≡ true → listed w vs ≡ true

pub covers : (es : Equations) → Covers (variables_there es) es
covers [] w o = cc
covers (e ∷ es) w o =
    listed_append w (variables_of e.0 ++ variables_of e.1) (variables_there es)
    (elim (or_cases (occurs w e.0 || occurs w e.1) (occurs_there w es) o) [
      | inl p ↦
          inl
          (listed_append w (variables_of e.0) (variables_of e.1)
          (elim (or_cases (occurs w e.0) (occurs w e.1) p) [ inl q ↦ inl (is_listed e.0 w q) | inr q ↦ inr (is_listed e.1 w q) ]))
      | inr p ↦ inr (covers es w p)
    ])
