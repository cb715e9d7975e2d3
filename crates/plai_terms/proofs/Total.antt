-- Equations are solved in finitely many steps: each binding takes a variable away, each other step makes the equations smaller.
use Rattle.std.proofs.Common.{◌≡◌, inl, inr, ℕ, zero, suc, ◌+◌, ◌<◌, ◌≤◌, Bool, true, false, ◌||◌, eqb, List, [], ◌∷◌, ◌++◌, map, sum, length, Some, refl, ap}
use Rattle.std.proofs.Common.{◌∙◌, rules, arith}
use Rattle.std.proofs.lemmas.Bool.{eqb-true}
use Rattle.std.proofs.lemmas.List.Sums.{sum_by-cons}
use Rattle.plai_terms.specs.Term.{occurs}
use Rattle.plai_terms.proofs.Solutions.{size_of}
use Rattle.plai_terms.specs.Subst.{composed}
use Rattle.plai_terms.proofs.Terms.{induction}
use Rattle.plai_terms.specs.declared.term.Term.{Term, Var, Int, Atom, Compound, the_lemmas}
use Rattle.plai_terms.specs.Unification.{Equations, Bindings, equations, move_of, put, moved, going_on, solve, UnifiesTo}
use Rattle.plai_terms.proofs.Solutions.{occurs_there}
use Rattle.plai_terms.specs.declared.moves.Move.{Move}
use Rattle.plai_terms.specs.declared.moves.Move.TheVariants.{Skip, Bind, Split, Differ, Contain}
use Rattle.plai_terms.specs.declared.outcome.Outcome.{Outcome}
use Rattle.plai_terms.specs.declared.outcome.Outcome.TheVariants.{Unified, Clash, Occurs}
use Rattle.plai_terms.proofs.Under.{or_second, decided}
use Rattle.plai_terms.proofs.MoveLaws.{IsMove, IsSplit, move_is}
use Rattle.plai_terms.proofs.Solved.{put_left}
use Rattle.plai_terms.proofs.General.{split_there, put_there, binder_there}
use Rattle.plai_terms.proofs.VariableLists.{without, without_lt, without_keeps, variables_there, Covers, covers}

-- the size of equations
abbrev size_there : Equations → ℕ
size_there [] = 0
size_there (e ∷ es) = size_of e.0 + size_of e.1 + size_there es

size_of-Compound : (name : List ℕ) (args : List Term) → size_of (Compound name args) ≡ 1 + sum (map size_of args)
size_of-Compound name args = search (rules, the_lemmas)

size_pos : (t : Term) → 0 < size_of t
size_pos = induction (λ t. 0 < size_of t)
    (λ v. let e : size_of (Var v) ≡ 1 = search (rules, the_lemmas) in omega arith)
    (λ n. let e : size_of (Int n) ≡ 1 = search (rules, the_lemmas) in omega arith)
    (λ a. let e : size_of (Atom a) ≡ 1 = search (rules, the_lemmas) in omega arith)
    (λ name args h. let e : size_of (Compound name args) ≡ 1 + sum (map size_of args) = size_of-Compound name args in omega arith)

size_append : (ds es : Equations) → size_there (ds ++ es) ≡ size_there ds + size_there es
size_append [] es = omega arith
size_append (d ∷ ds) es = let h : size_there (ds ++ es) ≡ size_there ds + size_there es = size_append ds es in omega arith

size_equations : (xs ys : List Term) → size_there (equations xs ys) ≤ sum (map size_of xs) + sum (map size_of ys)
size_equations [] ys = omega arith
size_equations (x ∷ xs) [] = omega arith
size_equations (x ∷ xs) (y ∷ ys) =
    let a : sum (map size_of (x ∷ xs)) ≡ size_of x + sum (map size_of xs) = sum_by-cons (λ n. n) (size_of x) (map size_of xs) in
    let b : sum (map size_of (y ∷ ys)) ≡ size_of y + sum (map size_of ys) = sum_by-cons (λ n. n) (size_of y) (map size_of ys) in
    let h : size_there (equations xs ys) ≤ sum (map size_of xs) + sum (map size_of ys) = size_equations xs ys in
    omega arith

size_split : (l r : Term) (ds : Equations) → IsSplit l r ds → size_there ds < size_of l + size_of r
size_split l r ds s =
    let a : size_of l ≡ 1 + sum (map size_of s.xs) = ap size_of s.left ∙ size_of-Compound s.name s.xs in
    let b : size_of r ≡ 1 + sum (map size_of s.ys) = ap size_of s.right ∙ size_of-Compound s.name s.ys in
    let c : size_there ds ≡ size_there (equations s.xs s.ys) = ap size_there s.they in
    let h : size_there (equations s.xs s.ys) ≤ sum (map size_of s.xs) + sum (map size_of s.ys) = size_equations s.xs s.ys in
    omega arith

-- What a step leaves of equations, whatever the bindings.
pub data Left : Type 0 where
  More : Equations → Left
  Over : Left

abbrev pub left_by : Move → Equations → Left
left_by Skip es = More es
left_by (Bind v t) es = More (put v t es)
left_by (Split ds) es = More (ds ++ es)
left_by Differ es = Over
left_by Contain es = Over

abbrev pub left_of : Equations → Left
left_of [] = Over
left_of (e ∷ es) = left_by (move_of e.0 e.1) es

abbrev pub or_over : {A : Type 0} → A → (Equations → A) → Left → A
or_over z f (More es) = f es
or_over z f Over = z

-- n steps are enough
unfoldable pub halts : ℕ → Equations → Bool
halts zero es = false
halts (suc n) es = or_over true (halts n) (left_of es)

-- the steps that are taken, at most n
unfoldable pub takes : ℕ → Equations → ℕ
takes zero es = 0
takes (suc n) es = or_over 0 (λ rest. suc (takes n rest)) (left_of es)

abbrev Halts : Equations → Type 0
Halts es = (n : ℕ) × (halts n es ≡ true)

module _ (vs : List ℕ) (bind_case : (ws : List ℕ) → length ws < length vs → (es : Equations) → Covers ws es → Halts es) where
  halts_by : (m : ℕ) (e : Term × Term) (es : Equations) → size_there (e ∷ es) ≤ suc m → Covers vs (e ∷ es)
      → ((fs : Equations) → size_there fs ≤ m → Covers vs fs → Halts fs)
      → (move : Move) → IsMove e.0 e.1 move → (n : ℕ) × (or_over true (halts n) (left_by move es) ≡ true)
  halts_by m e es small cover below Skip h =
      let p : 0 < size_of e.0 = size_pos e.0 in
      below es (omega arith) (λ w o. cover w (or_second (occurs w e.0 || occurs w e.1) (occurs_there w es) o))
  halts_by m e es small cover below (Bind v t) h =
      bind_case (without v vs) (without_lt v vs (cover v (binder_there e v t es h.1))) (put v t es)
      (λ w o. without_keeps v w vs (kept w o) (cover w (put_there e v t es h.1 w o)))
    where
      kept : (w : ℕ) → occurs_there w (put v t es) ≡ true → eqb v w ≡ false
      kept w o =
          elim (put_left v t w es o) [
            | inl p ↦
                elim (decided (eqb v w)) [
                  | inl q ↦ let same : v ≡ w = eqb-true v w q in let there : occurs v t ≡ true = ap (λ u. occurs u t) same ∙ p in
                      let no : occurs v t ≡ false = h.0 in cc
                  | inr q ↦ q
                ]
            | inr p ↦ p.1
          ]
  halts_by m e es small cover below (Split ds) h =
      let a : size_there ds < size_of e.0 + size_of e.1 = size_split e.0 e.1 ds h in
      let b : size_there (ds ++ es) ≡ size_there ds + size_there es = size_append ds es in
      below (ds ++ es) (omega arith) (λ w o. cover w (split_there e ds es h w o))
  halts_by m e es small cover below Differ h = (0, refl)
  halts_by m e es small cover below Contain h = (0, refl)

  inner : (m : ℕ) (es : Equations) → size_there es ≤ m → Covers vs es → Halts es
  unfolding halts
  inner m [] small cover = (1, refl)
  inner zero (e ∷ es) small cover = let p : 0 < size_of e.0 = size_pos e.0 in absurd (omega arith)
  inner (suc m) (e ∷ es) small cover =
      let (n, h) = halts_by m e es small cover (λ fs. inner m fs) (move_of e.0 e.1) (move_is e.0 e.1) in
      (suc n, h)

outer : (n : ℕ) (vs : List ℕ) → length vs ≤ n → (es : Equations) → Covers vs es → Halts es
outer zero vs le es cover = inner vs (λ ws lt. absurd (omega arith)) (size_there es) es (omega arith) cover
outer (suc n) vs le es cover = inner vs (λ ws lt. outer n ws (omega arith)) (size_there es) es (omega arith) cover

pub all_halt : (es : Equations) → Halts es
all_halt es = outer (length (variables_there es)) (variables_there es) (omega arith) es (covers es)

-- the outcome is there
solved_by : (n : ℕ) (bs : Bindings) (move : Move) (es : Equations)
    → ((fs : Equations) (cs : Bindings) → halts n fs ≡ true → (o : Outcome) × (solve n fs cs ≡ Some o))
    → or_over true (halts n) (left_by move es) ≡ true → (o : Outcome) × (going_on (solve n) (moved move es bs) ≡ Some o)
solved_by n bs Skip es below h = below es bs h
solved_by n bs (Bind v t) es below h = below (put v t es) (composed bs ((v, t) ∷ [])) h
solved_by n bs (Split ds) es below h = below (ds ++ es) bs h
solved_by n bs Differ es below h = (Clash, refl)
solved_by n bs Contain es below h = (Occurs, refl)

pub solved : (n : ℕ) (es : Equations) (bs : Bindings) → halts n es ≡ true → (o : Outcome) × (solve n es bs ≡ Some o)
unfolding solve halts
solved zero es bs h = cc
solved (suc n) [] bs h = (Unified bs, refl)
solved (suc n) (e ∷ es) bs h = solved_by n bs (move_of e.0 e.1) es (solved n) h

-- Theorem: each two lists have an outcome.
pub has_outcome : (xs ys : List Term) → (o : Outcome) × UnifiesTo xs ys o
has_outcome xs ys =
    let (n, h) = all_halt (equations xs ys) in
    let (o, e) = solved n (equations xs ys) [] h in
    (o, (n, e))
