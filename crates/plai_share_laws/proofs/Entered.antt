-- enter, over terms.
use Rattle.std.proofs.Common.{◌≡◌, ℕ, zero, suc, ◌+◌, ◌-◌, ◌<◌, ◌≤◌, Bool, true, false, nat_lt, nat_eq, List, [], ◌∷◌, map, length, Some, refl, sym, ap}
use Rattle.std.proofs.Common.{subst, ◌∙◌, inl, inr, rules, arith}
use Rattle.std.specs.List.{list_any, AllByRecursion}
use Rattle.std.proofs.lemmas.Bool.{eq-eqb, eqb-true}
use Rattle.std.proofs.lemmas.Bool.Decides.{nat_tests}
use Rattle.plai_terms.specs.Term.{occurs}
use Rattle.plai_terms.specs.Substitution.{under}
use Rattle.plai_terms.proofs.Under.{occurs-Var, or_cases}
use Rattle.plai_terms.proofs.Terms.{induction, occurs-Compound}
use Rattle.plai_terms.specs.declared.term.Term.{Term, Var, Int, Atom, the_lemmas}
use Rattle.plai_share_laws.proofs.Members.{IsIn}
use Rattle.plai_share_laws.specs.Shares.{Shares, widen_by}
use Rattle.plai_share_laws.proofs.Meaning.{Instance, IsInstance, Describes, new_term, IsUnified, new_terms}
use Rattle.plai_share_laws.specs.Calls.{enter}
use Rattle.plai_share_laws.proofs.Masks.{by_test, not_both}
use Rattle.plai_share_laws.proofs.Lists.{by_either}
use Rattle.plai_share_laws.proofs.NewSlots.{IsLike, like_describes, news_describe, news_other}
use Rattle.plai_share_laws.proofs.Refine.{unified_describes, widened_slots}
use Rattle.plai_share_laws.specs.Sides.{variable_of, side_of}
use Rattle.plai_share_laws.proofs.Placed.{placed, change_of, HaveBelow, start_terms, AreSolved, solved}
use Rattle.plai_share_laws.proofs.TermVariables.{variable_of-Var}
use Rattle.plai_share_laws.proofs.TermMoves.{terms_wf, terms_moved, unifier_of_terms}
use Rattle.plai_share_laws.proofs.Tuples.{lower, lower_test}

-- the variables of a term are bounded
abbrev IsBounded : Term → Type 0
IsBounded t = (m : ℕ) × ((v : ℕ) → occurs v t ≡ true → v < m)

all_bounded : (args : List Term) → AllByRecursion IsBounded args → (m : ℕ) × ((v : ℕ) → list_any (λ b. b) (map (occurs v) args) ≡ true → v < m)
all_bounded [] h = (0, λ v e. cc)
all_bounded (a ∷ args) h =
    let (m, f) = h.0 in
    let (k, g) = all_bounded args h.1 in (
      m + k,
      λ v e. by_either (or_cases (occurs v a) (list_any (λ b. b) (map (occurs v) args)) e)
          (λ o. let l = f v o in omega arith) (λ o. let l = g v o in omega arith),
    )

bounded : (t : Term) → IsBounded t
bounded = induction IsBounded
    (λ u. (suc u, λ v e. let d = eqb-true v u (sym (occurs-Var v u) ∙ e) in omega arith))
    (λ n. (0, λ v e. let z : occurs v (Int n) ≡ false = search (rules, the_lemmas) in cc))
    (λ a. (0, λ v e. let z : occurs v (Atom a) ≡ false = search (rules, the_lemmas) in cc))
    (λ name args h. let (m, f) = all_bounded args h in (m, λ v e. f v (sym (occurs-Compound v name args) ∙ e)))

pub terms_bounded : (n : ℕ) (terms : ℕ → Term) → (m : ℕ) × HaveBelow n m terms
terms_bounded zero terms = (0, λ v k l o. absurd (omega arith))
terms_bounded (suc n) terms =
    let (m, f) = terms_bounded n terms in
    let (k, g) = bounded (terms n) in (
      m + k,
      λ v l b o. by_test (nat_eq l n)
          (λ t. let x = g v (subst (λ z. occurs v (terms z) ≡ true) (eqb-true l n t) o) in omega arith)
          (λ t. let x = f v l (below l b t) o in omega arith),
    )
  where
    below : (l : ℕ) → l < suc n → nat_eq l n ≡ false → l < n
    below l b t = by_test (nat_lt l n) (λ u. lower l n u) (λ u. absurd (not_both (eq-eqb l n (equal l b u)) t))
      where
        equal : (l : ℕ) → l < suc n → nat_lt l n ≡ false → l ≡ n
        equal l b u = by_test (nat_lt n l) (λ x. let y = lower n l x in omega arith) (λ x. close l u x)
          where
            close : (l : ℕ) → nat_lt l n ≡ false → nat_lt n l ≡ false → l ≡ n
            close l u x = grind (arith, nat_tests)

-- solved one after the other
chain : (base n : ℕ) (ts : List Term) (k : ℕ) (ss : List (ℕ → Term)) (terms : ℕ → Term) → k + length ts ≤ n
    → ((t : Term) → IsIn t ts → (v : ℕ) → occurs v t ≡ true → base + v < n)
    → AreSolved base k ts ss terms → IsUnified n k (map (side_of base) ts) (placed n terms) (placed n (solved ss terms))
chain base n [] k [] terms fits low h = refl
chain base n [] k (s ∷ ss) terms fits low h = absurd h
chain base n (t ∷ ts) k [] terms fits low h = absurd h
chain base n (t ∷ ts) k (s ∷ ss) terms fits low h =
    let (m, f) = terms_bounded n terms in (
      m,
      change_of s,
      placed n (λ l. under s (terms l)),
      terms_wf n terms m f,
      unifier_of_terms base n k terms t (omega arith) (low t (inl refl)) s h.0,
      terms_moved n terms s,
      chain base n ts (suc k) ss (λ l. under s (terms l)) (omega arith) (λ x i. low x (inr i)) h.1,
    )

-- the new variables
news_at : (m n y : ℕ) (i : Instance) (r : ℕ) → r < m
    → ((w : ℕ) → (new_terms n y m i).occurs w (n + r) ≡ nat_eq w (y + r)) × ((new_terms n y m i).variable (n + r) ≡ Some (y + r))
news_at zero n y i r l = absurd (omega arith)
news_at (suc m) n y i zero l =
    let (f, g) = news_other m (suc n) (suc y) (new_term n y i) (n + 0) (omega arith) in
    let e : nat_eq (n + 0) n ≡ true = eq-eqb (n + 0) n (omega arith) in
    let d : y ≡ y + 0 = omega arith in
    (λ w. f w ∙ rw e refl ∙ ap (nat_eq w) d, g ∙ rw e refl ∙ ap Some d)
news_at (suc m) n y i (suc r) l =
    let (f, g) = news_at m (suc n) (suc y) (new_term n y i) r (omega arith) in
    let e : suc n + r ≡ n + suc r = omega arith in
    let d : suc y + r ≡ y + suc r = omega arith in (
      λ w. ap ((new_terms (suc n) (suc y) m (new_term n y i)).occurs w) (sym e) ∙ f w ∙ ap (nat_eq w) d,
      ap (new_terms (suc n) (suc y) m (new_term n y i)).variable (sym e) ∙ g ∙ ap Some d,
    )

higher : (k n : ℕ) → nat_lt k n ≡ false → n ≤ k
higher k n t = grind (arith, nat_tests)

not_true : (b : Bool) → (b ≡ true → ⊥) → b ≡ false
not_true b h = by_test b (λ t. absurd (h t)) (λ f. f)

module _ (arity number m : ℕ) (goal : ℕ → Term) (size z : ℕ) (fits : size ≡ arity + m)
    (wf : IsInstance size z (new_terms arity number m (placed arity goal))) where
  abbrev started : Instance
  started = new_terms arity number m (placed arity goal)

  abbrev start : ℕ → Term
  start = start_terms arity number goal

  -- at the argument's slots, at the variables', and past them
  occurs_at : (w l : ℕ) → started.occurs w l ≡ (placed (arity + m) start).occurs w l
  occurs_at w l = by_test (nat_lt l arity)
      (λ t. let a = lower l arity t in
      (news_other m arity number (placed arity goal) l a).0 w ∙ rw (t, lower_test l (arity + m) (omega arith)) refl)
      (λ t. let a = higher l arity t in
      let up : l ≡ arity + (l - arity) = omega arith in
      by_test (nat_lt l (arity + m))
      (λ u. let b = lower l (arity + m) u in
      ap (started.occurs w) up ∙ (news_at m arity number (placed arity goal) (l - arity) (omega arith)).0 w
      ∙ sym (occurs-Var w (number + (l - arity))) ∙ rw (t, u) refl)
      (λ u. let b = higher l (arity + m) u in
      not_true (started.occurs w l) (λ o. let c = wf.within w l o in omega arith) ∙ rw u refl))

  variable_at_start : (l y : ℕ) → started.variable l ≡ Some y → (placed (arity + m) start).variable l ≡ Some y
  variable_at_start l y e =
      let c = wf.within y l (wf.itself l y e) in
      by_test (nat_lt l arity)
      (λ t. let a = lower l arity t in
      let f : (placed arity goal).variable l ≡ Some y = sym (news_other m arity number (placed arity goal) l a).1 ∙ e in
      let g : variable_of (goal l) ≡ Some y = rw t at f in
      rw (lower_test l (arity + m) (omega arith), t) g)
      (λ t. let a = higher l arity t in
      let up : l ≡ arity + (l - arity) = omega arith in
      let f = sym (news_at m arity number (placed arity goal) (l - arity) (omega arith)).1 ∙ sym (ap started.variable up) ∙ e in
      rw (lower_test l (arity + m) (omega arith), t) (variable_of-Var (number + (l - arity)) ∙ f))

  start_variable : (l y : ℕ) → (placed (arity + m) start).variable l ≡ Some y → started.variable l ≡ Some y
  start_variable l y e = by_test (nat_lt l (arity + m))
      (λ u. let b = lower l (arity + m) u in
      by_test (nat_lt l arity)
      (λ t. let a = lower l arity t in
      let g : variable_of (goal l) ≡ Some y = rw (u, t) at e in
      (news_other m arity number (placed arity goal) l a).1 ∙ rw t g)
      (λ t. let a = higher l arity t in
      let up : l ≡ arity + (l - arity) = omega arith in
      let g : variable_of (Var (number + (l - arity))) ≡ Some y = rw (u, t) at e in
      ap started.variable up ∙ (news_at m arity number (placed arity goal) (l - arity) (omega arith)).1
      ∙ sym (variable_of-Var (number + (l - arity))) ∙ g))
      (λ u. let f = rw u at e in cc)

  pub like_start : IsLike (new_terms arity number m (placed arity goal)) (placed (arity + m) (start_terms arity number goal))
  like_start = record { occurs = occurs_at; variable = variable_at_start; variable_back = start_variable }

-- let the call describe the goal's arguments, and let the equations of these with the renamed head be solved:
-- then the state describes the terms after the substitutions
pub enter_terms : (arity number m : ℕ) (goal : ℕ → Term) (head : List Term) (ss : List (ℕ → Term)) (v : Shares)
    → v.slots ≡ arity → length head ≤ arity → HaveBelow arity number goal → ((t : Term) → IsIn t head → (x : ℕ) → occurs x t ≡ true → x < m)
    → Describes v (placed arity goal) → AreSolved arity 0 head ss (start_terms arity number goal)
    → Describes (enter m (map (side_of arity) head) v) (placed (arity + m) (solved ss (start_terms arity number goal)))
enter_terms arity number m goal head ss v size few low inside d h =
    let wf = subst (λ z. IsInstance z number (placed arity goal)) (sym size) (terms_wf arity goal number low) in
    let (e, f) = news_describe m number v (placed arity goal) wf d in
    let is : new_terms v.slots number m (placed arity goal) ≡ new_terms arity number m (placed arity goal) =
    ap (λ z. new_terms z number m (placed arity goal)) size in
    let slots : (widen_by m v).slots ≡ arity + m = widened_slots m v ∙ ap (λ z. z + m) size in
    let g = subst (λ (i : Instance). Describes (widen_by m v) i) is e in
    let k = subst (λ (i : Instance). IsInstance (widen_by m v).slots (number + m) i) is f in
    unified_describes (map (side_of arity) head) 0 (widen_by m v) (placed (arity + m) (start_terms arity number goal))
    (placed (arity + m) (solved ss (start_terms arity number goal)))
    (like_describes (widen_by m v) (new_terms arity number m (placed arity goal)) (placed (arity + m) (start_terms arity number goal))
    (like_start arity number m goal (widen_by m v).slots (number + m) slots k) g)
    (subst (λ z. IsUnified z 0 (map (side_of arity) head) (placed (arity + m) (start_terms arity number goal))
    (placed (arity + m) (solved ss (start_terms arity number goal)))) (sym slots)
    (chain arity (arity + m) head 0 ss (start_terms arity number goal) (omega arith) (λ t i x o. let l = inside t i x o in omega arith) h))
