-- Each variable is below the limit where no subterm is a variable from the limit on.
use Rattle.std.proofs.Common.{◌≡◌, ◌≢◌, ℕ, ℤ, ◌<◌, ◌≤◌, Bool, true, false, ◌&&◌, nat_lt, List, [], ◌∷◌, ◌++◌, map, flat_map, drop, length, refl, sym, ap, inl}
use Rattle.std.proofs.Common.{inr, ◌∙◌, rules, arith, Bor}
use Rattle.std.proofs.lemmas.Bool.{ltb-true}
use Rattle.std.proofs.lemmas.List.{drop_all}
use Rattle.std.specs.List.{list_all, AllByRecursion}
use Rattle.plai_terms.specs.Preorder.{arguments_of, preorder, referred}
use Rattle.plai_terms.specs.Substitution.{occurs_in, IsBelow, AreBelow}
use Rattle.plai_terms.specs.Term.{has_variables_below, is_within, occurs}
use Rattle.plai_terms.specs.declared.term.Term.{Term, Var, Int, Atom, Compound, out-Term, roll-Term, roll-out-Term, the_lemmas}
use Rattle.plai_terms.specs.declared.term.Term.TheOpen.{Term-F}
use Rattle.plai_terms.specs.declared.term.Term.TheVariants.{rolls-Var, rolls-Int, rolls-Atom, rolls-Compound}
use Rattle.plai_terms.proofs.Preorder.{arguments_of-Var, arguments_of-Int, arguments_of-Atom, arguments_of-Compound, preorder_is}
use Rattle.plai_terms.proofs.Terms.{induction}
use Rattle.plai_terms.proofs.Under.{occurs-Var_same, occurs-args, or_cases}

pub is_within-Var : (n v : ℕ) → is_within n (Var v) ≡ nat_lt v n
unfolding is_within
is_within-Var n v = search (rules, the_lemmas)

is_within-Int : (n : ℕ) (z : ℤ) → is_within n (Int z) ≡ true
unfolding is_within
is_within-Int n z = search (rules, the_lemmas)

is_within-Atom : (n : ℕ) (a : List ℕ) → is_within n (Atom a) ≡ true
unfolding is_within
is_within-Atom n a = search (rules, the_lemmas)

is_within-Compound : (n : ℕ) (name : List ℕ) (args : List Term) → is_within n (Compound name args) ≡ true
unfolding is_within
is_within-Compound n name args = search (rules, the_lemmas)

other_in : (n : ℕ) (t : Term) (x : Term-F Term) → roll-Term x ≡ t → ((v : ℕ) → t ≢ Var v) → is_within n t ≡ true
other_in n t (Term-F.Var v) e h = absurd (h v (sym e ∙ rolls-Var v))
other_in n t (Term-F.Int z) e h = ap (is_within n) (sym e ∙ rolls-Int z) ∙ is_within-Int n z
other_in n t (Term-F.Atom a) e h = ap (is_within n) (sym e ∙ rolls-Atom a) ∙ is_within-Atom n a
other_in n t (Term-F.Compound name args) e h = ap (is_within n) (sym e ∙ rolls-Compound name args) ∙ is_within-Compound n name args

-- what is no variable is within
pub other_within : (n : ℕ) (t : Term) → ((v : ℕ) → t ≢ Var v) → is_within n t ≡ true
other_within n t = other_in n t (out-Term t) (roll-out-Term t)

and_assoc : (p q r : Bool) → ((p && q) && r) ≡ (p && (q && r))
and_assoc true q r = refl
and_assoc false q r = refl

both : (p q : Bool) → (p && q) ≡ true → (p ≡ true) × (q ≡ true)
both true q e = (refl, e)
both false q e = cc

and_all : (b : Bool) → (b && true) ≡ b
and_all true = refl
and_all false = refl

-- none of some terms is a variable from the limit on
abbrev pub all_within : ℕ → List Term → Bool
all_within n ts = list_all (λ b. b) (map (is_within n) ts)

all_within-append : (n : ℕ) (ts us : List Term) → all_within n (ts ++ us) ≡ (all_within n ts && all_within n us)
all_within-append n [] us = refl
all_within-append n (t ∷ ts) us = ap (λ b. is_within n t && b) (all_within-append n ts us) ∙ sym (and_assoc (is_within n t) (all_within n ts) (all_within n us))

below-Compound : (n : ℕ) (name : List ℕ) (args : List Term) → has_variables_below n (Compound name args) ≡ list_all (λ b. b) (map (has_variables_below n) args)
below-Compound n name args = search (rules, the_lemmas)

module _ (n : ℕ) where
  abbrev IsWalked : Term → Type 0
  IsWalked t = all_within n (preorder t) ≡ has_variables_below n t

  all_walked : (args : List Term) → AllByRecursion IsWalked args → all_within n (flat_map preorder args) ≡ list_all (λ b. b) (map (has_variables_below n) args)
  all_walked [] h = refl
  all_walked (a ∷ args) h =
      all_within-append n (preorder a) (flat_map preorder args)
      ∙ ap (λ b. b && all_within n (flat_map preorder args)) h.0
      ∙ ap (λ b. has_variables_below n a && b) (all_walked args h.1)

  leaf : (t : Term) (b : Bool) → arguments_of t ≡ [] → is_within n t ≡ b → has_variables_below n t ≡ b → IsWalked t
  leaf t b e i o =
      ap (all_within n) (preorder_is t) ∙ ap (λ ts. is_within n t && all_within n (flat_map preorder ts)) e ∙ and_all (is_within n t) ∙ i ∙ sym o

  is_walked : (t : Term) → IsWalked t
  is_walked = induction IsWalked
      (λ v. leaf (Var v) (nat_lt v n) (arguments_of-Var v) (is_within-Var n v) (search (rules, the_lemmas)))
      (λ z. leaf (Int z) true (arguments_of-Int z) (is_within-Int n z) (search (rules, the_lemmas)))
      (λ a. leaf (Atom a) true (arguments_of-Atom a) (is_within-Atom n a) (search (rules, the_lemmas)))
      (λ name args h.
      ap (all_within n) (preorder_is (Compound name args))
      ∙ ap (λ b. b && all_within n (flat_map preorder (arguments_of (Compound name args)))) (is_within-Compound n name args)
      ∙ ap (λ ts. all_within n (flat_map preorder ts)) (arguments_of-Compound name args)
      ∙ all_walked args h
      ∙ sym (below-Compound n name args))

  -- of references to the subterms
  pub walked_in : (nodes : List (Bor Term)) (t : Term) → referred nodes ≡ preorder t → all_within n (referred nodes) ≡ has_variables_below n t
  walked_in nodes t e = ap (all_within n) e ∙ is_walked t

  -- where no more subterms are left
  pub walked_all : (nodes : List (Bor Term)) (i : ℕ) (t : Term) → length nodes ≤ i → all_within n (referred (drop i nodes)) ≡ has_variables_below n t
      → has_variables_below n t ≡ true
  walked_all nodes i t le e = sym e ∙ ap (λ us. all_within n (referred us)) (drop_all i nodes le)

  abbrev IsLow : Term → Type 0
  IsLow t = has_variables_below n t ≡ true → IsBelow n t

  all_low : (args : List Term) → AllByRecursion IsLow args → list_all (λ b. b) (map (has_variables_below n) args) ≡ true → AreBelow n args
  all_low [] h e v o = absurd cc
  all_low (a ∷ args) h e v o =
      let t = both (has_variables_below n a) (list_all (λ b. b) (map (has_variables_below n) args)) e in
      elim (or_cases (occurs v a) (occurs_in v args) o) [ inl p ↦ h.0 t.0 v p | inr p ↦ all_low args h.1 t.1 v p ]

  pub below_is : (t : Term) → has_variables_below n t ≡ true → IsBelow n t
  below_is = induction IsLow
      (λ w e v o.
      let is : has_variables_below n (Var w) ≡ nat_lt w n = search (rules, the_lemmas) in
      let less : w < n = ltb-true w n (sym is ∙ e) in
      let same = occurs-Var_same v w o in
      omega arith)
      (λ z e v o. let no : occurs v (Int z) ≡ false = search (rules, the_lemmas) in absurd cc)
      (λ a e v o. let no : occurs v (Atom a) ≡ false = search (rules, the_lemmas) in absurd cc)
      (λ name args h e v o. all_low args h (sym (below-Compound n name args) ∙ e) v (sym (occurs-args v name args) ∙ o))
