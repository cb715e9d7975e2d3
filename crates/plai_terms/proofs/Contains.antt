-- A variable occurs where a subterm is the variable.
use Rattle.std.proofs.Common.{◌≡◌, ◌≢◌, ℕ, ℤ, Bool, true, false, ◌||◌, nat_eq, List, [], ◌∷◌, ◌++◌, map, flat_map, refl, sym, ap, ◌∙◌, rules, Bor}
use Rattle.std.specs.List.{list_any, AllByRecursion}
use Rattle.plai_terms.specs.Preorder.{arguments_of, preorder, referred}
use Rattle.plai_terms.specs.Term.{occurs, is_variable}
use Rattle.plai_terms.specs.declared.term.Term.{Term, Var, Int, Atom, Compound, out-Term, roll-Term, roll-out-Term, the_lemmas}
use Rattle.plai_terms.specs.declared.term.Term.TheOpen.{Term-F}
use Rattle.plai_terms.specs.declared.term.Term.TheVariants.{rolls-Var, rolls-Int, rolls-Atom, rolls-Compound}
use Rattle.plai_terms.proofs.Preorder.{arguments_of-Var, arguments_of-Int, arguments_of-Atom, arguments_of-Compound, preorder_is}
use Rattle.plai_terms.proofs.Terms.{induction, occurs-Compound}

pub is_variable-Var : (v w : ℕ) → is_variable v (Var w) ≡ nat_eq v w
unfolding is_variable
is_variable-Var v w = search (rules, the_lemmas)

is_variable-Int : (v : ℕ) (n : ℤ) → is_variable v (Int n) ≡ false
unfolding is_variable
is_variable-Int v n = search (rules, the_lemmas)

is_variable-Atom : (v : ℕ) (a : List ℕ) → is_variable v (Atom a) ≡ false
unfolding is_variable
is_variable-Atom v a = search (rules, the_lemmas)

is_variable-Compound : (v : ℕ) (name : List ℕ) (args : List Term) → is_variable v (Compound name args) ≡ false
unfolding is_variable
is_variable-Compound v name args = search (rules, the_lemmas)

other_in : (v : ℕ) (t : Term) (x : Term-F Term) → roll-Term x ≡ t → ((w : ℕ) → t ≢ Var w) → is_variable v t ≡ false
other_in v t (Term-F.Var w) e h = absurd (h w (sym e ∙ rolls-Var w))
other_in v t (Term-F.Int n) e h = ap (is_variable v) (sym e ∙ rolls-Int n) ∙ is_variable-Int v n
other_in v t (Term-F.Atom a) e h = ap (is_variable v) (sym e ∙ rolls-Atom a) ∙ is_variable-Atom v a
other_in v t (Term-F.Compound name args) e h = ap (is_variable v) (sym e ∙ rolls-Compound name args) ∙ is_variable-Compound v name args

-- what is no variable is not this one
pub no_variable : (v : ℕ) (t : Term) → ((w : ℕ) → t ≢ Var w) → is_variable v t ≡ false
no_variable v t = other_in v t (out-Term t) (roll-out-Term t)

or_assoc : (p q r : Bool) → ((p || q) || r) ≡ (p || (q || r))
or_assoc true q r = refl
or_assoc false q r = refl

-- one of some terms is the variable
abbrev pub met : ℕ → List Term → Bool
met v ts = list_any (λ b. b) (map (is_variable v) ts)

met-append : (v : ℕ) (ts us : List Term) → met v (ts ++ us) ≡ (met v ts || met v us)
met-append v [] us = refl
met-append v (t ∷ ts) us = ap (λ b. is_variable v t || b) (met-append v ts us) ∙ sym (or_assoc (is_variable v t) (met v ts) (met v us))

or_none : (b : Bool) → (b || false) ≡ b
or_none true = refl
or_none false = refl

module _ (v : ℕ) where
  abbrev IsMet : Term → Type 0
  IsMet t = met v (preorder t) ≡ occurs v t

  all_met : (args : List Term) → AllByRecursion IsMet args → met v (flat_map preorder args) ≡ list_any (λ b. b) (map (occurs v) args)
  all_met [] h = refl
  all_met (a ∷ args) h =
      met-append v (preorder a) (flat_map preorder args)
      ∙ ap (λ b. b || met v (flat_map preorder args)) h.0
      ∙ ap (λ b. occurs v a || b) (all_met args h.1)

  leaf : (t : Term) (b : Bool) → arguments_of t ≡ [] → is_variable v t ≡ b → occurs v t ≡ b → IsMet t
  leaf t b n i o =
      ap (met v) (preorder_is t) ∙ ap (λ ts. is_variable v t || met v (flat_map preorder ts)) n ∙ or_none (is_variable v t) ∙ i ∙ sym o

  is_met : (t : Term) → IsMet t
  is_met = induction IsMet
      (λ w. leaf (Var w) (nat_eq v w) (arguments_of-Var w) (is_variable-Var v w) (search (rules, the_lemmas)))
      (λ n. leaf (Int n) false (arguments_of-Int n) (is_variable-Int v n) (search (rules, the_lemmas)))
      (λ a. leaf (Atom a) false (arguments_of-Atom a) (is_variable-Atom v a) (search (rules, the_lemmas)))
      (λ name args h.
      ap (met v) (preorder_is (Compound name args))
      ∙ ap (λ b. b || met v (flat_map preorder (arguments_of (Compound name args)))) (is_variable-Compound v name args)
      ∙ ap (λ ts. met v (flat_map preorder ts)) (arguments_of-Compound name args)
      ∙ all_met args h
      ∙ sym (occurs-Compound v name args))

  -- of references to the subterms
  pub met_in : (nodes : List (Bor Term)) (t : Term) → referred nodes ≡ preorder t → met v (referred nodes) ≡ occurs v t
  met_in nodes t e = ap (met v) e ∙ is_met t
