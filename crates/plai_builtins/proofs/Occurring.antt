-- The variables of a term, in the order of their first appearance, are those that occur in it.
use Rattle.std.proofs.Common.{◌≡◌, ℕ, Bool, true, false, ◌||◌, not, cond, nat_eq, List, [], ◌∷◌, ◌++◌, map, filter, flat_map, refl, sym, ap, ◌∙◌, rules}
use Rattle.std.specs.List.{list_any, AllByRecursion}
use Rattle.std.proofs.lemmas.Bool.{eqb-true, eq-eqb}
use Rattle.plai_theory.proofs.Options.{by_test}
use Rattle.plai_terms.specs.Term.{occurs}
use Rattle.plai_terms.specs.Substitution.{occurs_in}
use Rattle.plai_terms.specs.declared.term.Term.{Term, Var, Compound, the_lemmas}
use Rattle.plai_terms.proofs.Terms.{induction}
use Rattle.plai_terms.proofs.Under.{occurs-Var, occurs-args}
use Rattle.plai_builtins.specs.Copies.{occurrences, each_once, variables_of}

-- the number is in the list
abbrev pub has : ℕ → List ℕ → Bool
has v us = list_any (λ u. nat_eq u v) us

-- a test of a variable's number on the one side and on the other
pub turned : (u v : ℕ) → nat_eq u v ≡ nat_eq v u
turned u v =
    by_test (nat_eq u v)
    (λ e. e ∙ sym (eq-eqb v u (sym (eqb-true u v e))))
    (λ e. by_test (nat_eq v u) (λ k. let back = eq-eqb u v (sym (eqb-true v u k)) in cc) (λ k. e ∙ sym k))

pub has-append : (v : ℕ) (us ws : List ℕ) → has v (us ++ ws) ≡ (has v us || has v ws)
has-append v [] ws = refl
has-append v (u ∷ us) ws = by_test (nat_eq u v) (λ k. rw k refl) (λ k. rw k (has-append v us ws))

module _ (v : ℕ) where
  abbrev IsThere : Term → Type 0
  IsThere t = has v (occurrences t) ≡ occurs v t

  all_there : (args : List Term) → AllByRecursion IsThere args → has v (flat_map (λ part. part) (map occurrences args)) ≡ occurs_in v args
  all_there [] h = refl
  all_there (a ∷ args) h =
      has-append v (occurrences a) (flat_map (λ part. part) (map occurrences args))
      ∙ ap (λ b. b || has v (flat_map (λ part. part) (map occurrences args))) h.0 ∙ ap (λ b. occurs v a || b) (all_there args h.1)

  single : (b : Bool) → (b || false) ≡ b
  single true = refl
  single false = refl

  there : (t : Term) → IsThere t
  there = induction IsThere
      (λ w.
      let is : occurrences (Var w) ≡ w ∷ [] = search (rules, the_lemmas) in
      ap (has v) is ∙ single (nat_eq w v) ∙ turned w v ∙ sym (occurs-Var v w))
      (λ n. search (rules, the_lemmas))
      (λ a. search (rules, the_lemmas))
      (λ name args h.
      let is : occurrences (Compound name args) ≡ flat_map (λ part. part) (map occurrences args) = search (rules, the_lemmas) in
      ap (has v) is ∙ all_there args h ∙ sym (occurs-args v name args))

-- what a filter leaves
pub has_filter-pass : (v : ℕ) (p : ℕ → Bool) (us : List ℕ) → p v ≡ true → has v (filter p us) ≡ has v us
has_filter-pass v p [] pass = refl
has_filter-pass v p (u ∷ us) pass =
    by_test (nat_eq u v)
    (λ k. let test : p u ≡ true = ap p (eqb-true u v k) ∙ pass in rw (test, k) refl)
    (λ k. rw k (left (p u) k ∙ has_filter-pass v p us pass))
  where
    left : (b : Bool) → nat_eq u v ≡ false → has v (cond b (u ∷ filter p us) (filter p us)) ≡ has v (filter p us)
    left true k = rw k refl
    left false k = refl

abbrev pub other_than : ℕ → ℕ → Bool
other_than u w = not (nat_eq w u)

-- what stands once
once_has : (v : ℕ) (us : List ℕ) → has v (each_once us) ≡ has v us
once_has v [] = refl
once_has v (u ∷ us) =
    by_test (nat_eq u v)
    (λ k. rw k refl)
    (λ k.
    let pass : other_than u v ≡ true = ap not (turned v u ∙ k) in
    rw k (has_filter-pass v (other_than u) (each_once us) pass ∙ once_has v us))

pub variables_there : (v : ℕ) (t : Term) → has v (variables_of t) ≡ occurs v t
variables_there v t = once_has v (occurrences t) ∙ there v t
