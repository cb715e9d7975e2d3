-- The variables of lists and of their items.
use Rattle.std.proofs.Common.{◌≡◌, inl, inr, ℕ, Bool, true, false, cond, Option, Some, None, List, [], ◌∷◌, map, refl, sym, ap, ◌∙◌, rules, codes}
use Rattle.std.specs.Prelude.{nat_eq, option_map}
use Rattle.std.specs.List.{AllByRecursion}
use Rattle.std.specs.Cmp.Lexicographic.{pointwise}
use Rattle.plai_terms.specs.Term.{occurs}
use Rattle.plai_terms.specs.declared.term.Term.{Term, Var, Int, Atom, Compound, the_lemmas}
use Rattle.plai_terms.specs.declared.term.Term.TheOpen.{Term-F}
use Rattle.plai_terms.specs.Substitution.{occurs_in}
use Rattle.plai_terms.proofs.Terms.{induction}
use Rattle.plai_terms.proofs.Under.{occurs-args, or_cases, or_first, or_second}
use Rattle.plai_builtins.specs.Lists.{list_of, cell_items, items_step, with_items, list_items}

-- the variables of a list are those of its items
pub list_of_there : (v : ℕ) (ts : List Term) → occurs v (list_of ts) ≡ true → occurs_in v ts ≡ true
list_of_there v [] o = let no : occurs v (Atom (codes "[]")) ≡ false = search (rules, the_lemmas) in cc
list_of_there v (t ∷ ts) o =
    elim (or_cases (occurs v t) (occurs_in v (list_of ts ∷ [])) (sym (occurs-args v (codes ".") (t ∷ list_of ts ∷ [])) ∙ o)) [
      | inl p ↦ or_first (occurs v t) (occurs_in v ts) p
      | inr p ↦
          elim (or_cases (occurs v (list_of ts)) false p) [
            | inl q ↦ or_second (occurs v t) (occurs_in v ts) (list_of_there v ts q)
            | inr q ↦ cc
          ]
    ]

pub with_items-Compound : (name : List ℕ) (args : List Term) → with_items (Compound name args) ≡ items_step (Term-F.Compound name (map with_items args))
with_items-Compound name args = search (rules, the_lemmas)

abbrev IsWhole : Term → Type 0
IsWhole t = (with_items t).0 ≡ t

all_whole : (args : List Term) → AllByRecursion IsWhole args → map (λ p. p.0) (map with_items args) ≡ args
all_whole [] h = refl
all_whole (a ∷ args) h = let p = h.0 in let q = all_whole args h.1 in cc

pub whole : (t : Term) → (with_items t).0 ≡ t
whole = induction IsWhole
    (λ v. search (rules, the_lemmas)) (λ n. search (rules, the_lemmas)) (λ a. search (rules, the_lemmas))
    (λ name args h. ap (λ p. p.0) (with_items-Compound name args) ∙ ap (Compound name) (all_whole args h))

pub list_items-Compound : (name : List ℕ) (args : List Term)
    → list_items (Compound name args) ≡ cond (pointwise nat_eq name (codes ".")) (cell_items (map with_items args)) None
list_items-Compound name args = ap (λ p. p.1) (with_items-Compound name args)

-- the variables of the items are the list's
module _ (v : ℕ) where
  abbrev ItemsThere : Term → Type 0
  ItemsThere t = (xs : List Term) → list_items t ≡ Some xs → occurs_in v xs ≡ true → occurs v t ≡ true

  tail_there : (x y : Term) (xs : List Term) (tail : Option (List Term)) → option_map (λ items. (with_items x).0 ∷ items) tail ≡ Some xs
      → ((ys : List Term) → tail ≡ Some ys → occurs_in v ys ≡ true → occurs v y ≡ true) → occurs_in v xs ≡ true → occurs_in v (x ∷ y ∷ []) ≡ true
  tail_there x y xs None e below o = absurd cc
  tail_there x y xs (Some ys) e below o =
      let is : (with_items x).0 ∷ ys ≡ xs = cc in
      let same : occurs_in v (x ∷ ys) ≡ true = ap (λ h. occurs_in v (h ∷ ys)) (sym (whole x)) ∙ ap (occurs_in v) is ∙ o in
      elim (or_cases (occurs v x) (occurs_in v ys) same) [
        | inl p ↦ or_first (occurs v x) (occurs_in v (y ∷ [])) p
        | inr p ↦ or_second (occurs v x) (occurs_in v (y ∷ [])) (or_first (occurs v y) false (below ys refl p))
      ]

  cell_there : (args xs : List Term) → AllByRecursion ItemsThere args → cell_items (map with_items args) ≡ Some xs → occurs_in v xs ≡ true
      → occurs_in v args ≡ true
  cell_there [] xs h e o = absurd cc
  cell_there (x ∷ []) xs h e o = absurd cc
  cell_there (x ∷ y ∷ []) xs h e o = tail_there x y xs (list_items y) e h.1.0 o
  cell_there (x ∷ y ∷ z ∷ args) xs h e o = absurd cc

  if_cell : (b : Bool) (o : Option (List Term)) (xs : List Term) → cond b o None ≡ Some xs → o ≡ Some xs
  if_cell true o xs e = e
  if_cell false o xs e = absurd cc

  nil_empty : (b : Bool) (xs : List Term) → cond b (Some []) None ≡ Some xs → xs ≡ []
  nil_empty true xs e = cc
  nil_empty false xs e = absurd cc

  pub items_there : (t : Term) → ItemsThere t
  items_there = induction ItemsThere
      (λ w xs e o. let no : list_items (Var w) ≡ None = search (rules, the_lemmas) in absurd cc)
      (λ n xs e o. let no : list_items (Int n) ≡ None = search (rules, the_lemmas) in absurd cc)
      (λ a xs e o.
      let is : list_items (Atom a) ≡ cond (pointwise nat_eq a (codes "[]")) (Some []) None = search (rules, the_lemmas) in
      let none = nil_empty (pointwise nat_eq a (codes "[]")) xs (sym is ∙ e) in
      let no : occurs_in v xs ≡ false = ap (occurs_in v) none in
      absurd cc)
      (λ name args h xs e o.
      occurs-args v name args
      ∙ cell_there args xs h (if_cell (pointwise nat_eq name (codes ".")) (cell_items (map with_items args)) xs (sym (list_items-Compound name args) ∙ e)) o)
