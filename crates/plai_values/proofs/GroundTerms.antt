-- A term is ground where none of its subterms is a variable.
use Rattle.std.proofs.Common.{◌≡◌, ◌<◌, ◌+◌, ℕ, Bool, true, false, ◌&&◌, List, [], ◌∷◌, ◌++◌, map, flat_map, drop, get_or, length, Bor, refl, sym, ap, ◌∙◌}
use Rattle.std.proofs.Common.{rules}
use Rattle.std.specs.List.{list_all, AllByRecursion}
use Rattle.plai_terms.specs.Term.{is_ground}
use Rattle.plai_terms.specs.Preorder.{arguments_of, preorder, referred}
use Rattle.plai_terms.specs.declared.term.Term.{Term, Compound, the_lemmas}
use Rattle.plai_terms.proofs.Terms.{induction}
use Rattle.plai_terms.proofs.Preorder.{preorder_is, arguments_of-Compound}
use Rattle.plai_values.specs.Nodes.{is_no_variable}
use Rattle.plai_values.proofs.Subterms.{opened}

and_and : (a b c : Bool) → (a && b) && c ≡ a && (b && c)
and_and true b c = refl
and_and false b c = refl

list_all-append : (xs ys : List Term) → list_all is_no_variable (xs ++ ys) ≡ list_all is_no_variable xs && list_all is_no_variable ys
list_all-append [] ys = refl
list_all-append (x ∷ xs) ys =
    ap (λ b. is_no_variable x && b) (list_all-append xs ys)
    ∙ sym (and_and (is_no_variable x) (list_all is_no_variable xs) (list_all is_no_variable ys))

abbrev IsTested : Term → Type 0
IsTested t = list_all is_no_variable (preorder t) ≡ is_ground t

all_tested : (ts : List Term) → AllByRecursion IsTested ts → list_all is_no_variable (flat_map preorder ts) ≡ list_all (λ b. b) (map is_ground ts)
all_tested [] h = refl
all_tested (t ∷ ts) h =
    list_all-append (preorder t) (flat_map preorder ts)
    ∙ ap (λ b. b && list_all is_no_variable (flat_map preorder ts)) h.0
    ∙ ap (λ b. is_ground t && b) (all_tested ts h.1)

ground-Compound : (name : List ℕ) (args : List Term) → list_all (λ b. b) (map is_ground args) ≡ is_ground (Compound name args)
ground-Compound name args = search (rules, the_lemmas)

compound_no_variable : (name : List ℕ) (args : List Term) → is_no_variable (Compound name args) ≡ true
compound_no_variable name args = search (rules, the_lemmas)

pub ground_by_subterms : (t : Term) → IsTested t
ground_by_subterms = induction IsTested
    (λ v. search (rules, the_lemmas)) (λ n. search (rules, the_lemmas)) (λ a. search (rules, the_lemmas))
    (λ name args h.
    ap (list_all is_no_variable) (preorder_is (Compound name args))
    ∙ ap (λ b. b && list_all is_no_variable (flat_map preorder (arguments_of (Compound name args)))) (compound_no_variable name args)
    ∙ ap (λ us. list_all is_no_variable (flat_map preorder us)) (arguments_of-Compound name args)
    ∙ all_tested args h ∙ ground-Compound name args)

-- one of the subterms, by its place
module _ (xs : List (Bor Term)) (i : ℕ) (x : Bor Term) (whole b : Bool) (h : i < length xs) (a : x ≡ get_or xs i x) (e : b ≡ is_no_variable x.now)
    (w : whole ≡ list_all is_no_variable (drop i (referred xs))) where
  one_tested : whole ≡ b && list_all is_no_variable (drop (i + 1) (referred xs))
  one_tested = w ∙ ap (list_all is_no_variable) (opened xs i x h a) ∙ ap (λ t. t && list_all is_no_variable (drop (i + 1) (referred xs))) (sym e)

  pub tests_on : b ≡ true → whole ≡ list_all is_no_variable (drop (i + 1) (referred xs))
  tests_on t = one_tested ∙ ap (λ t. t && list_all is_no_variable (drop (i + 1) (referred xs))) t

  pub tests_end : b ≡ false → false ≡ whole
  tests_end t = sym (one_tested ∙ ap (λ t. t && list_all is_no_variable (drop (i + 1) (referred xs))) t)
