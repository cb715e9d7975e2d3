-- The values of terms, level by level.
use Rattle.std.proofs.Common.{◌≡◌, ℕ, ℤ, List, [], ◌++◌, map, reverse, length, ◌<◌, ◌-◌, get_or, Bor, Option, Some, None, rules, sym, ap, ◌∙◌, subst}
use Rattle.std.proofs.Common.{FitsSigned}
use Rattle.std.specs.Int.{w128}
use Rattle.std.specs.Option.{option_flatten}
use Rattle.std.proofs.lemmas.Int.{to_z-of_z}
use Rattle.std.proofs.lemmas.List.{length-map}
use Rattle.plai_terms.specs.Preorder.{arguments_of, referred}
use Rattle.plai_terms.specs.declared.term.Term.{Term, Var, Int, Atom, Compound, the_lemmas}
use Rattle.plai_terms.proofs.Preorder.{IsBack, arguments_of-Var, arguments_of-Atom, arguments_of-Int, arguments_of-Compound, back_ends}
use Rattle.plai_values.specs.Values.{functor_value, value_of}
use Rattle.plai_values.proofs.Ranges.{read}
use Rattle.plai_values.proofs.Stacks.{on_top}

value_of-Int : (n : ℤ) → value_of (Int n) ≡ Some n
value_of-Int n = search (rules, the_lemmas)

value_of-Compound : (name : List ℕ) (args : List Term) → value_of (Compound name args) ≡ functor_value name (map value_of args)
value_of-Compound name args = search (rules, the_lemmas)

value_of-Var : (v : ℕ) → value_of (Var v) ≡ None
value_of-Var v = search (rules, the_lemmas)

value_of-Atom : (a : List ℕ) → value_of (Atom a) ≡ None
value_of-Atom a = search (rules, the_lemmas)

pub at_variable : (t : Term) (v : ℕ) (stack others : List (Option ℤ)) → t ≡ Var v
    → reverse stack ≡ map value_of (arguments_of t) ++ others → (None ≡ value_of t) × (reverse stack ≡ others)
at_variable t v stack others e h =
    (sym (ap value_of e ∙ value_of-Var v), h ∙ ap (λ us. map value_of us ++ others) (ap arguments_of e ∙ arguments_of-Var v))

pub at_atom : (t : Term) (a : List ℕ) (stack others : List (Option ℤ)) → t ≡ Atom a
    → reverse stack ≡ map value_of (arguments_of t) ++ others → (None ≡ value_of t) × (reverse stack ≡ others)
at_atom t a stack others e h =
    (sym (ap value_of e ∙ value_of-Atom a), h ∙ ap (λ us. map value_of us ++ others) (ap arguments_of e ∙ arguments_of-Atom a))

pub at_integer : (t : Term) (n : ℤ) (stack others : List (Option ℤ)) → t ≡ Int n → FitsSigned w128 n
    → reverse stack ≡ map value_of (arguments_of t) ++ others → (Some (read n) ≡ value_of t) × (reverse stack ≡ others)
at_integer t n stack others e f h = (
  ap Some (to_z-of_z w128 n f) ∙ sym (ap value_of e ∙ value_of-Int n),
  h ∙ ap (λ us. map value_of us ++ others) (ap arguments_of e ∙ arguments_of-Int n),
)

-- what a call that takes the arguments' values ensures, at a compound
pub at_compound : (t : Term) (name : List ℕ) (args : List Term) (words : List ℕ) (items : List Term) (stack left others : List (Option ℤ)) (r : Option ℤ)
    → t ≡ Compound name args → words ≡ name → items ≡ args
    → ((taken others : List (Option ℤ)) → length taken ≡ length items → reverse stack ≡ taken ++ others
    → (r ≡ functor_value words taken) × (reverse left ≡ others))
    → reverse stack ≡ map value_of (arguments_of t) ++ others → (r ≡ value_of t) × (reverse left ≡ others)
at_compound t name args words items stack left others r e w i f h =
    let given : reverse stack ≡ map value_of args ++ others = h ∙ ap (λ us. map value_of us ++ others) (ap arguments_of e ∙ arguments_of-Compound name args) in
    let taken = f (map value_of args) others (length-map args value_of ∙ ap length (sym i)) given in
    (taken.0 ∙ ap (λ n. functor_value n (map value_of args)) w ∙ sym (ap value_of e ∙ value_of-Compound name args), taken.1)

pub at_end : (t : Term) (nodes : List (Bor Term)) (stack : List (Option ℤ)) (n : ℕ) (top : Option (Option ℤ)) (r : Option ℤ)
    → IsBack value_of t (referred nodes) (reverse stack) → nodes ≡ [] → n ≡ length stack
    → ((d : Option ℤ) → 0 < n → top ≡ Some (get_or stack (n - 1) d)) → r ≡ option_flatten top → r ≡ value_of t
at_end t nodes stack n top r b none k h e =
    e ∙ ap option_flatten (on_top stack n top (value_of t) k
    (back_ends value_of t (reverse stack) (subst (λ ns. IsBack value_of t (referred ns) (reverse stack)) none b)) h)
