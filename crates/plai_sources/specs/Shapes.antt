-- What a term looks like: an atom, a variable, a small integer, a compound of one argument, a list (ISO/IEC 13211-1:1995, 6.3.5).
use Rattle.std.specs.Prelude.{ℕ, pos, Bool, false, cond, nat_eq, nat_le, Option, Some, None, option_map, option_and_then, List, [], ◌∷◌, map, codes}
use Rattle.std.specs.Cmp.Lexicographic.{pointwise}
use Rattle.plai_terms.specs.declared.term.Term.{Term, Var, Int, Atom, Compound, fold-Term, out-Term}
use Rattle.plai_terms.specs.declared.term.Term.TheOpen.{Term-F}

abbrev pub atom_in : Term-F Term → Option (List ℕ)
atom_in (Term-F.Atom a) = Some a
atom_in _ = None

abbrev pub atom_of : Term → Option (List ℕ)
atom_of t = atom_in (out-Term t)

abbrev pub variable_in : Term-F Term → Option ℕ
variable_in (Term-F.Var v) = Some v
variable_in _ = None

abbrev pub variable_of : Term → Option ℕ
variable_of t = variable_in (out-Term t)

-- an integer from 0 up to a greatest one
abbrev pub number_in : ℕ → Term-F Term → Option ℕ
number_in greatest (Term-F.Int (pos n)) = cond (nat_le n greatest) (Some n) None
number_in greatest _ = None

abbrev pub number_up_to : ℕ → Term → Option ℕ
number_up_to greatest t = number_in greatest (out-Term t)

-- the argument of a compound of this name with one argument
abbrev pub one : List Term → Option Term
one (x ∷ []) = Some x
one _ = None

abbrev pub one_in : List ℕ → Term-F Term → Option Term
one_in wanted (Term-F.Compound name args) = cond (pointwise nat_eq name wanted) (one args) None
one_in wanted _ = None

abbrev pub one_argument : List ℕ → Term → Option Term
one_argument wanted t = one_in wanted (out-Term t)

-- the atom `[]`
abbrev pub is_nil_in : Term-F Term → Bool
is_nil_in (Term-F.Atom a) = pointwise nat_eq a (codes "[]")
is_nil_in _ = false

abbrev pub is_nil : Term → Bool
is_nil t = is_nil_in (out-Term t)

-- One level of a list: the atom `[]` has no items, and a cell, '.'(Head,Tail), has its head before the items of its tail.
abbrev pub cell_items : List (Term × Option (List Term)) → Option (List Term)
cell_items (head ∷ tail ∷ []) = option_map (λ items. head.0 ∷ items) tail.1
cell_items _ = None

abbrev pub items_step : Term-F (Term × Option (List Term)) → Term × Option (List Term)
items_step (Term-F.Var v) = (Var v, None)
items_step (Term-F.Int n) = (Int n, None)
items_step (Term-F.Atom a) = (Atom a, cond (pointwise nat_eq a (codes "[]")) (Some []) None)
items_step (Term-F.Compound name parts) = (Compound name (map (λ p. p.0) parts), cond (pointwise nat_eq name (codes ".")) (cell_items parts) None)

abbrev pub with_items : Term → Term × Option (List Term)
with_items = fold-Term (Term × Option (List Term)) items_step

-- the items of a list that ends with `[]`
abbrev pub list_items : Term → Option (List Term)
list_items t = (with_items t).1

-- what each of some things gives, if each of them gives something
abbrev pub each : {A B : Type 0} → (A → Option B) → List A → Option (List B)
each f [] = Some []
each f (x ∷ xs) = option_and_then (λ y. option_map (λ ys. y ∷ ys) (each f xs)) (f x)
