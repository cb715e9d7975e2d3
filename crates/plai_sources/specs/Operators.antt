-- The directive `op` (ISO/IEC 13211-1:1995, 7.4.2.4 and 8.14.3): what it makes of a table of operators.
use Rattle.std.specs.Prelude.{ℕ, cond, nat_eq, Option, Some, None, option_and_then, List, [], ◌∷◌, codes}
use Rattle.std.specs.Cmp.Lexicographic.{pointwise}
use Rattle.plai_terms.specs.declared.term.Term.{Term}
use Rattle.plai_reader.specs.declared.operator.OpKind.{OpKind}
use Rattle.plai_reader.specs.declared.operator.OpKind.TheVariants.{Xfx, Xfy, Yfx, Fx, Fy, Xf, Yf}
use Rattle.plai_reader.specs.declared.fail.OpFail.{OpFail}
use Rattle.plai_reader.specs.Operators.{Table, refusal, with_operator}
use Rattle.plai_sources.specs.Shapes.{atom_of, number_up_to, list_items, each}

abbrev pub kind_named : List ℕ → Option OpKind
kind_named name =
    cond (pointwise nat_eq name (codes "xfx")) (Some Xfx) (cond (pointwise nat_eq name (codes "xfy")) (Some Xfy)
    (cond (pointwise nat_eq name (codes "yfx")) (Some Yfx) (cond (pointwise nat_eq name (codes "fx")) (Some Fx)
    (cond (pointwise nat_eq name (codes "fy")) (Some Fy) (cond (pointwise nat_eq name (codes "xf")) (Some Xf)
    (cond (pointwise nat_eq name (codes "yf")) (Some Yf) None))))))

abbrev pub kind_of : Term → Option OpKind
kind_of t = option_and_then kind_named (atom_of t)

abbrev pub some_names : List (List ℕ) → Option (List (List ℕ))
some_names [] = None
some_names (name ∷ names) = Some (name ∷ names)

abbrev pub names_from : Term → Option (List ℕ) → Option (List (List ℕ))
names_from t (Some name) = Some (name ∷ [])
names_from t None = option_and_then some_names (option_and_then (each atom_of) (list_items t))

-- an atom, `[]` counting as one, or the atoms of a list that isn't empty
abbrev pub names_of : Term → Option (List (List ℕ))
names_of t = names_from t (atom_of t)

-- the greatest priority of an operator
abbrev pub most_priority : ℕ
most_priority = 1200

abbrev pub unless_refused : Option OpFail → Option Table → Option Table
unless_refused (Some cause) table = None
unless_refused None table = table

-- the table with each of the names an operator, if none of them is refused
abbrev pub with_each : Table → ℕ → OpKind → List (List ℕ) → Option Table
with_each table priority kind [] = Some table
with_each table priority kind (name ∷ names) =
    unless_refused (refusal table priority kind name) (with_each (with_operator table priority kind name) priority kind names)

-- what op(Priority,Kind,Names) makes of a table
abbrev pub operators_of : Table → Term → Term → Term → Option Table
operators_of table priority kind names =
    option_and_then (λ p. option_and_then (λ k. option_and_then (with_each table p k) (names_of names)) (kind_of kind))
    (number_up_to most_priority priority)
