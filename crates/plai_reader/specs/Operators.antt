-- Tables of operators, the one that each text begins with, and what changes one (ISO/IEC 13211-1:1995, 6.3.4.4 and 8.14.3).
use Rattle.std.specs.Prelude.{ℕ, Bool, false, cond, ◌&&◌, ◌||◌, nat_eq, nat_lt, Option, Some, None, is_some, List, [], ◌∷◌, codes}
use Rattle.std.specs.Ordering.{nat_cmp}
use Rattle.std.specs.Cmp.Lexicographic.{pointwise, slice_cmp}
use Rattle.std.specs.FinMap.{FinMap}
use Rattle.std.specs.FinMap as finite
use Rattle.std.specs.Borrow.{Bor}
use Rattle.plai_reader.specs.declared.operator.OpKind.{OpKind}
use Rattle.plai_reader.specs.declared.operator.OpKind.TheVariants.{Xfx, Xfy, Yfx, Fx, Fy}
use Rattle.plai_reader.specs.declared.operator.Class.{Class}
use Rattle.plai_reader.specs.declared.operator.Class.TheVariants.{Prefix, Infix, Postfix}
use Rattle.plai_reader.specs.declared.operator.Definition.{Definition}
use Rattle.plai_reader.specs.declared.table.OpTable.{OpTable}
use Rattle.plai_reader.specs.declared.fail.OpFail.{OpFail}
use Rattle.plai_reader.specs.declared.fail.OpFail.TheVariants.{BadPriority, BadName, InfixAndPostfix}
use Rattle.plai_reader.specs.Kinds.{class_of}

-- a finite map from names to priorities and kinds
abbrev pub Names : Type 0
Names = FinMap (slice_cmp nat_cmp) Definition

-- a table: the operators of each class
abbrev pub Table : Type 0
Table = OpTable

abbrev pub no_operators : Table
no_operators = record { prefixes = finite.empty; infixes = finite.empty; postfixes = finite.empty }

abbrev pub of_class : Table → Class → Names
of_class t Prefix = t.prefixes
of_class t Infix = t.infixes
of_class t Postfix = t.postfixes

-- the operator of a class with that name
abbrev pub look_up : Table → Class → List ℕ → Option Definition
look_up t class name = finite.get (of_class t class) name

abbrev pub with_class : Table → Class → Names → Table
with_class t Prefix names = record { prefixes = names; infixes = t.infixes; postfixes = t.postfixes }
with_class t Infix names = record { prefixes = t.prefixes; infixes = names; postfixes = t.postfixes }
with_class t Postfix names = record { prefixes = t.prefixes; infixes = t.infixes; postfixes = names }

-- names with one more, in the place of what it had; priority 0 takes it away
abbrev pub with_name : Names → ℕ → OpKind → List ℕ → Names
with_name names priority kind name =
    cond (nat_eq priority 0) (finite.remove names name) (finite.insert names name (record { priority = priority; kind = kind }))

-- the table with that operator in the place of the one of its class and name
unfoldable pub with_operator : Table → ℕ → OpKind → List ℕ → Table
with_operator t priority kind name = with_class t (class_of kind) (with_name (of_class t (class_of kind)) priority kind name)

-- `,`, `|` and `[]` are no names for operators
abbrev pub is_reserved : List ℕ → Bool
is_reserved name = pointwise nat_eq name (codes ",") || pointwise nat_eq name (codes "|") || pointwise nat_eq name (codes "[]")

-- whether an operator of the class would make the name both infix and postfix
abbrev pub clashes : Table → Class → List ℕ → Bool
clashes t Prefix name = false
clashes t Infix name = is_some (look_up t Postfix name)
clashes t Postfix name = is_some (look_up t Infix name)

-- why an operator is refused, if it is
unfoldable pub refusal : Table → ℕ → OpKind → List ℕ → Option OpFail
refusal t priority kind name =
    cond (nat_lt 1200 priority) (Some BadPriority)
    (cond (is_reserved name) (Some BadName)
    (cond (nat_lt 0 priority && clashes t (class_of kind) name) (Some InfixAndPostfix) None))

-- a priority and a kind, and the names that have them
pub record Row : Type 0 where
  pub priority : ℕ
  pub kind : OpKind
  pub names : List (List ℕ)

abbrev pub row : ℕ → OpKind → List (List ℕ) → Row
row priority kind names = record { priority = priority; kind = kind; names = names }

abbrev pub with_names : Table → ℕ → OpKind → List (List ℕ) → Table
with_names t priority kind [] = t
with_names t priority kind (name ∷ names) = with_names (with_operator t priority kind name) priority kind names

abbrev pub with_rows : Table → List Row → Table
with_rows t [] = t
with_rows t (r ∷ rs) = with_rows (with_names t r.priority r.kind r.names) rs

abbrev pub standard_rows : List Row
standard_rows =
    row 1200 Xfx (codes ":-" ∷ codes "-->" ∷ [])
    ∷ row 1200 Fx (codes ":-" ∷ codes "?-" ∷ [])
    ∷ row 1150 Fx (codes "entry" ∷ codes "check" ∷ codes "trust" ∷ [])
    ∷ row 1140 Fx (codes "calls" ∷ codes "success" ∷ [])
    ∷ row 1100 Xfy (codes ";" ∷ [])
    ∷ row 1050 Xfy (codes "->" ∷ [])
    ∷ row 1000 Xfy (codes "," ∷ [])
    ∷ row 980 Xfx (codes ":" ∷ [])
    ∷ row 975 Xfx (codes "=>" ∷ [])
    ∷ row 900 Fy (codes "\\+" ∷ [])
    ∷ row 700 Xfx (
    codes "=" ∷ codes "\\=" ∷ codes "==" ∷ codes "\\==" ∷ codes "@<" ∷ codes "@=<" ∷ codes "@>" ∷ codes "@>=" ∷ codes "=.."
    ∷ codes "is" ∷ codes "=:=" ∷ codes "=\\=" ∷ codes "<" ∷ codes "=<" ∷ codes ">" ∷ codes ">=" ∷ []
    )
    ∷ row 500 Yfx (codes "+" ∷ codes "-" ∷ codes "/\\" ∷ codes "\\/" ∷ [])
    ∷ row 400 Yfx (codes "*" ∷ codes "/" ∷ codes "//" ∷ codes "rem" ∷ codes "mod" ∷ codes "<<" ∷ codes ">>" ∷ [])
    ∷ row 200 Xfx (codes "**" ∷ [])
    ∷ row 200 Xfy (codes "^" ∷ [])
    ∷ row 200 Fy (codes "-" ∷ codes "\\" ∷ [])
    ∷ []

-- the table that each text begins with
unfoldable pub standard : Table
standard = with_rows no_operators standard_rows

-- a table with operators added one by one
abbrev pub with_entries : Table → List (ℕ × OpKind × Bor (List ℕ)) → Table
with_entries t [] = t
with_entries t (e ∷ es) = with_entries (with_operator t e.0 e.1 e.2.now) es
