-- Keys, a name and a number of arguments, that no program may define: the builtin predicates, a part of those of
-- ISO/IEC 13211-1:1995, 7.8, 8 and 9, and the control constructs, directives and database predicates that are
-- refused (7.4, 7.8, 8.9, 8.10).
use Rattle.std.specs.Prelude.{ℕ, Bool, not, ◌&&◌, ◌||◌, nat_eq, nat_lt, nat_le, if◌then◌else◌, codes, Option, Some, None, List, [], ◌∷◌}
use Rattle.std.specs.List.{list_any}
use Rattle.std.specs.Option.{is_some}
use Rattle.std.specs.Cmp.Lexicographic.{pointwise}
use Rattle.plai_clauses.specs.declared.builtin.Builtin.{Builtin}
use Rattle.plai_clauses.specs.declared.builtin.Builtin.TheVariants as builtin

-- whether a key is the one of this name and number of arguments
abbrev pub is_key : List ℕ → ℕ → List ℕ × ℕ → Bool
is_key name arity key = pointwise nat_eq key.0 name && nat_eq key.1 arity

-- the builtins by their names and numbers of arguments
unfoldable pub builtins : List (List ℕ × ℕ × Builtin)
builtins =
    (codes "true", 0, builtin.True)
    ∷ (codes "!", 0, builtin.Cut)
    ∷ (codes "nl", 0, builtin.NewLine)
    ∷ (codes "write", 1, builtin.Write)
    ∷ (codes "fail", 0, builtin.Fail)
    ∷ (codes "=", 2, builtin.Unify)
    ∷ (codes "\\=", 2, builtin.NotUnify)
    ∷ (codes "==", 2, builtin.Same)
    ∷ (codes "\\==", 2, builtin.NotSame)
    ∷ (codes "@<", 2, builtin.TermLess)
    ∷ (codes "@=<", 2, builtin.TermLessOrSame)
    ∷ (codes "@>", 2, builtin.TermGreater)
    ∷ (codes "@>=", 2, builtin.TermGreaterOrSame)
    ∷ (codes "var", 1, builtin.Var)
    ∷ (codes "nonvar", 1, builtin.Nonvar)
    ∷ (codes "atom", 1, builtin.Atom)
    ∷ (codes "atomic", 1, builtin.Atomic)
    ∷ (codes "ground", 1, builtin.Ground)
    ∷ (codes "integer", 1, builtin.Integer)
    ∷ (codes "compound", 1, builtin.Compound)
    ∷ (codes "is", 2, builtin.Is)
    ∷ (codes "=:=", 2, builtin.ValuesEqual)
    ∷ (codes "=\\=", 2, builtin.ValuesDiffer)
    ∷ (codes "<", 2, builtin.ValueLess)
    ∷ (codes "=<", 2, builtin.ValueLessOrEqual)
    ∷ (codes ">", 2, builtin.ValueGreater)
    ∷ (codes ">=", 2, builtin.ValueGreaterOrEqual)
    ∷ (codes "functor", 3, builtin.Functor)
    ∷ (codes "arg", 3, builtin.Arg)
    ∷ (codes "=..", 2, builtin.Univ)
    ∷ (codes "copy_term", 2, builtin.CopyTerm)
    ∷ []

-- the builtin of the first row with this key
abbrev pub first_of_key : List (List ℕ × ℕ × Builtin) → List ℕ → ℕ → Option Builtin
first_of_key [] name arity = None
first_of_key (row ∷ rows) name arity = if is_key name arity (row.0, row.1) then Some row.2 else first_of_key rows name arity

-- the builtin of this name and number of arguments
abbrev pub builtin_named : List ℕ → ℕ → Option Builtin
builtin_named = first_of_key builtins

-- the refused keys but `call`, which is refused with any number of arguments from 1 on
unfoldable pub refused : List (List ℕ × ℕ)
refused =
    (codes ";", 2) ∷ (codes "->", 2) ∷ (codes "\\+", 1) ∷ (codes ":", 2) ∷ (codes ":-", 1) ∷ (codes ":-", 2)
    ∷ (codes "?-", 1) ∷ (codes ",", 2) ∷ (codes "findall", 3) ∷ (codes "bagof", 3) ∷ (codes "setof", 3)
    ∷ (codes "assert", 1) ∷ (codes "asserta", 1) ∷ (codes "assertz", 1) ∷ (codes "retract", 1) ∷ (codes "abolish", 1)
    ∷ (codes "catch", 3) ∷ (codes "throw", 1) ∷ (codes "read", 1) ∷ []

-- the key is a builtin's
abbrev pub is_builtin_key : List ℕ → ℕ → Bool
is_builtin_key name arity = is_some (builtin_named name arity)

-- `call` with any number of arguments from 1 on
abbrev pub is_call : List ℕ → ℕ → Bool
is_call name arity = pointwise nat_eq name (codes "call") && nat_lt 0 arity

-- the key is refused as a head, and wherever a predicate is named
abbrev pub is_refused_key : List ℕ → ℕ → Bool
is_refused_key name arity = list_any (is_key name arity) refused || is_call name arity

-- a program may define, declare and call a predicate of this key: no builtin, not refused, at most 16 arguments
abbrev pub is_definable : List ℕ → ℕ → Bool
is_definable name arity = not (is_builtin_key name arity) && not (is_refused_key name arity) && nat_le arity 16
