-- The terms that are edits: `add(M,C)`, `del(M,P/A,N)`, `drop(M,P/A)`, `entry(M,E)`, `unentry(M,N)`, `check(M,C)`,
-- `uncheck(M,N)` and `all([E,..])`, in the abstract syntax of ISO/IEC 13211-1:1995, 6.3. The forms are this project's.
use Rattle.std.specs.Prelude.{ℕ, ℤ, cond, Option, Some, None, option_map, option_and_then, List, [], ◌∷◌, codes, nat_eq}
use Rattle.std.specs.Cmp.Lexicographic.{pointwise}
use Rattle.plai_terms.specs.declared.term.Term.{Term, out-Term}
use Rattle.plai_terms.specs.declared.term.Term.TheOpen.{Term-F}
use Rattle.plai_terms.specs.declared.read_term.ReadTerm.{ReadTerm}
use Rattle.plai_domain.specs.Conditions.{most_arguments}
use Rattle.plai_clauses.specs.ClauseOf.{two_arguments}
use Rattle.plai_sources.specs.Shapes.{atom_of, number_up_to, one_argument, list_items, each}
use Rattle.plai_script.specs.declared.edit.Edit.{Edit, Add, Del, Drop, Entry, Unentry, Check, Uncheck, All}
use Rattle.plai_script.specs.OwnTerms.{own_term}

abbrev pub integer_in : Term-F Term → Option ℤ
integer_in (Term-F.Int n) = Some n
integer_in _ = None

abbrev pub integer_of : Term → Option ℤ
integer_of t = integer_in (out-Term t)

-- the name and the number of arguments of P/A, of any predicate of at most 16 arguments
abbrev pub key_from : Term × Term → Option (List ℕ × ℕ)
key_from p = option_and_then (λ name. option_map (λ arity. (name, arity)) (number_up_to most_arguments p.1)) (atom_of p.0)

abbrev pub key_of : Term → Option (List ℕ × ℕ)
key_of t = option_and_then key_from (two_arguments (codes "/") t)

-- the edits of a module and a term, of a module and a key, of a module and a number
abbrev pub of_term : (List ℕ → ReadTerm → Edit) → Term → Term → Option Edit
of_term edit m t = option_map (λ name. edit name (own_term t)) (atom_of m)

abbrev pub drop : Term → Term → Option Edit
drop m t = option_and_then (λ name. option_map (λ key. Drop name key.0 key.1) (key_of t)) (atom_of m)

abbrev pub of_number : (List ℕ → ℤ → Edit) → Term → Term → Option Edit
of_number edit m t = option_and_then (λ name. option_map (edit name) (integer_of t)) (atom_of m)

abbrev pub del : Term → Term → Term → Option Edit
del m t n = option_and_then (λ name. option_and_then (λ key. option_map (Del name key.0 key.1) (integer_of n)) (key_of t)) (atom_of m)

-- an edit of two arguments by its name, and one of three
unfoldable pub edit_of_two : List ℕ → Term → Term → Option Edit
edit_of_two name m t =
    cond (pointwise nat_eq name (codes "add")) (of_term Add m t)
    (cond (pointwise nat_eq name (codes "drop")) (drop m t)
    (cond (pointwise nat_eq name (codes "entry")) (of_term Entry m t)
    (cond (pointwise nat_eq name (codes "unentry")) (of_number Unentry m t)
    (cond (pointwise nat_eq name (codes "check")) (of_term Check m t)
    (cond (pointwise nat_eq name (codes "uncheck")) (of_number Uncheck m t) None)))))

unfoldable pub edit_of_three : List ℕ → Term → Term → Term → Option Edit
edit_of_three name m t n = cond (pointwise nat_eq name (codes "del")) (del m t n) None

-- an edit other than `all`, by its name and arguments
abbrev pub single_at : List ℕ → List Term → Option Edit
single_at name (x ∷ y ∷ []) = edit_of_two name x y
single_at name (x ∷ y ∷ z ∷ []) = edit_of_three name x y z
single_at name _ = None

abbrev pub single_in : Term-F Term → Option Edit
single_in (Term-F.Compound name args) = single_at name args
single_in _ = None

abbrev pub single_of : Term → Option Edit
single_of t = single_in (out-Term t)

-- `all` of a list of other edits, which may be empty
abbrev pub all_of : Term → Option Edit
all_of t = option_map All (option_and_then (each single_of) (list_items t))

abbrev pub edit_from : Term → Option Term → Option Edit
edit_from t (Some items) = all_of items
edit_from t None = single_of t

-- the edit that a term is
abbrev pub edit_of_term : Term → Option Edit
edit_of_term t = edit_from t (one_argument (codes "all") t)

abbrev pub edit_of : ReadTerm → Option Edit
edit_of read = edit_of_term read.term
