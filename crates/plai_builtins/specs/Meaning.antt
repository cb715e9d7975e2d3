-- What the builtin predicates mean (ISO/IEC 13211-1:1995, 8 and 9, without their errors): what each asks of its arguments, and
-- the substitution that meets it. Where one thing is to unify with another, the one named first stands on the left.
use Rattle.std.specs.Prelude.{◌≡◌, ℕ, zero, suc, ℤ, pos, Bool, true, false, not, ◌||◌, cond, nat_le, Option, Some, None, option_map, List, [], ◌∷◌, filter, length, if◌then◌else◌}
use Rattle.plai_theory.specs.Words.{given, item}
use Rattle.plai_terms.specs.Term.{is_ground, occurs}
use Rattle.plai_terms.specs.Unification.{Bindings, UnifiesTo}
use Rattle.plai_terms.specs.declared.term.Term.{Term, Var, Int, Atom, Compound, out-Term}
use Rattle.plai_terms.specs.declared.term.Term.TheOpen.{Term-F}
use Rattle.plai_terms.specs.declared.outcome.Outcome.{Outcome}
use Rattle.plai_terms.specs.declared.outcome.Outcome.TheVariants.{Unified, Clash, Occurs}
use Rattle.plai_values.specs.declared.comparison.Comparison.{Comparison}
use Rattle.plai_values.specs.declared.comparison.Comparison.TheVariants.{Eq, Ne, Lt, Le, Gt, Ge}
use Rattle.plai_values.specs.Values.{value_of, compares}
use Rattle.plai_values.specs.TermOrder.{compares_terms}
use Rattle.plai_clauses.specs.Builtins.{builtin_named}
use Rattle.plai_clauses.specs.declared.builtin.Builtin.{Builtin}
use Rattle.plai_clauses.specs.declared.builtin.Builtin.TheVariants as builtin
use Rattle.plai_builtins.specs.Lists.{list_of, list_items}
use Rattle.plai_builtins.specs.Copies.{copy_of}

-- what is asked
pub data Demand : Type 0 where
  -- what never holds
  Never : Demand
  -- a test
  Test : Bool → Demand
  -- the first terms unify with the second, in turn
  Solve : List Term → List Term → Demand
  -- the terms don't unify
  Apart : Term → Term → Demand
  -- the first term unifies with the second, and only variables of the first are bound
  SolveWithin : Term → Term → Demand

-- a test that holds binds nothing
abbrev pub tested : Bool → Option Bindings
tested b = if b then Some [] else None

-- unification gives its bindings, or fails
abbrev pub solved : Outcome → Option Bindings
solved (Unified s) = Some s
solved Clash = None
solved Occurs = None

-- where it is to fail, nothing is bound
abbrev pub refuted : Outcome → Option Bindings
refuted (Unified s) = None
refuted Clash = Some []
refuted Occurs = Some []

-- the bindings of a term's variables
abbrev pub kept_to : Term → Bindings → Bindings
kept_to t s = filter (λ p. occurs p.0 t) s

-- What is found meets the demand: a substitution, or none where none does. Terms have one outcome of unification.
abbrev pub Meets : Demand → Option Bindings → Type 0
Meets Never found = found ≡ None
Meets (Test b) found = found ≡ tested b
Meets (Solve left right) found = (o : Outcome) × UnifiesTo left right o × (found ≡ solved o)
Meets (Apart l r) found = (o : Outcome) × UnifiesTo (l ∷ []) (r ∷ []) o × (found ≡ refuted o)
Meets (SolveWithin l r) found = (o : Outcome) × UnifiesTo (l ∷ []) (r ∷ []) o × (found ≡ option_map (kept_to l) (solved o))

-- kinds of terms
abbrev pub is_variable : Term-F Term → Bool
is_variable (Term-F.Var _) = true
is_variable _ = false

abbrev pub is_integer : Term-F Term → Bool
is_integer (Term-F.Int _) = true
is_integer _ = false

abbrev pub is_atom : Term-F Term → Bool
is_atom (Term-F.Atom _) = true
is_atom _ = false

abbrev pub is_compound : Term-F Term → Bool
is_compound (Term-F.Compound _ _) = true
is_compound _ = false

-- an integer from 0 up to a greatest one
abbrev pub number_in : ℕ → Term-F Term → Option ℕ
number_in greatest (Term-F.Int (pos n)) = cond (nat_le n greatest) (Some n) None
number_in greatest _ = None

abbrev pub number_up_to : ℕ → Term → Option ℕ
number_up_to greatest t = number_in greatest (out-Term t)

-- so many new variables, numbered from a first one on
abbrev pub new_variables : ℕ → ℕ → List Term
new_variables first zero = []
new_variables first (suc k) = Var first ∷ new_variables (suc first) k

-- `functor(T,N,A)` where T is a variable: T is N, where A is 0; T is N over A new variables, where N is an atom
abbrev pub construct : ℕ → Term → Term → Term-F Term → Option ℕ → Demand
construct fresh t n (Term-F.Int _) (Some zero) = Solve (t ∷ []) (n ∷ [])
construct fresh t n (Term-F.Atom _) (Some zero) = Solve (t ∷ []) (n ∷ [])
construct fresh t n (Term-F.Atom name) (Some (suc k)) = Solve (t ∷ []) (Compound name (new_variables fresh (suc k)) ∷ [])
construct fresh t n _ _ = Never

-- `functor(T,N,A)`: N and A unify with T's name and number of arguments (8.5.1)
abbrev pub functor_at : ℕ → Term → Term → Term → Term-F Term → Demand
functor_at fresh t n a (Term-F.Var _) = construct fresh t n (out-Term n) (number_up_to 255 a)
functor_at fresh t n a (Term-F.Int _) = Solve (n ∷ a ∷ []) (t ∷ Int (pos 0) ∷ [])
functor_at fresh t n a (Term-F.Atom _) = Solve (n ∷ a ∷ []) (t ∷ Int (pos 0) ∷ [])
functor_at fresh t n a (Term-F.Compound name args) = Solve (n ∷ a ∷ []) (Atom name ∷ Int (pos (length args)) ∷ [])

-- `arg(N,T,A)`: T's N-th argument, from 1, unifies with A (8.5.2)
abbrev pub nth : List Term → Option ℕ → Option Term
nth args (Some (suc i)) = item args i
nth args _ = None

abbrev pub arg_at : Term → Term → Term-F Term → Demand
arg_at n a (Term-F.Compound name args) = given Never (λ x. Solve (x ∷ []) (a ∷ [])) (nth args (number_up_to (length args) n))
arg_at n a _ = Never

-- `T =.. L` where T is a variable: it unifies with the term that the items of L make, an atom or integer alone, or the name
-- of a compound and its arguments
abbrev pub made_by : Term → Term → Term-F Term → List Term → Demand
made_by t x (Term-F.Int n) [] = Solve (t ∷ []) (x ∷ [])
made_by t x (Term-F.Atom name) [] = Solve (t ∷ []) (x ∷ [])
made_by t x (Term-F.Atom name) (y ∷ ys) = if nat_le (length (y ∷ ys)) 255 then Solve (t ∷ []) (Compound name (y ∷ ys) ∷ []) else Never
made_by t x _ _ = Never

abbrev pub made_of : Term → List Term → Demand
made_of t [] = Never
made_of t (x ∷ xs) = made_by t x (out-Term x) xs

-- `T =.. L`: L unifies with the list of T's name and arguments (8.5.3)
abbrev pub univ_at : Term → Term → Term-F Term → Demand
univ_at t l (Term-F.Var _) = given Never (made_of t) (list_items l)
univ_at t l (Term-F.Int _) = Solve (l ∷ []) (list_of (t ∷ []) ∷ [])
univ_at t l (Term-F.Atom _) = Solve (l ∷ []) (list_of (t ∷ []) ∷ [])
univ_at t l (Term-F.Compound name args) = Solve (l ∷ []) (list_of (Atom name ∷ args) ∷ [])

-- a comparison of two values (8.7), where both are there
abbrev pub compared : Comparison → Option ℤ → Option ℤ → Bool
compared c (Some x) (Some y) = compares c x y
compared c _ _ = false

abbrev pub value_test : Comparison → Term → Term → Demand
value_test c l r = Test (compared c (value_of l) (value_of r))

-- a comparison of two terms in their standard order (8.4)
abbrev pub term_test : Comparison → Term → Term → Demand
term_test c l r = Test (compares_terms c l r)

-- what is asked of no argument, of one, of two and of three; of any other number what never holds
abbrev pub of_none : Demand → List Term → Demand
of_none d [] = d
of_none d (_ ∷ _) = Never

abbrev pub of_one : (Term → Demand) → List Term → Demand
of_one d (x ∷ []) = d x
of_one d _ = Never

abbrev pub of_two : (Term → Term → Demand) → List Term → Demand
of_two d (x ∷ y ∷ []) = d x y
of_two d _ = Never

abbrev pub of_three : (Term → Term → Term → Demand) → List Term → Demand
of_three d (x ∷ y ∷ z ∷ []) = d x y z
of_three d _ = Never

-- What a builtin asks of its arguments; new variables are numbered from `fresh` on. `fail` never holds. For `X is E` the value of
-- E unifies with X, and for `copy_term(T,C)` C unifies with a copy of T, and only variables of C are bound.
abbrev pub builtin_demand : Builtin → List Term → ℕ → Demand
builtin_demand builtin.True args fresh = of_none (Test true) args
builtin_demand builtin.Cut args fresh = of_none (Test true) args
builtin_demand builtin.NewLine args fresh = of_none (Test true) args
builtin_demand builtin.Write args fresh = of_one (λ t. Test true) args
builtin_demand builtin.Fail args fresh = of_none Never args
builtin_demand builtin.Unify args fresh = of_two (λ l r. Solve (l ∷ []) (r ∷ [])) args
builtin_demand builtin.NotUnify args fresh = of_two Apart args
builtin_demand builtin.Same args fresh = of_two (term_test Eq) args
builtin_demand builtin.NotSame args fresh = of_two (term_test Ne) args
builtin_demand builtin.TermLess args fresh = of_two (term_test Lt) args
builtin_demand builtin.TermLessOrSame args fresh = of_two (term_test Le) args
builtin_demand builtin.TermGreater args fresh = of_two (term_test Gt) args
builtin_demand builtin.TermGreaterOrSame args fresh = of_two (term_test Ge) args
builtin_demand builtin.Var args fresh = of_one (λ t. Test (is_variable (out-Term t))) args
builtin_demand builtin.Nonvar args fresh = of_one (λ t. Test (not (is_variable (out-Term t)))) args
builtin_demand builtin.Atom args fresh = of_one (λ t. Test (is_atom (out-Term t))) args
builtin_demand builtin.Atomic args fresh = of_one (λ t. Test (is_atom (out-Term t) || is_integer (out-Term t))) args
builtin_demand builtin.Ground args fresh = of_one (λ t. Test (is_ground t)) args
builtin_demand builtin.Integer args fresh = of_one (λ t. Test (is_integer (out-Term t))) args
builtin_demand builtin.Compound args fresh = of_one (λ t. Test (is_compound (out-Term t))) args
builtin_demand builtin.Is args fresh = of_two (λ x e. given Never (λ n. Solve (Int n ∷ []) (x ∷ [])) (value_of e)) args
builtin_demand builtin.ValuesEqual args fresh = of_two (value_test Eq) args
builtin_demand builtin.ValuesDiffer args fresh = of_two (value_test Ne) args
builtin_demand builtin.ValueLess args fresh = of_two (value_test Lt) args
builtin_demand builtin.ValueLessOrEqual args fresh = of_two (value_test Le) args
builtin_demand builtin.ValueGreater args fresh = of_two (value_test Gt) args
builtin_demand builtin.ValueGreaterOrEqual args fresh = of_two (value_test Ge) args
builtin_demand builtin.Functor args fresh = of_three (λ t n a. functor_at fresh t n a (out-Term t)) args
builtin_demand builtin.Arg args fresh = of_three (λ n t a. arg_at n a (out-Term t)) args
builtin_demand builtin.Univ args fresh = of_two (λ t l. univ_at t l (out-Term t)) args
builtin_demand builtin.CopyTerm args fresh = of_two (λ t c. SolveWithin c (copy_of fresh t)) args

-- what is asked where there is a builtin, and else what never holds
abbrev pub asked_by : Option Builtin → List Term → ℕ → Demand
asked_by found args fresh = given Never (λ b. builtin_demand b args fresh) found

-- what the builtin of this name and these arguments asks
abbrev pub demand_of : List ℕ → List Term → ℕ → Demand
demand_of name args fresh = asked_by (builtin_named name (length args)) args fresh

-- The meaning of a builtin: for a name, arguments and the number of the first new variable, a substitution or none.
abbrev pub Means : List ℕ → List Term → ℕ → Option Bindings → Type 0
Means name args fresh found = Meets (demand_of name args fresh) found
