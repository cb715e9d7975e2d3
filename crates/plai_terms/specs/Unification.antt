-- Unification with the occurs check (ISO/IEC 13211-1:1995, 7.3): the equations are solved from the first.
use Rattle.std.specs.Prelude.{◌≡◌, ℕ, zero, suc, if◌then◌else◌, ◌==◌, ◌&&◌, nat_eq, Bool, List, [], ◌∷◌, ◌++◌, map, length, Option, Some, None}
use Rattle.std.specs.Cmp.Lexicographic.{pointwise}
use Rattle.std.specs.Ordering.{int_eq}
use Rattle.plai_terms.specs.Term.{occurs}
use Rattle.plai_terms.specs.Subst.{apply_of, composed}
use Rattle.plai_terms.specs.declared.term.Term.{Term, out-Term}
use Rattle.plai_terms.specs.declared.term.Term.TheOpen.{Term-F}
use Rattle.plai_terms.specs.declared.moves.Move.{Move}
use Rattle.plai_terms.specs.declared.moves.Move.TheVariants.{Skip, Bind, Split, Differ, Contain}
use Rattle.plai_terms.specs.declared.outcome.Outcome.{Outcome}
use Rattle.plai_terms.specs.declared.outcome.Outcome.TheVariants.{Unified, Clash, Occurs}

abbrev pub Equations : Type 0
Equations = List (Term × Term)

abbrev pub Bindings : Type 0
Bindings = List (ℕ × Term)

-- the equations of the first terms with the second
abbrev pub equations : List Term → List Term → Equations
equations [] ys = []
equations (x ∷ xs) [] = []
equations (x ∷ xs) (y ∷ ys) = (x, y) ∷ equations xs ys

-- a variable with another term
abbrev pub bind_of : ℕ → Term → Move
bind_of v t = if occurs v t then Contain else Bind v t

abbrev pub skip_if : Bool → Move
skip_if b = if b then Skip else Differ

-- two compounds
abbrev pub split_of : List ℕ → List Term → List ℕ → List Term → Move
split_of a xs b ys = if pointwise nat_eq a b && nat_eq (length xs) (length ys) then Split (equations xs ys) else Differ

-- What is done with one equation, by its two terms and their outermost levels: it is dropped, a variable is bound, first one on
-- the left, it gives way to the equations of the arguments, its sides can't be made equal, or a variable is to be a term that
-- contains it.
abbrev pub move_of_levels : Term → Term → Term-F Term → Term-F Term → Move
move_of_levels l r (Term-F.Var v) (Term-F.Var w) = if v == w then Skip else Bind v r
move_of_levels l r (Term-F.Var v) y = bind_of v r
move_of_levels l r x (Term-F.Var w) = bind_of w l
move_of_levels l r (Term-F.Int m) (Term-F.Int n) = skip_if (int_eq m n)
move_of_levels l r (Term-F.Atom a) (Term-F.Atom b) = skip_if (pointwise nat_eq a b)
move_of_levels l r (Term-F.Compound a xs) (Term-F.Compound b ys) = split_of a xs b ys
move_of_levels l r _ _ = Differ

-- of the equation of l with r
unfoldable pub move_of : Term → Term → Move
move_of l r = move_of_levels l r (out-Term l) (out-Term r)

-- what is left to solve with the bindings so far, or the outcome
pub data Next : Type 0 where
  Go : Equations → Bindings → Next
  Stop : Outcome → Next

-- a binding put into equations
abbrev pub put : ℕ → Term → Equations → Equations
put v t es = map (λ e. (apply_of ((v, t) ∷ []) e.0, apply_of ((v, t) ∷ []) e.1)) es

abbrev pub moved : Move → Equations → Bindings → Next
moved Skip es bs = Go es bs
moved (Bind v t) es bs = Go (put v t es) (composed bs ((v, t) ∷ []))
moved (Split ds) es bs = Go (ds ++ es) bs
moved Differ es bs = Stop Clash
moved Contain es bs = Stop Occurs

-- one step: the first equation
abbrev pub step : Equations → Bindings → Next
step [] bs = Stop (Unified bs)
step (e ∷ es) bs = moved (move_of e.0 e.1) es bs

abbrev pub going_on : (Equations → Bindings → Option Outcome) → Next → Option Outcome
going_on go (Go es bs) = go es bs
going_on go (Stop o) = Some o

-- the outcome, where at most n steps reach one
unfoldable pub solve : ℕ → Equations → Bindings → Option Outcome
solve zero es bs = None
solve (suc n) es bs = going_on (solve n) (step es bs)

-- the outcome of the equations, with bindings that were made before
abbrev pub Solves : Equations → Bindings → Outcome → Type 0
Solves es bs o = (n : ℕ) × (solve n es bs ≡ Some o)

-- the outcome of two lists of equal length
abbrev pub UnifiesTo : List Term → List Term → Outcome → Type 0
UnifiesTo left right o = Solves (equations left right) [] o
