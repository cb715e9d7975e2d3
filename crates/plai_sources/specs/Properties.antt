-- Goals of entries and assertions and the properties of their arguments (Hermenegildo, Puebla, Bueno and Lopez-Garcia 2005).
use Rattle.std.specs.Prelude.{ℕ, ◌+◌, Bool, true, cond, not, ◌&&◌, nat_eq, position, Option, Some, None, option_map, option_and_then, List, [], ◌∷◌, length, codes}
use Rattle.std.specs.List.{list_any}
use Rattle.std.specs.Cmp.Lexicographic.{pointwise}
use Rattle.plai_terms.specs.declared.term.Term.{Term, out-Term}
use Rattle.plai_terms.specs.declared.term.Term.TheOpen.{Term-F}
use Rattle.plai_terms.specs.declared.prop.Prop.{Prop}
use Rattle.plai_terms.specs.declared.prop.Prop.TheVariants.{Ground, Var, Nonvar, Int, Indep}
use Rattle.plai_clauses.specs.Builtins.{is_definable}
use Rattle.plai_clauses.specs.ClauseOf.{two_arguments, goals_of}
use Rattle.plai_clauses.specs.declared.check.CheckKind.{CheckKind}
use Rattle.plai_clauses.specs.declared.check.CheckKind.TheVariants.{Calls, Success}
use Rattle.plai_sources.specs.Shapes.{variable_of, one_argument, each}
use Rattle.plai_sources.specs.declared.properties.Goal.{Goal}
use Rattle.plai_sources.specs.declared.properties.Call.{Call}
use Rattle.plai_sources.specs.declared.items.EntryItem.{EntryItem}
use Rattle.plai_sources.specs.declared.items.CheckItem.{CheckItem}

abbrev pub are_distinct : List ℕ → Bool
are_distinct [] = true
are_distinct (v ∷ vs) = not (list_any (λ w. nat_eq w v) vs) && are_distinct vs

-- a goal whose arguments are different variables, of a predicate that a program may define
abbrev pub open_goal : List ℕ → List ℕ → Option Goal
open_goal name variables = cond (are_distinct variables) (Some (record { name = name; variables = variables })) None

abbrev pub goal_at : List ℕ → List Term → Option Goal
goal_at name args = cond (is_definable name (length args)) (option_and_then (open_goal name) (each variable_of args)) None

abbrev pub goal_in : Term-F Term → Option Goal
goal_in (Term-F.Atom name) = goal_at name []
goal_in (Term-F.Compound name args) = goal_at name args
goal_in _ = None

abbrev pub goal_of : Term → Option Goal
goal_of t = goal_in (out-Term t)

-- the place of a variable of the goal, from 1
abbrev pub place_among : List ℕ → ℕ → Option ℕ
place_among variables v = option_map (λ i. i + 1) (position (λ w. nat_eq w v) variables)

abbrev pub place_of : List ℕ → Term → Option ℕ
place_of variables t = option_and_then (place_among variables) (variable_of t)

-- the property of that name of one argument
abbrev pub property_named : List ℕ → ℕ → Option Prop
property_named name place =
    cond (pointwise nat_eq name (codes "ground")) (Some (Ground place))
    (cond (pointwise nat_eq name (codes "var")) (Some (Var place))
    (cond (pointwise nat_eq name (codes "nonvar")) (Some (Nonvar place))
    (cond (pointwise nat_eq name (codes "int")) (Some (Int place)) None)))

-- two different arguments share no variable
abbrev pub apart : ℕ → ℕ → Option Prop
apart first second = cond (nat_eq first second) None (Some (Indep first second))

abbrev pub property_at : List ℕ → List ℕ → List Term → Option Prop
property_at variables name (x ∷ []) = option_and_then (property_named name) (place_of variables x)
property_at variables name (x ∷ y ∷ []) =
    cond (pointwise nat_eq name (codes "indep"))
    (option_and_then (λ first. option_and_then (apart first) (place_of variables y)) (place_of variables x)) None
property_at variables name _ = None

abbrev pub property_in : List ℕ → Term-F Term → Option Prop
property_in variables (Term-F.Compound name args) = property_at variables name args
property_in variables _ = None

abbrev pub property_of : List ℕ → Term → Option Prop
property_of variables t = property_in variables (out-Term t)

-- properties joined by `,`
abbrev pub properties_of : List ℕ → Term → Option (List Prop)
properties_of variables t = each (property_of variables) (goals_of t)

-- `G : Pre`, or `G` alone
abbrev pub call : Goal → List Prop → Call
call goal pre = record { goal = goal; pre = pre }

abbrev pub call_with : Term × Term → Option Call
call_with p = option_and_then (λ goal. option_map (call goal) (properties_of goal.variables p.1)) (goal_of p.0)

abbrev pub call_from : Term → Option (Term × Term) → Option Call
call_from t None = option_map (λ goal. call goal []) (goal_of t)
call_from t (Some p) = call_with p

abbrev pub call_of : Term → Option Call
call_of t = call_from t (two_arguments (codes ":") t)

-- what stands behind `entry`
abbrev pub entry : Call → EntryItem
entry c = record { name = c.goal.name; arity = length c.goal.variables; pre = c.pre }

abbrev pub entry_of : Term → Option EntryItem
entry_of t = option_map entry (call_of t)

-- what stands behind `check`: `calls G : Pre`, `success G => Post` or `success (G : Pre) => Post`
abbrev pub check : CheckKind → Call → List Prop → CheckItem
check kind c post = record { kind = kind; name = c.goal.name; arity = length c.goal.variables; pre = c.pre; post = post }

abbrev pub calls_of : Term → Option CheckItem
calls_of t = option_and_then (λ p. option_map (λ c. check Calls c []) (call_with p)) (two_arguments (codes ":") t)

abbrev pub success_with : Term × Term → Option CheckItem
success_with p = option_and_then (λ c. option_map (check Success c) (properties_of c.goal.variables p.1)) (call_of p.0)

abbrev pub success_of : Term → Option CheckItem
success_of t = option_and_then success_with (two_arguments (codes "=>") t)

abbrev pub check_from : Option Term → Option Term → Option CheckItem
check_from (Some calls) success = calls_of calls
check_from None (Some success) = success_of success
check_from None None = None

abbrev pub check_of : Term → Option CheckItem
check_of t = check_from (one_argument (codes "calls") t) (one_argument (codes "success") t)
