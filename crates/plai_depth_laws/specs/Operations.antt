-- The operations of terms cut at a depth, on lists of skeletons (Sato and Tamaki 1984).
use Rattle.std.specs.Prelude.{ℕ, ◌+◌, ◌-◌, Bool, true, false, ◌&&◌, ◌||◌, not, List, [], ◌∷◌, map, replicate, slice_set, if◌then◌else◌, Option, Some, None}
use Rattle.std.specs.Option.{option_map, option_and_then}
use Rattle.std.specs.List.{list_any}
use Rattle.plai_terms.specs.declared.term.Term.{Term, out-Term}
use Rattle.plai_terms.specs.declared.term.Term.TheOpen.{Term-F}
use Rattle.plai_terms.specs.declared.prop.Prop.{Prop}
use Rattle.plai_terms.specs.declared.prop.Prop.TheVariants as property
use Rattle.plai_terms.specs.declared.skeleton.Skeleton.{Skeleton, fold-Skeleton, out-Skeleton, Any, Integer}
use Rattle.plai_terms.specs.declared.skeleton.Skeleton.TheOpen.{Skeleton-F}
use Rattle.plai_domain.specs.declared.action.Action.{Action}
use Rattle.plai_domain.specs.declared.action.Action.TheVariants as action
use Rattle.plai_domain.specs.Instances.{argument}
use Rattle.plai_depth_laws.specs.Skeletons.{cut, join_args, join, meet}
use Rattle.plai_depth_laws.specs.Moves.{skeleton_at, pull, push, push_all}

-- ---- tests of skeletons

abbrev pub is_any_layer : Skeleton-F Skeleton → Bool
is_any_layer Skeleton-F.Any = true
is_any_layer _ = false

abbrev pub is_any : Skeleton → Bool
is_any s = is_any_layer (out-Skeleton s)

abbrev pub is_integer_layer : Skeleton-F Skeleton → Bool
is_integer_layer Skeleton-F.Integer = true
is_integer_layer (Skeleton-F.Int n) = true
is_integer_layer _ = false

-- `int`, or an integer
abbrev pub is_integer : Skeleton → Bool
is_integer s = is_integer_layer (out-Skeleton s)

-- one layer, whose arguments are tested already
abbrev pub has_any_step : Skeleton-F Bool → Bool
has_any_step Skeleton-F.Any = true
has_any_step Skeleton-F.Integer = false
has_any_step (Skeleton-F.Int n) = false
has_any_step (Skeleton-F.Atom a) = false
has_any_step (Skeleton-F.Compound name found) = list_any (λ b. b) found

-- some part is `any`
abbrev pub has_any : Skeleton → Bool
has_any = fold-Skeleton Bool has_any_step

-- ---- properties

-- the skeletons of so many arguments that have these properties
abbrev pub describe_of : ℕ → List Prop → List Skeleton
describe_of n [] = replicate n Any
describe_of n (property.Ground i ∷ pre) = describe_of n pre
describe_of n (property.Var i ∷ pre) = describe_of n pre
describe_of n (property.Nonvar i ∷ pre) = describe_of n pre
describe_of n (property.Int i ∷ pre) = slice_set (describe_of n pre) (i - 1) Integer
describe_of n (property.Indep i j ∷ pre) = describe_of n pre

-- the skeleton of an argument, numbered from 1
abbrev pub argument_of : List Skeleton → ℕ → Skeleton
argument_of skeletons i = skeleton_at skeletons (i - 1)

abbrev pub entails_of : List Skeleton → Prop → Bool
entails_of ss (property.Ground i) = not (has_any (argument_of ss i))
entails_of ss (property.Var i) = false
entails_of ss (property.Nonvar i) = not (is_any (argument_of ss i))
entails_of ss (property.Int i) = is_integer (argument_of ss i)
entails_of ss (property.Indep i j) = not (has_any (argument_of ss i)) || not (has_any (argument_of ss j))

abbrev pub excludes_of : List Skeleton → Prop → Bool
excludes_of ss (property.Ground i) = false
excludes_of ss (property.Var i) = not (is_any (argument_of ss i))
excludes_of ss (property.Nonvar i) = false
excludes_of ss (property.Int i) = not (is_any (argument_of ss i)) && not (is_integer (argument_of ss i))
excludes_of ss (property.Indep i j) = false

-- ---- operations

-- the cut pulls of some terms
abbrev pub pulled : ℕ → List Term → List Skeleton → List Skeleton
pulled k terms skeletons = map (cut k) (map (pull skeletons) terms)

-- argument by argument
abbrev pub join_of : List Skeleton → List Skeleton → List Skeleton
join_of ss ts = join_args (map join ss) ts

-- the variables of a clause whose head has these arguments are `any`, and the call is pushed into the head
abbrev pub enter_of : List Term → ℕ → List Skeleton → Option (List Skeleton)
enter_of head variables call = push_all head call (replicate variables Any)

-- the meet of two terms' pulls is pushed into the first and then into the second, and every variable is cut
abbrev pub unify_of : ℕ → Term → Term → List Skeleton → Option (List Skeleton)
unify_of k t u skeletons =
    option_and_then (λ m. option_map (map (cut k)) (push_all (t ∷ u ∷ []) (m ∷ m ∷ []) skeletons)) (meet (pull skeletons t) (pull skeletons u))

abbrev pub is_variable_layer : Term-F Term → Bool
is_variable_layer (Term-F.Var v) = true
is_variable_layer _ = false

-- the skeletons, where the term is a variable whose skeleton is `any`
abbrev pub if_free : Term → List Skeleton → Option (List Skeleton)
if_free t skeletons = if is_variable_layer (out-Term t) && is_any (pull skeletons t) then Some skeletons else None

-- what an action leaves at a literal with these arguments, or none
abbrev pub refine_of : ℕ → List Term → Action → List Skeleton → Option (List Skeleton)
refine_of k args action.Fail ss = None
refine_of k args (action.Unify i j) ss = unify_of k (argument args i) (argument args j) ss
refine_of k args (action.Same i j) ss = unify_of k (argument args i) (argument args j) ss
refine_of k args (action.Ground i) ss = Some ss
refine_of k args (action.BindInt i) ss = push (argument args i) ss Integer
refine_of k args (action.Var i) ss = if_free (argument args i) ss
refine_of k args (action.Nonvar i) ss = Some ss
refine_of k args (action.Havoc slots) ss = Some ss

-- ---- rank

abbrev pub total : List ℕ → ℕ
total [] = 0
total (n ∷ ns) = n + total ns

-- one layer, whose arguments have their ranks already
abbrev pub rank_step : Skeleton-F ℕ → ℕ
rank_step Skeleton-F.Any = 0
rank_step Skeleton-F.Integer = 1
rank_step (Skeleton-F.Int n) = 2
rank_step (Skeleton-F.Atom a) = 2
rank_step (Skeleton-F.Compound name ranks) = 1 + total ranks

-- it gets smaller with each strict growth
abbrev pub rank : Skeleton → ℕ
rank = fold-Skeleton ℕ rank_step

abbrev pub rank_of : List Skeleton → ℕ
rank_of skeletons = total (map rank skeletons)
