-- Terms under the skeletons of their variables: what is pulled out of them, and what is pushed into them (Sato and Tamaki 1984).
use Rattle.std.specs.Prelude.{ℕ, List, [], ◌∷◌, slice_index_or, slice_set, length, if◌then◌else◌, Option, Some, None}
use Rattle.std.specs.Option.{option_map, option_and_then}
use Rattle.plai_terms.specs.declared.term.Term.{Term, fold-Term}
use Rattle.plai_terms.specs.declared.term.Term.TheOpen.{Term-F}
use Rattle.plai_terms.specs.declared.skeleton.Skeleton.{Skeleton, out-Skeleton, Any, Int, Atom, Compound}
use Rattle.plai_terms.specs.declared.skeleton.Skeleton.TheOpen.{Skeleton-F}
use Rattle.plai_depth_laws.specs.Skeletons.{same_functor, meet}

-- the skeleton of a variable
abbrev pub skeleton_at : List Skeleton → ℕ → Skeleton
skeleton_at skeletons v = slice_index_or skeletons v Any

-- one level, whose arguments are skeletons already
abbrev pub pull_step : List Skeleton → Term-F Skeleton → Skeleton
pull_step skeletons (Term-F.Var v) = skeleton_at skeletons v
pull_step skeletons (Term-F.Int n) = Int n
pull_step skeletons (Term-F.Atom a) = Atom a
pull_step skeletons (Term-F.Compound name args) = Compound name args

-- the term with the skeletons put for its variables
abbrev pub pull : List Skeleton → Term → Skeleton
pull skeletons = fold-Term Skeleton (pull_step skeletons)

-- what becomes of the variables' skeletons, or none
abbrev pub Push : Type 0
Push = List Skeleton → Skeleton → Option (List Skeleton)

-- argument by argument, from the left
abbrev pub push_args : List Push → List Skeleton → List Skeleton → Option (List Skeleton)
push_args [] as' skeletons = Some skeletons
push_args (p ∷ ps) [] skeletons = Some skeletons
push_args (p ∷ ps) (a ∷ as') skeletons = option_and_then (push_args ps as') (p skeletons a)

-- into a compound: `any` changes nothing, and the same functor goes on argument by argument
abbrev pub push_compound : List ℕ → List Push → List Skeleton → Skeleton-F Skeleton → Option (List Skeleton)
push_compound name ps skeletons Skeleton-F.Any = Some skeletons
push_compound name ps skeletons (Skeleton-F.Compound other as') =
    if same_functor name (length ps) other (length as') then push_args ps as' skeletons else None
push_compound name ps skeletons _ = None

-- one level: a variable's skeleton meets what is pushed, and an integer or an atom must have a meet with it
abbrev pub push_step : Term-F Push → Push
push_step (Term-F.Var v) skeletons a = option_map (slice_set skeletons v) (meet (skeleton_at skeletons v) a)
push_step (Term-F.Int n) skeletons a = option_map (λ m. skeletons) (meet (Int n) a)
push_step (Term-F.Atom name) skeletons a = option_map (λ m. skeletons) (meet (Atom name) a)
push_step (Term-F.Compound name ps) skeletons a = push_compound name ps skeletons (out-Skeleton a)

-- the variables' skeletons, where the term lies below another skeleton, or none
abbrev pub push : Term → List Skeleton → Skeleton → Option (List Skeleton)
push = fold-Term Push push_step

-- terms in turn
abbrev pub push_all : List Term → List Skeleton → List Skeleton → Option (List Skeleton)
push_all [] as' skeletons = Some skeletons
push_all (t ∷ ts) [] skeletons = Some skeletons
push_all (t ∷ ts) (a ∷ as') skeletons = option_and_then (push_all ts as') (push t skeletons a)
