-- States as contracts see them: a skeleton for each variable (Sato and Tamaki 1984).
use Rattle.std.specs.Prelude.{ℕ, ◌-◌, Bool, true, false, List, slice_set, Option, Some, None}
use Rattle.plai_terms.specs.declared.prop.Prop.{Prop}
use Rattle.plai_terms.specs.declared.prop.Prop.TheVariants as property
use Rattle.plai_terms.specs.declared.skeleton.Skeleton.{Skeleton, Integer}
use Rattle.plai_domain.specs.Plain.{StateView}
use Rattle.plai_depth_laws.specs.DepthK.{state_with}
use Rattle.plai_depth.specs.declared.domain.DepthK.{DepthK}
use Rattle.plai_depth.specs.declared.state.State.{State}

-- the depth at which the domain cuts
abbrev pub depth_of : DepthK → ℕ
depth_of d = d.depth

-- the arity, the number of variables and the pattern that a state is
abbrev pub state_of : State → StateView
state_of s = state_with s.arity s.variables s.skeletons.items

-- these skeletons, or none
abbrev pub where_kept : Bool → List Skeleton → Option (List Skeleton)
where_kept true skeletons = Some skeletons
where_kept false skeletons = None

-- the skeletons of arguments, one of which the property may say is an integer
abbrev pub with_property : Prop → List Skeleton → List Skeleton
with_property (property.Ground i) skeletons = skeletons
with_property (property.Var i) skeletons = skeletons
with_property (property.Nonvar i) skeletons = skeletons
with_property (property.Int i) skeletons = slice_set skeletons (i - 1) Integer
with_property (property.Indep i j) skeletons = skeletons
