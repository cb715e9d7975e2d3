-- Terms cut at a depth as an abstract domain: a skeleton for each argument (Sato and Tamaki 1984).
use Rattle.std.specs.Prelude.{◌≡◌, ℕ, List, [], map, length, Option, Some, None}
use Rattle.plai_terms.specs.declared.term.Term.{Term}
use Rattle.plai_terms.specs.declared.abs.Abs.{Abs}
use Rattle.plai_terms.specs.declared.abs.Abs.TheVariants.{Nothing, Pos, Groups, Terms}
use Rattle.plai_terms.specs.declared.skeleton.Skeleton.{Skeleton}
use Rattle.plai_domain.specs.Plain.{StateView, PlainDomain, forms_none}
use Rattle.plai_depth_laws.specs.Skeletons.{cut}
use Rattle.plai_depth_laws.specs.Order.{AreUnder}
use Rattle.plai_depth_laws.specs.Moves.{push_all}
use Rattle.plai_depth_laws.specs.Described.{AllDescribedBy}
use Rattle.plai_depth_laws.specs.Operations.{describe_of, entails_of, excludes_of, pulled, join_of, enter_of, refine_of, rank_of}

-- the skeletons of a pattern
abbrev pub skeletons_of : Abs → List Skeleton
skeletons_of Nothing = []
skeletons_of (Pos n masks) = []
skeletons_of (Groups n groups free) = []
skeletons_of (Terms skeletons) = skeletons

-- so many skeletons, each cut at the depth
pub record AreCut (k n : ℕ) (ss : List Skeleton) : Type 0 where
  pub count : length ss ≡ n
  pub cut : map (cut k) ss ≡ ss

-- both are so many cut skeletons, and each of the first lies at or below its fellow
pub record LeqCut (k n : ℕ) (ss ts : List Skeleton) : Type 0 where
  pub first : AreCut k n ss
  pub second : AreCut k n ts
  pub under : AreUnder ss ts

-- both are values of so many arguments, and the first lies at or below the second
pub record Leq (k n : ℕ) (a b : Abs) : Type 0 where
  pub first_is : a ≡ Terms (skeletons_of a)
  pub second_is : b ≡ Terms (skeletons_of b)
  pub order : LeqCut k n (skeletons_of a) (skeletons_of b)

-- both are states of a clause of so many arguments and variables, and the first lies at or below the second; a state has a
-- skeleton for each variable
pub record Below (k n v : ℕ) (s t : StateView) : Type 0 where
  pub first_arity : s.arity ≡ n
  pub second_arity : t.arity ≡ n
  pub first_variables : s.variables ≡ v
  pub second_variables : t.variables ≡ v
  pub order : Leq k v s.abs t.abs

-- a value of as many arguments as there are terms, which describes them
pub record Describes (k : ℕ) (a : Abs) (terms : List Term) : Type 0 where
  pub is_value : Leq k (length terms) a a
  pub described : AllDescribedBy (skeletons_of a) terms

-- a state of a clause with so many arguments and variables, which describes the instance's variables
pub record DescribesInstance (k : ℕ) (s : StateView) (head variables : List Term) : Type 0 where
  pub is_state : Below k (length head) (length variables) s s
  pub described : AllDescribedBy (skeletons_of s.abs) variables

-- the state of a clause of n arguments and v variables with these skeletons
abbrev pub state_with : ℕ → ℕ → List Skeleton → StateView
state_with n v skeletons = record { arity = n; variables = v; abs = Terms skeletons }

abbrev pub state_from : ℕ → ℕ → Option (List Skeleton) → Option StateView
state_from n v None = None
state_from n v (Some skeletons) = Some (state_with n v skeletons)

-- the domain at a depth; no operation forms sets of groups
abbrev pub depth_k : ℕ → PlainDomain
depth_k k = record {
  describe = λ n pre. Terms (describe_of n pre);
  enter = λ call head variables. forms_none (state_from (length head) variables (enter_of head variables (skeletons_of call)));
  call = λ s args. forms_none (Terms (pulled k args (skeletons_of s.abs)));
  back = λ s args answer. forms_none (state_from s.arity s.variables (push_all args (skeletons_of answer) (skeletons_of s.abs)));
  refine = λ s args action. forms_none (state_from s.arity s.variables (refine_of k args action (skeletons_of s.abs)));
  exit = λ s head. Terms (pulled k head (skeletons_of s.abs));
  join = λ a b. Terms (join_of (skeletons_of a) (skeletons_of b));
  Leq = Leq k;
  Below = Below k;
  entails = λ a property. entails_of (skeletons_of a) property;
  excludes = λ a property. excludes_of (skeletons_of a) property;
  rank = λ a. rank_of (skeletons_of a);
  describes = Describes k;
  describes_instance = DescribesInstance k;
}
