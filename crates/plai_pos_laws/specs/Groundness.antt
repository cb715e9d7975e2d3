-- Groundness as an abstract domain: sets of assignments as patterns
-- (Cortesi, File and Winsborough 1991; Marriott and Sondergaard 1993).
use Rattle.std.specs.Prelude.{◌≡◌, ℕ, ◌+◌, List, [], length, Option, Some, None}
use Rattle.plai_terms.specs.declared.term.Term.{Term}
use Rattle.plai_terms.specs.declared.abs.Abs.{Abs}
use Rattle.plai_terms.specs.declared.abs.Abs.TheVariants.{Nothing, Pos, Groups, Terms}
use Rattle.plai_domain.specs.Plain.{StateView, PlainDomain, forms_none}
use Rattle.plai_pos_laws.specs.Assignments.{LeqModels, describe_of, enter_of, call_of, back_of, refine_of, exit_of, join_of, entails_of, excludes_of, rank_of}
use Rattle.plai_pos_laws.specs.Described.{describes, describes_instance}

-- the assignments of a pattern of groundness
abbrev pub masks_of : Abs → List ℕ
masks_of Nothing = []
masks_of (Pos n masks) = masks
masks_of (Groups n groups free) = []
masks_of (Terms skeletons) = []

-- the number of its slots
abbrev pub arity_of : Abs → ℕ
arity_of Nothing = 0
arity_of (Pos n masks) = n
arity_of (Groups n groups free) = 0
arity_of (Terms skeletons) = 0

-- both are values of so many arguments, and the first lies at or below the second
pub record Leq (n : ℕ) (a b : Abs) : Type 0 where
  pub first_is : a ≡ Pos n (masks_of a)
  pub second_is : b ≡ Pos n (masks_of b)
  pub order : LeqModels n (masks_of a) (masks_of b)

-- both are states of a clause of so many arguments and variables, and the first lies at or below the second
pub record Below (n v : ℕ) (s t : StateView) : Type 0 where
  pub first_arity : s.arity ≡ n
  pub second_arity : t.arity ≡ n
  pub first_variables : s.variables ≡ v
  pub second_variables : t.variables ≡ v
  pub order : Leq (n + v) s.abs t.abs

-- a value of as many arguments as there are terms, which describes them
pub record Describes (a : Abs) (terms : List Term) : Type 0 where
  pub is_value : Leq (length terms) a a
  pub described : describes (masks_of a) terms

-- a state of a clause with so many arguments and variables, which describes the instance
pub record DescribesInstance (s : StateView) (head variables : List Term) : Type 0 where
  pub is_state : Below (length head) (length variables) s s
  pub described : describes_instance (masks_of s.abs) head variables

-- the state of a clause of n arguments and v variables with these assignments
abbrev pub state_with : ℕ → ℕ → List ℕ → StateView
state_with n v masks = record { arity = n; variables = v; abs = Pos (n + v) masks }

abbrev pub state_from : ℕ → ℕ → Option (List ℕ) → Option StateView
state_from n v None = None
state_from n v (Some masks) = Some (state_with n v masks)

-- the domain; no operation forms sets of groups
abbrev pub groundness : PlainDomain
groundness = record {
  describe = λ n pre. Pos n (describe_of n pre);
  enter = λ call head variables. forms_none (Some (state_with (length head) variables (enter_of (length head) variables head (masks_of call))));
  call = λ s args. forms_none (Pos (length args) (call_of s.arity s.variables args (masks_of s.abs)));
  back = λ s args answer. forms_none (Some (state_with s.arity s.variables (back_of s.arity s.variables args (masks_of answer) (masks_of s.abs))));
  refine = λ s args action. forms_none (state_from s.arity s.variables (refine_of s.arity s.variables args action (masks_of s.abs)));
  exit = λ s head. Pos s.arity (exit_of s.arity (masks_of s.abs));
  join = λ a b. Pos (arity_of a) (join_of (arity_of a) (masks_of a) (masks_of b));
  Leq = Leq;
  Below = Below;
  entails = λ a property. entails_of (masks_of a) property;
  excludes = λ a property. excludes_of (masks_of a) property;
  rank = λ a. rank_of (arity_of a) (masks_of a);
  describes = Describes;
  describes_instance = DescribesInstance;
}
