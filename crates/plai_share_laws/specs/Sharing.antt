-- Sharing and freeness as an abstract domain: sets of groups of slots, and sets of free slots, as patterns
-- (Jacobs and Langen 1992; Muthukumar and Hermenegildo 1992).
use Rattle.std.specs.Prelude.{◌≡◌, ℕ, ◌+◌, ◌^◌, ◌<◌, false, List, [], map, length, Option, Some, None}
use Rattle.plai_base.specs.Sets.{has, IsSet, IsWithin}
use Rattle.plai_terms.specs.declared.term.Term.{Term}
use Rattle.plai_terms.specs.declared.abs.Abs.{Abs}
use Rattle.plai_terms.specs.declared.abs.Abs.TheVariants.{Nothing, Pos, Groups, Terms}
use Rattle.plai_domain.specs.Plain.{StateView, Formed, PlainDomain}
use Rattle.plai_share_laws.specs.Groups.{IsPart}
use Rattle.plai_share_laws.specs.Shares.{Shares, Side, join, sizes}
use Rattle.plai_share_laws.specs.Sides.{side_of}
use Rattle.plai_share_laws.specs.Calls.{enter, call, back, refine, exit, enter_formed, extend_formed, back_formed, refine_formed}
use Rattle.plai_share_laws.specs.Properties.{describe, entails, excludes}
use Rattle.plai_share_laws.specs.Rank.{rank}
use Rattle.plai_share_laws.specs.Described.{IsSharedBy, IsSharedByInstance}

-- a set of non-empty groups of n slots, and a set of free slots among them
pub record IsShares (n : ℕ) (v : Shares) : Type 0 where
  pub slots : v.slots ≡ n
  pub is_set : IsSet (2 ^ n) v.groups
  pub inhabited : has v.groups 0 ≡ false
  pub free : v.free < 2 ^ n

-- both are such, and the first has fewer groups and more free slots
pub record LeqShares (n : ℕ) (v w : Shares) : Type 0 where
  pub first : IsShares n v
  pub second : IsShares n w
  pub groups : IsWithin v.groups w.groups
  pub free : IsPart w.free v.free

-- the pattern of a set of groups and a set of free slots
abbrev pub abs_of : Shares → Abs
abs_of v = Groups v.slots v.groups v.free

abbrev pub nothing_shared : Shares
nothing_shared = record { slots = 0; groups = []; free = 0 }

-- the sets of a pattern of sharing
abbrev pub shares_of : Abs → Shares
shares_of Nothing = nothing_shared
shares_of (Pos n masks) = nothing_shared
shares_of (Groups n groups free) = record { slots = n; groups = groups; free = free }
shares_of (Terms skeletons) = nothing_shared

-- both are values of so many arguments, and the first lies at or below the second
pub record Leq (n : ℕ) (a b : Abs) : Type 0 where
  pub first_is : a ≡ abs_of (shares_of a)
  pub second_is : b ≡ abs_of (shares_of b)
  pub order : LeqShares n (shares_of a) (shares_of b)

-- both are states of a clause of so many arguments and variables, and the first lies at or below the second
pub record Below (n v : ℕ) (s t : StateView) : Type 0 where
  pub first_arity : s.arity ≡ n
  pub second_arity : t.arity ≡ n
  pub first_variables : s.variables ≡ v
  pub second_variables : t.variables ≡ v
  pub order : Leq (n + v) s.abs t.abs

-- a value of as many arguments as there are terms, which describes them
pub record Describes (a : Abs) (terms : List Term) : Type 0 where
  pub is_value : Leq (length terms) a a
  pub described : IsSharedBy (shares_of a) terms

-- a state of a clause with so many arguments and variables, which describes the instance
pub record DescribesInstance (s : StateView) (head variables : List Term) : Type 0 where
  pub is_state : Below (length head) (length variables) s s
  pub described : IsSharedByInstance (shares_of s.abs) head variables

-- what unify sees of terms of a clause of n arguments
abbrev pub sides_of : ℕ → List Term → List Side
sides_of n terms = map (side_of n) terms

-- the state of a clause of n arguments and v variables with these sets
abbrev pub state_with : ℕ → ℕ → Shares → StateView
state_with n v w = record { arity = n; variables = v; abs = abs_of w }

abbrev pub state_from : ℕ → ℕ → Option Shares → Option StateView
state_from n v None = None
state_from n v (Some w) = Some (state_with n v w)

-- what an operation gives, with the sizes of the sets that it forms
abbrev pub forms : {A : Type 0} → List (List ℕ) → A → Formed A
forms sets value = record { sizes = sizes sets; value = value }

-- the domain
abbrev pub sharing : PlainDomain
sharing = record {
  describe = λ n pre. abs_of (describe n pre);
  enter = λ a head variables.
      forms (enter_formed variables (sides_of (length head) head) (shares_of a))
      (Some (state_with (length head) variables (enter variables (sides_of (length head) head) (shares_of a))));
  call = λ s args.
      forms (extend_formed (s.arity + s.variables) (sides_of s.arity args) (shares_of s.abs))
      (abs_of (call (s.arity + s.variables) (sides_of s.arity args) (shares_of s.abs)));
  back = λ s args answer.
      forms (back_formed (s.arity + s.variables) (sides_of s.arity args) (shares_of s.abs) (shares_of answer))
      (Some (state_with s.arity s.variables (back (s.arity + s.variables) (sides_of s.arity args) (shares_of s.abs) (shares_of answer))));
  refine = λ s args action.
      forms (refine_formed (s.arity + s.variables) (sides_of s.arity args) action (shares_of s.abs))
      (state_from s.arity s.variables (refine (s.arity + s.variables) (sides_of s.arity args) action (shares_of s.abs)));
  exit = λ s head. abs_of (exit s.arity (shares_of s.abs));
  join = λ a b. abs_of (join (shares_of a) (shares_of b));
  Leq = Leq;
  Below = Below;
  entails = λ a property. entails (shares_of a) property;
  excludes = λ a property. excludes (shares_of a) property;
  rank = λ a. rank (shares_of a).slots (shares_of a);
  describes = Describes;
  describes_instance = DescribesInstance;
}
