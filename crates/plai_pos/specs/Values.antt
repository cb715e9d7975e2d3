-- Values and states as contracts see them: positive Boolean functions, as sets of assignments (Marriott and Sondergaard 1993;
-- Armstrong, Marriott, Schachte and Sondergaard 1998).
use Rattle.std.specs.Prelude.{◌≡◌, ℕ, ◌+◌, ◌/◌, ◌%◌, ◌^◌, ◌<◌, Bool, true, ◌&&◌, nat_eq, List, map, length}
use Rattle.plai_base.specs.Mask.{all_true, has_slot, pattern}
use Rattle.plai_base.specs.Sets.{has, has_some, kept}
use Rattle.plai_bdd.specs.declared.node.Node.{Node}
use Rattle.plai_bdd.specs.Assignment.{Assignment}
use Rattle.plai_bdd.specs.Nodes.{IsCanonical, IsOver, is_model}
use Rattle.plai_factors.specs.Product.{together}
use Rattle.plai_bdd.specs.Slots.{conjunction}
use Rattle.plai_terms.specs.declared.abs.Abs.{Abs}
use Rattle.plai_terms.specs.declared.abs.Abs.TheVariants.{Pos}
use Rattle.plai_domain.specs.Plain.{StateView}
use Rattle.plai_pos_laws.specs.Groundness.{state_with}
use Rattle.plai_pos.specs.declared.value.Value.{Value}
use Rattle.plai_pos.specs.declared.value.State.{State}

-- the assignments to the first n slots that make the function true
abbrev pub models_of : ℕ → List Node → List ℕ
models_of n nodes = kept (2 ^ n) (is_model nodes)

-- the diagram of a positive function of the first n slots
pub record IsDiagram (n : ℕ) (nodes : List Node) : Type 0 where
  pub canonical : IsCanonical nodes
  pub over : IsOver n nodes
  pub top : is_model nodes (all_true n) ≡ true

-- the diagram of a positive function of the first n slots with these models
pub record IsDiagramOf (n : ℕ) (xs : List ℕ) (nodes : List Node) : Type 0 where
  pub diagram : IsDiagram n nodes
  pub models : models_of n nodes ≡ xs

-- the function depends on the first v slots alone
abbrev pub DependsBelow : ℕ → (Assignment → Bool) → Type 0
DependsBelow v f = (at other : Assignment) → ((slot : ℕ) → slot < v → at slot ≡ other slot) → f at ≡ f other

-- a positive function of the first v slots
pub record IsPositiveBelow (v : ℕ) (f : Assignment → Bool) : Type 0 where
  pub over : DependsBelow v f
  pub top : f (has_slot (all_true v)) ≡ true

-- the assignments to v variables that make the function true
abbrev pub models_in : ℕ → (Assignment → Bool) → List ℕ
models_in v f = kept (2 ^ v) (λ y. f (has_slot y))

-- the assignment to terms that an assignment to their variables gives: a term is true exactly where all slots of its set
-- are, and its set has the slots of its variables
abbrev pub terms_at : List ℕ → ℕ → ℕ
terms_at sets y = pattern (map (λ set. conjunction set (has_slot y)) sets)

-- the assignments to terms that these assignments to their variables give
abbrev pub image : List ℕ → List ℕ → List ℕ
image sets ys = kept (2 ^ length sets) (λ a. has_some ys (λ y. nat_eq (terms_at sets y) a))

-- the assignments to v variables that give one of these assignments to terms
abbrev pub preimage : ℕ → List ℕ → List ℕ → List ℕ
preimage v sets xs = kept (2 ^ v) (λ y. has xs (terms_at sets y))

-- the assignments to n arguments and v variables whose part on the variables is among these and gives their part on the
-- arguments
abbrev pub determined : ℕ → ℕ → List ℕ → List ℕ → List ℕ
determined n v sets ys = kept (2 ^ (n + v)) (λ x. has ys (x / 2 ^ n) && nat_eq (terms_at sets (x / 2 ^ n)) (x % 2 ^ n))

-- the pattern that a value is
abbrev pub value_of : Value → Abs
value_of v = Pos v.arity (models_of v.arity v.diagram)

-- the assignments to the arguments and variables of a state
abbrev pub assignments_of : State → List ℕ
assignments_of s = determined s.arity s.variables s.sets.items (models_in s.variables (together s.factors.items))

-- the arity, the number of variables and the pattern that a state is
abbrev pub state_of : State → StateView
state_of s = state_with s.arity s.variables (assignments_of s)
