-- What the reader's values stand for, and what its steps return.
use Rattle.std.specs.Prelude.{◌≡◌, ℕ, Option, Some, None, Result, Ok, Err, List, map, reverse}
use Rattle.std.proofs.Common.{Vec, Global}
use Rattle.plai_terms.specs.declared.read_term.ReadTerm.{ReadTerm}
use Rattle.plai_reader.specs.declared.stop.Stop.{Stop}
use Rattle.plai_reader.specs.declared.stop.Stop.TheVariants as stop
use Rattle.plai_reader.specs.declared.fail.ReadTermFail.{ReadTermFail}
use Rattle.plai_reader.specs.declared.fail.ReadTermFail.TheVariants.{Memory, Syntax, TooDeep, ArityTooLarge}
use Rattle.plai_reader.specs.declared.tree.Tree.{Tree}
use Rattle.plai_reader.specs.declared.state.Level.{Level}
use Rattle.plai_reader.specs.declared.state.Reader.{Reader}
use Rattle.plai_reader.specs.declared.state.Read.{Read}
use Rattle.plai_reader.specs.Reading.{Layer, State}

abbrev pub layer_of : Level → Layer Tree
layer_of l = record { bracket = l.bracket; items = l.items.items; frames = reverse l.frames.items; place = l.place }

-- the open levels, the innermost first
abbrev pub layers_of : List Level → List (Layer Tree)
layers_of ls = reverse (map layer_of ls)

abbrev pub state_of : Reader → State Tree
state_of r = record { inner = layer_of r.inner; outer = layers_of r.outer.items; mode = r.mode; variables = r.variables }

-- what a body returns for a step: the state, or that there is none; without memory it says nothing
abbrev pub Steps : Option (State Tree) → Result Reader Stop → Type 0
Steps outcome (Ok r) = outcome ≡ Some (state_of r)
Steps outcome (Err stop.Syntax) = outcome ≡ None
Steps outcome (Err stop.Memory) = Unit {0}

-- the value, or no memory
abbrev pub Makes : {A : Type 0} → A → Result A Stop → Type 0
Makes value (Ok x) = value ≡ x
Makes value (Err stop.Syntax) = ⊥
Makes value (Err stop.Memory) = Unit {0}

-- the same for the items of a vector
abbrev pub Lists : {A : Type 0} → List A → Result (Vec A Global) Stop → Type 0
Lists items (Ok v) = v.items ≡ items
Lists items (Err stop.Syntax) = ⊥
Lists items (Err stop.Memory) = Unit {0}

-- the tree of a term and its number of variables
abbrev pub Reads : Option Tree → ℕ → Result Read Stop → Type 0
Reads outcome n (Ok read) = (outcome ≡ Some read.tree) × (n ≡ read.variables)
Reads outcome n (Err stop.Syntax) = outcome ≡ None
Reads outcome n (Err stop.Memory) = Unit {0}

-- this answer, or no memory
abbrev pub IsAnswer : Result ReadTerm ReadTermFail → Result ReadTerm ReadTermFail → Type 0
IsAnswer right (Err Memory) = Unit {0}
IsAnswer right (Err Syntax) = right ≡ Err Syntax
IsAnswer right (Err TooDeep) = right ≡ Err TooDeep
IsAnswer right (Err ArityTooLarge) = right ≡ Err ArityTooLarge
IsAnswer right (Ok read) = right ≡ Ok read
