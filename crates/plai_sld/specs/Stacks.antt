-- The list of a run kept as a stack, whose last item is the front. Behind each item a substitution waits for those below it.
use Rattle.std.specs.Prelude.{◌≡◌, ◌≤◌, ℕ, List, [], ◌∷◌, ◌++◌, map, reverse, take, length}
use Rattle.plai_terms.specs.Subst.{bound_to}
use Rattle.plai_terms.specs.Unification.{Bindings}
use Rattle.plai_sld.specs.declared.item.Item.{Item}
use Rattle.plai_sld.specs.declared.stack.Waiting.{Waiting}
use Rattle.plai_sld.specs.Runs.{RunState, items_under}
use Rattle.plai_sld.specs.States.{AreItems}

-- from the front on: an item, and those below it under what waits behind it
abbrev pub shown : List Waiting → List Item
shown [] = []
shown (w ∷ ws) = w.item ∷ items_under (bound_to w.below.bindings) (shown ws)

-- the list of the stack
abbrev pub items_of : List Waiting → List Item
items_of stack = shown (reverse stack)

-- items behind which nothing waits, with one limit
abbrev pub limited : ℕ → List Item → List Waiting
limited n = map (λ x. record { item = x; below = record { bindings = []; limit = n } })

-- from the front on, the variables of the items below each are below its limit
abbrev pub AreLimited : List Waiting → Type 0
AreLimited [] = Unit {0}
AreLimited (w ∷ ws) = AreItems w.below.limit (shown ws) × AreLimited ws

-- the stack, from the front on, where so many items of it are left and others stand on them
abbrev pub with_top : List Waiting → ℕ → List Waiting → List Waiting
with_top stack count top = top ++ reverse (take count stack)

-- its state
abbrev pub on_stack : List Waiting → ℕ → List Waiting → ℕ → RunState
on_stack stack count top next = record { items = shown (with_top stack count top); next = next }

-- so many items can be left, and where the new state is one, the limits are kept
abbrev pub IsChange : List Waiting → ℕ → List Waiting → ℕ → Type 0
IsChange stack count top next = (count ≤ length stack) × (AreItems next (shown (with_top stack count top)) → AreLimited (with_top stack count top))

-- the stack under a substitution, with so many items left
pub record IsBrought (s : Bindings) (stack : List Waiting) (count : ℕ) (top : List Waiting) : Type 0 where
  pub bound : count ≤ length stack
  pub items : shown (with_top stack count top) ≡ items_under (bound_to s) (items_of stack)
  pub limits : AreLimited (with_top stack count top)
