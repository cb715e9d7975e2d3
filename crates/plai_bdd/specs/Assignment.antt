-- Boolean functions of the answers at slots: restriction, and which slots a function depends on. After Bryant, "Graph-Based
-- Algorithms for Boolean Function Manipulation", IEEE Transactions on Computers C-35 (8), 1986, section 2.
use Rattle.std.specs.Prelude.{◌≡◌, ℕ, Bool, cond, nat_eq}

-- which slots are true
abbrev pub Assignment : Type 0
Assignment = ℕ → Bool

-- the assignment with one slot's answer replaced
abbrev pub with_slot : Assignment → ℕ → Bool → Assignment
with_slot at slot answer = λ k. cond (nat_eq k slot) answer (at k)

-- the function does not depend on the slot
abbrev pub IsFree : (Assignment → Bool) → ℕ → Type 0
IsFree f slot = (at : Assignment) (answer : Bool) → f (with_slot at slot answer) ≡ f at
