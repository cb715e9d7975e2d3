-- Decision trees, which are diagrams with their sharing unfolded, and which of them are ordered and reduced: Bryant 1986,
-- definitions 1 to 3. Theorem 1 there, that a function has one reduced diagram, is `same_tree` in proofs/Trees.antt.
use Rattle.std.specs.Prelude.{◌≢◌, ℕ, ◌+◌, ◌<◌, ◌≤◌, Bool, cond}
use Rattle.plai_bdd.specs.Assignment.{Assignment}

-- an answer, or a slot with the trees that decide where it is false and where it is true
pub data Tree : Type 0 where
  Tip : Bool → Tree
  Fork : ℕ → Tree → Tree → Tree

-- the tree's answer at an assignment
abbrev pub value : Tree → Assignment → Bool
value (Tip answer) at = answer
value (Fork slot low high) at = cond (at slot) (value high at) (value low at)

-- slots grow towards the tips, from `least` on, and are below 64, and no fork has two equal children
abbrev pub IsReduced : ℕ → Tree → Type 0
IsReduced least (Tip answer) = Unit {0}
IsReduced least (Fork slot low high) =
    (least ≤ slot) × (slot < 64) × (low ≢ high) × IsReduced (slot + 1) low × IsReduced (slot + 1) high
