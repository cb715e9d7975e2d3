-- The tree of a level by its weakest operator (ISO/IEC 13211-1:1995, 6.3.4).
-- A level is its first place, and then each operator with the place behind it. A place has an operand, or none: before a prefix
-- operator and behind a postfix operator nothing stands.
use Rattle.std.specs.Prelude.{ℕ, ℤ, suc, zero, max, cond, nat_eq, nat_lt, nat_le, Option, Some, None, option_and_then, List, [], ◌∷◌, ◌++◌, length}
use Rattle.plai_terms.specs.declared.term.Term.{Term, Var, Int, Atom, Compound}
use Rattle.plai_reader.specs.declared.operator.Side.{Side}
use Rattle.plai_reader.specs.declared.operator.Side.TheVariants.{Nothing, Below, UpTo}
use Rattle.plai_reader.specs.declared.operator.Operator.{Operator}
use Rattle.plai_reader.specs.declared.level.Operand.{Operand}
use Rattle.plai_reader.specs.Kinds.{left_of, right_of, leans_right}

-- What a reading builds: a tree of a variable's number, of an integer, of an atom, and of a name over trees.
pub record Builder (T : Type 0) : Type 0 where
  pub variable : ℕ → T
  pub integer : ℤ → T
  pub atom : List ℕ → T
  pub compound : List ℕ → List T → T

-- terms
abbrev pub terms : Builder Term
terms = record { variable = Var; integer = Int; atom = Atom; compound = Compound }

-- an operator and the place behind it
pub record Link (T : Type 0) : Type 0 where
  pub operator : Operator
  pub place : Option (Operand T)

-- a level cut at one of its operators
pub record Cut (T : Type 0) : Type 0 where
  pub before : List (Link T)
  pub link : Link T
  pub after : List (Link T)

module _ {T : Type 0} where
  -- the argument that a side takes from a place, as a list of none or one
  abbrev pub taken : Side → ℕ → Option (Operand T) → Option (List T)
  taken Nothing _ None = Some []
  taken Nothing _ (Some _) = None
  taken Below _ None = None
  taken Below p (Some x) = cond (nat_lt x.priority p) (Some (x.tree ∷ [])) None
  taken UpTo _ None = None
  taken UpTo p (Some x) = cond (nat_le x.priority p) (Some (x.tree ∷ [])) None

  -- the greatest priority of the operators
  abbrev pub greatest : List (Link T) → ℕ
  greatest [] = 0
  greatest (l ∷ ls) = max l.operator.priority (greatest ls)

  abbrev pub later : Link T → Cut T → Cut T
  later l c = record { before = l ∷ c.before; link = c.link; after = c.after }

  -- the cut at the leftmost operator of a priority, and at the rightmost
  abbrev pub leftmost : ℕ → List (Link T) → Option (Cut T)
  leftmost p [] = None
  leftmost p (l ∷ ls) = cond (nat_eq l.operator.priority p)
      (Some (record { before = []; link = l; after = ls }))
      (option_and_then (λ c. Some (later l c)) (leftmost p ls))

  abbrev pub or_else : Option (Cut T) → Option (Cut T) → Option (Cut T)
  or_else None d = d
  or_else (Some c) d = Some c

  abbrev pub rightmost : ℕ → List (Link T) → Option (Cut T)
  rightmost p [] = None
  rightmost p (l ∷ ls) = or_else
      (option_and_then (λ c. Some (later l c)) (rightmost p ls))
      (cond (nat_eq l.operator.priority p) (Some (record { before = []; link = l; after = ls })) None)

  -- the cut at the weakest operator: the leftmost of greatest priority where that one is xfy or fy, else the rightmost
  abbrev pub weakest : List (Link T) → Option (Cut T)
  weakest ls = option_and_then (λ c. cond (leans_right c.link.operator.kind) (Some c) (rightmost (greatest ls) ls)) (leftmost (greatest ls) ls)

module _ {T : Type 0} (build : Builder T) where
  -- the operator over what stands on its two sides, if their priorities allow it
  abbrev pub applied : Operator → Option (Operand T) → Option (Operand T) → Option (Option (Operand T))
  applied o left right =
      option_and_then (λ before. option_and_then (λ after.
      Some (Some (record { tree = build.compound o.name (before ++ after); priority = o.priority })))
      (taken (right_of o.kind) o.priority right)) (taken (left_of o.kind) o.priority left)

  -- the tree of the first place and the links behind it, for at most so many links
  abbrev pub tree_within : ℕ → Option (Operand T) → List (Link T) → Option (Option (Operand T))
  tree_within _ first [] = Some first
  tree_within zero first (l ∷ ls) = None
  tree_within (suc n) first (l ∷ ls) = option_and_then (λ c.
      option_and_then (λ left. option_and_then (λ right. applied c.link.operator left right)
      (tree_within n c.link.place c.after)) (tree_within n first c.before)) (weakest (l ∷ ls))

  -- Both sides of the weakest operator are read in the same way, and then it is applied.
  unfoldable pub tree_of : Option (Operand T) → List (Link T) → Option (Option (Operand T))
  tree_of first ls = tree_within (length ls) first ls
