-- What tuples of terms and what instances of a clause a set of groups describes
-- (Jacobs and Langen 1992; Muthukumar and Hermenegildo 1992).
use Rattle.std.specs.Prelude.{◌≡◌, ℕ, ◌+◌, true, List, ◌++◌, map}
use Rattle.plai_base.specs.Mask.{has_slot, pattern}
use Rattle.plai_base.specs.Sets.{has}
use Rattle.plai_terms.specs.declared.term.Term.{Term}
use Rattle.plai_terms.specs.Term.{occurs}
use Rattle.plai_terms.specs.Substitution.{occurs_in}
use Rattle.plai_domain.specs.Instances.{argument, IsVar}
use Rattle.plai_share_laws.specs.Shares.{Shares}

-- the slots of the terms that have the variable
abbrev pub group_of : ℕ → List Term → ℕ
group_of x terms = pattern (map (occurs x) terms)

-- for each variable of the tuple, the set of the arguments that have it is a group, and each free argument is a variable
pub record IsSharedBy (v : Shares) (terms : List Term) : Type 0 where
  pub groups : (x : ℕ) → occurs_in x terms ≡ true → has v.groups (group_of x terms) ≡ true
  pub free : (k : ℕ) → has_slot v.free k ≡ true → IsVar (argument terms (k + 1))

-- the same of an instance of a clause: a term for each argument of the head and for each variable
abbrev pub IsSharedByInstance : Shares → List Term → List Term → Type 0
IsSharedByInstance v head variables = IsSharedBy v (head ++ variables)
