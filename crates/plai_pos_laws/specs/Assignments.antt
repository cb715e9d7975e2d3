-- Sets of assignments of truth to slots, the models of positive Boolean functions, for groundness
-- (Cortesi, File and Winsborough 1991; Marriott and Sondergaard 1993).
use Rattle.std.specs.Prelude.{◌≡◌, ℕ, zero, suc, ◌+◌, ◌-◌, ◌/◌, ◌%◌, ◌^◌, Bool, true, false, ◌&&◌, ◌||◌, not, nat_eq, cond, List, [], ◌∷◌, filter, length, Option, Some, None}
use Rattle.std.specs.List.{list_all}
use Rattle.plai_base.specs.Mask.{has_slot, all_true}
use Rattle.plai_base.specs.Sets.{has, has_some, has_all, kept, IsSet, IsWithin}
use Rattle.plai_terms.specs.declared.term.Term.{Term, fold-Term}
use Rattle.plai_terms.specs.declared.term.Term.TheOpen.{Term-F}
use Rattle.plai_terms.specs.declared.prop.Prop.{Prop}
use Rattle.plai_terms.specs.declared.prop.Prop.TheVariants as property
use Rattle.plai_domain.specs.declared.action.Action.{Action}
use Rattle.plai_domain.specs.declared.action.Action.TheVariants as action

-- An assignment to n slots is the mask of the slots that are true; a set of assignments is an ascending list of masks.

-- a set of assignments to n slots that has the all-true one: the models of a positive function
pub record IsPositive (n : ℕ) (xs : List ℕ) : Type 0 where
  pub is_set : IsSet (2 ^ n) xs
  pub has_top : has xs (all_true n) ≡ true

-- both are such sets, and the first is within the second
pub record LeqModels (n : ℕ) (xs ys : List ℕ) : Type 0 where
  pub first : IsPositive n xs
  pub second : IsPositive n ys
  pub within : IsWithin xs ys

-- both are true, or neither
abbrev pub agree : Bool → Bool → Bool
agree a b = cond a b (not b)

-- one level, whose arguments are truths already
abbrev pub truth_step : (ℕ → Bool) → Term-F Bool → Bool
truth_step truth (Term-F.Var v) = truth v
truth_step truth (Term-F.Int _) = true
truth_step truth (Term-F.Atom _) = true
truth_step truth (Term-F.Compound _ truths) = list_all (λ b. b) truths

-- all variables of the term are true
abbrev pub holds : (ℕ → Bool) → Term → Bool
holds truth = fold-Term Bool (truth_step truth)

-- the truth of a clause's variable, where the first n slots are those of the head's arguments
abbrev pub variable_in : ℕ → ℕ → ℕ → Bool
variable_in n x v = has_slot x (n + v)

-- keeps the assignments in which the slot is true exactly where all variables of the term are
abbrev pub unify : ℕ → ℕ → Term → List ℕ → List ℕ
unify n slot term xs = filter (λ x. agree (has_slot x slot) (holds (variable_in n x) term)) xs

-- the slots from a first one on with these terms, in turn
abbrev pub unify_all : ℕ → ℕ → List Term → List ℕ → List ℕ
unify_all n slot [] xs = xs
unify_all n slot (term ∷ terms) xs = unify_all n (suc slot) terms (unify n slot term xs)

-- k more slots behind n, unconstrained
abbrev pub widened : ℕ → ℕ → List ℕ → List ℕ
widened n k xs = kept (2 ^ (n + k)) (λ x. has xs (x % 2 ^ n))

-- projection to the first n slots
abbrev pub first_slots : ℕ → List ℕ → List ℕ
first_slots n xs = kept (2 ^ n) (λ a. has_some xs (λ x. nat_eq (x % 2 ^ n) a))

-- projection to the k slots behind the first n
abbrev pub later_slots : ℕ → ℕ → List ℕ → List ℕ
later_slots n k xs = kept (2 ^ k) (λ a. has_some xs (λ x. nat_eq (x / 2 ^ n) a))

-- whether the argument, numbered from 1, is true
abbrev pub argument_in : ℕ → ℕ → Bool
argument_in x i = has_slot x (i - 1)

-- whether the assignment is kept where arguments have this property
abbrev pub allows : Prop → ℕ → Bool
allows (property.Ground i) x = argument_in x i
allows (property.Var i) x = true
allows (property.Nonvar i) x = true
allows (property.Int i) x = argument_in x i
allows (property.Indep i j) x = true

abbrev pub allows_all : List Prop → ℕ → Bool
allows_all [] x = true
allows_all (p ∷ ps) x = allows p x && allows_all ps x

abbrev pub describe_of : ℕ → List Prop → List ℕ
describe_of n pre = kept (2 ^ n) (allows_all pre)

abbrev pub entails_of : List ℕ → Prop → Bool
entails_of xs (property.Ground i) = has_all xs (λ x. argument_in x i)
entails_of xs (property.Var i) = false
entails_of xs (property.Nonvar i) = has_all xs (λ x. argument_in x i)
entails_of xs (property.Int i) = false
entails_of xs (property.Indep i j) = has_all xs (λ x. argument_in x i || argument_in x j)

abbrev pub excludes_of : List ℕ → Prop → Bool
excludes_of xs (property.Ground i) = false
excludes_of xs (property.Var i) = has_all xs (λ x. argument_in x i)
excludes_of xs (property.Nonvar i) = false
excludes_of xs (property.Int i) = false
excludes_of xs (property.Indep i j) = false

-- of a clause with n arguments and v variables: the call on the arguments' slots, new variables, each argument unified
-- with the head's
abbrev pub enter_of : ℕ → ℕ → List Term → List ℕ → List ℕ
enter_of n v head call = unify_all n 0 head (widened n v call)

-- the state with slots for a literal's arguments, behind the clause's slots
abbrev pub with_literal : ℕ → ℕ → List Term → List ℕ → List ℕ
with_literal n v args xs = unify_all n (n + v) args (widened (n + v) (length args) xs)

abbrev pub call_of : ℕ → ℕ → List Term → List ℕ → List ℕ
call_of n v args xs = later_slots (n + v) (length args) (with_literal n v args xs)

-- keeps the assignments whose part on the literal's slots is in the answer
abbrev pub back_of : ℕ → ℕ → List Term → List ℕ → List ℕ → List ℕ
back_of n v args answer xs = first_slots (n + v) (filter (λ y. has answer (y / 2 ^ (n + v))) (with_literal n v args xs))

abbrev pub exit_of : ℕ → List ℕ → List ℕ
exit_of n xs = first_slots n xs

abbrev pub join_of : ℕ → List ℕ → List ℕ → List ℕ
join_of n xs ys = kept (2 ^ n) (λ m. has xs m || has ys m)

-- the number of a term that is a variable
abbrev pub variable_step : Term-F (Option ℕ) → Option ℕ
variable_step (Term-F.Var v) = Some v
variable_step (Term-F.Int _) = None
variable_step (Term-F.Atom _) = None
variable_step (Term-F.Compound _ _) = None

-- the number of the variable at a place, from 0
abbrev pub variable_at : List Term → ℕ → Option ℕ
variable_at [] i = None
variable_at (t ∷ ts) zero = fold-Term (Option ℕ) variable_step t
variable_at (t ∷ ts) (suc i) = variable_at ts i

-- the state, unless there is no variable, or its slot is true in all assignments
abbrev pub if_variable : ℕ → List ℕ → Option ℕ → Option (List ℕ)
if_variable n xs None = None
if_variable n xs (Some v) = cond (has_all xs (λ x. variable_in n x v)) None (Some xs)

-- keeps the assignments to the clause's and the literal's slots that pass, and then to the clause's slots alone
abbrev pub acted : ℕ → ℕ → List Term → (ℕ → Bool) → List ℕ → List ℕ
acted n v args test xs = first_slots (n + v) (filter test (with_literal n v args xs))

-- what an action leaves, or none; the i-th argument is slot n + v + i - 1
abbrev pub refine_of : ℕ → ℕ → List Term → Action → List ℕ → Option (List ℕ)
refine_of n v args action.Fail xs = None
refine_of n v args (action.Unify i j) xs = Some (acted n v args (λ y. agree (has_slot y (n + v + (i - 1))) (has_slot y (n + v + (j - 1)))) xs)
refine_of n v args (action.Same i j) xs = Some (acted n v args (λ y. agree (has_slot y (n + v + (i - 1))) (has_slot y (n + v + (j - 1)))) xs)
refine_of n v args (action.Ground i) xs = Some (acted n v args (λ y. has_slot y (n + v + (i - 1))) xs)
refine_of n v args (action.BindInt i) xs = Some (acted n v args (λ y. has_slot y (n + v + (i - 1))) xs)
refine_of n v args (action.Var i) xs = if_variable n xs (variable_at args (i - 1))
refine_of n v args (action.Nonvar i) xs = Some xs
refine_of n v args (action.Havoc slots) xs = Some xs

-- the number of assignments that are missing, which gets smaller with each strict growth
abbrev pub rank_of : ℕ → List ℕ → ℕ
rank_of n xs = 2 ^ n - length xs
