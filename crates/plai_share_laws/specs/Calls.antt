-- What a clause does to sharing and freeness: enter, call, back, refine and exit, and the sets of groups that each forms
-- (Muthukumar and Hermenegildo 1992).
use Rattle.std.specs.Prelude.{ℕ, zero, suc, ◌+◌, ◌-◌, ◌*◌, ◌^◌, List, [], ◌∷◌, ◌++◌, map, length, Option, Some, None}
use Rattle.plai_base.specs.Mask.{mask_of, all_true}
use Rattle.plai_domain.specs.declared.action.Action.{Action}
use Rattle.plai_domain.specs.declared.action.Action.TheVariants as action
use Rattle.plai_share_laws.specs.Shares.{Shares, Side, Slot, Other, unify, unify_formed, widen_by, first_slots, last_slots, answered, answered_formed, havocked, havocked_formed, grounded, same, var_at, nonvar_at}

-- the slots from k on are unified with the sides, in turn
abbrev pub unify_each : ℕ → List Side → Shares → Shares
unify_each k [] v = v
unify_each k (t ∷ ts) v = unify_each (suc k) ts (unify (Slot k) t v)

-- the sets that this forms, in order
abbrev pub each_formed : ℕ → List Side → Shares → List (List ℕ)
each_formed k [] v = []
each_formed k (t ∷ ts) v = unify_formed (Slot k) t v ++ each_formed (suc k) ts (unify (Slot k) t v)

-- the state of a clause of so many variables, whose head's arguments are these sides
abbrev pub enter : ℕ → List Side → Shares → Shares
enter variables head v = unify_each 0 head (widen_by variables v)

-- with slots from n on for the literal's arguments
abbrev pub extend : ℕ → List Side → Shares → Shares
extend n args v = unify_each n args (widen_by (length args) v)

-- the part on the literal's slots
abbrev pub call : ℕ → List Side → Shares → Shares
call n args v = last_slots n (length args) (extend n args v)

-- a set of slots, n slots higher
abbrev pub raise : ℕ → ℕ → ℕ
raise n mask = mask * 2 ^ n

-- behind an answer to the literal
abbrev pub back : ℕ → List Side → Shares → Shares → Shares
back n args v answer = first_slots n (answered (raise n (all_true (length args))) (map (raise n) answer.groups) (raise n answer.free) (extend n args v))

-- the part on the slots of the head's arguments
abbrev pub exit : ℕ → Shares → Shares
exit n v = first_slots n v

-- the side at a place
abbrev pub side_at : List Side → ℕ → Side
side_at [] k = Other 0
side_at (t ∷ ts) zero = t
side_at (t ∷ ts) (suc k) = side_at ts k

-- what an action leaves, or none; arguments are numbered from 1
abbrev pub acted : ℕ → List Side → Action → Shares → Option Shares
acted n args action.Fail v = None
acted n args (action.Unify i j) v = Some (unify (Slot (n + (i - 1))) (Slot (n + (j - 1))) v)
acted n args (action.Same i j) v = Some (same (mask_of (n + (i - 1))) (mask_of (n + (j - 1))) v)
acted n args (action.Ground i) v = Some (grounded (mask_of (n + (i - 1))) v)
acted n args (action.BindInt i) v = Some (grounded (mask_of (n + (i - 1))) v)
acted n args (action.Var i) v = var_at (side_at args (i - 1)) v
acted n args (action.Nonvar i) v = nonvar_at (side_at args (i - 1)) v
acted n args (action.Havoc set) v = Some (havocked (raise n set) v)

abbrev pub first_of_some : ℕ → Option Shares → Option Shares
first_of_some n None = None
first_of_some n (Some v) = Some (first_slots n v)

-- behind an action at the literal
abbrev pub refine : ℕ → List Side → Action → Shares → Option Shares
refine n args action v = first_of_some n (acted n args action (extend n args v))

-- the sets that each forms, in order
abbrev pub enter_formed : ℕ → List Side → Shares → List (List ℕ)
enter_formed variables head v = each_formed 0 head (widen_by variables v)

abbrev pub extend_formed : ℕ → List Side → Shares → List (List ℕ)
extend_formed n args v = each_formed n args (widen_by (length args) v)

abbrev pub back_formed : ℕ → List Side → Shares → Shares → List (List ℕ)
back_formed n args v answer = extend_formed n args v ++ answered_formed (raise n (all_true (length args))) (map (raise n) answer.groups) (extend n args v)

abbrev pub acted_formed : ℕ → Action → Shares → List (List ℕ)
acted_formed n (action.Unify i j) v = unify_formed (Slot (n + (i - 1))) (Slot (n + (j - 1))) v
acted_formed n (action.Havoc set) v = havocked_formed (raise n set) v
acted_formed n _ v = []

abbrev pub refine_formed : ℕ → List Side → Action → Shares → List (List ℕ)
refine_formed n args action v = extend_formed n args v ++ acted_formed n action (extend n args v)
