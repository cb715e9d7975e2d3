-- What a builtin's actions speak of, and small lists of actions.
use Rattle.std.proofs.Common.{◌≡◌, ℕ, ◌≤◌, ◌<◌, ◌^◌, ◌&&◌, true, false, nat_eq, nat_le, nat_lt, Bool, lit≤, eqb-true, Option, Some, None, List, [], ◌∷◌}
use Rattle.std.proofs.Common.{length, refl, subst, inl, inr, arith}
use Rattle.std.specs.List.{list_all}
use Rattle.std.specs.Option.{is_some}
use Rattle.std.specs.Cmp.Lexicographic.{pointwise}
use Rattle.std.proofs.lemmas.Bool.Decides.{nat_tests}
use Rattle.plai_theory.specs.Words.{IsIn, given}
use Rattle.plai_theory.proofs.Options.{by_test}
use Rattle.plai_domain.specs.declared.action.Action.{Action}
use Rattle.plai_domain.specs.declared.action.Action.TheVariants as action
use Rattle.plai_domain.specs.Instances.{acts_within}
use Rattle.plai_clauses.specs.Builtins.{is_key, builtins, first_of_key, builtin_named, is_builtin_key}
use Rattle.plai_clauses.specs.declared.builtin.Builtin.{Builtin}
use Rattle.plai_builtins.specs.Actions.{builtin_actions, actions_of}
use Rattle.plai_builtins.specs.Listed.{listed, small}

both : (p q : Bool) → (p && q) ≡ true → (p ≡ true) × (q ≡ true)
both true q e = (refl, e)
both false q e = cc

-- what holds of each row of a list holds of what is found in it
found_passes : (p : ℕ → Builtin → Bool) (rows : List (List ℕ × ℕ × Builtin)) → list_all (λ row. p row.1 row.2) rows ≡ true
    → (name : List ℕ) (arity : ℕ) (b : Builtin) → first_of_key rows name arity ≡ Some b → p arity b ≡ true
found_passes p [] h name arity b = λ e. absurd cc
found_passes p (row ∷ rows) h name arity b =
    let (here, there) = both (p row.1 row.2) (list_all (λ row. p row.1 row.2) rows) h in
    by_test (is_key name arity (row.0, row.1))
    (λ t. rw t (λ e.
    let is : row.2 ≡ b = cc in
    let same : row.1 ≡ arity = eqb-true row.1 arity (both (pointwise nat_eq row.0 name) (nat_eq row.1 arity) t).1 in
    subst (λ c. p arity c ≡ true) is (subst (λ k. p k row.2 ≡ true) same here)))
    (λ t. rw t (found_passes p rows there name arity b))

-- the action's arguments are among the first m
abbrev acts_in : ℕ → Action → Bool
acts_in m action.Fail = true
acts_in m (action.Unify i j) = nat_le 1 i && nat_le i m && nat_le 1 j && nat_le j m
acts_in m (action.Same i j) = nat_le 1 i && nat_le i m && nat_le 1 j && nat_le j m
acts_in m (action.Ground i) = nat_le 1 i && nat_le i m
acts_in m (action.BindInt i) = nat_le 1 i && nat_le i m
acts_in m (action.Var i) = nat_le 1 i && nat_le i m
acts_in m (action.Nonvar i) = nat_le 1 i && nat_le i m
acts_in m (action.Havoc slots) = nat_lt slots (2 ^ m)

within_at : (m : ℕ) (x : Action) → acts_in m x ≡ true → acts_within m x
within_at m action.Fail e = tt
within_at m (action.Unify i j) e = grind arith
within_at m (action.Same i j) e = grind arith
within_at m (action.Ground i) e = grind arith
within_at m (action.BindInt i) e = grind arith
within_at m (action.Var i) e = grind arith
within_at m (action.Nonvar i) e = grind arith
within_at m (action.Havoc slots) e = grind arith

action_in : (m : ℕ) (xs : List Action) → list_all (acts_in m) xs ≡ true → (x : Action) → IsIn x xs → acts_within m x
action_in m [] h x i = absurd i
action_in m (y ∷ ys) h x (inl e) = subst (acts_within m) e (within_at m y (both (acts_in m y) (list_all (acts_in m) ys) h).0)
action_in m (y ∷ ys) h x (inr i) = action_in m ys (both (acts_in m y) (list_all (acts_in m) ys) h).1 x i

-- a builtin of so many arguments has actions of these, at most three
abbrev fits : ℕ → Builtin → Bool
fits arity b = nat_le (length (builtin_actions b)) 3 && list_all (acts_in arity) (builtin_actions b)

all_fit : list_all (λ row. fits row.1 row.2) builtins ≡ true
unfolding builtins
all_fit = refl

record IsSound (arity : ℕ) (b : Builtin) : Type 0 where
  few : length (builtin_actions b) ≤ 3
  within : list_all (acts_in arity) (builtin_actions b) ≡ true

sound : (name : List ℕ) (arity : ℕ) (b : Builtin) → builtin_named name arity ≡ Some b → IsSound arity b
sound name arity b e =
    let (first, second) =
    both (nat_le (length (builtin_actions b)) 3) (list_all (acts_in arity) (builtin_actions b)) (found_passes fits builtins all_fit name arity b e) in
    record { few = grind (arith, nat_tests); within = second }

-- what is found has actions of so many arguments, at most three
module _ (arity : ℕ) where
  found_within : (found : Option Builtin) → ((b : Builtin) → found ≡ Some b → IsSound arity b) → (x : Action)
      → IsIn x (given [] builtin_actions found) → acts_within arity x
  found_within None h x i = absurd i
  found_within (Some b) h x i = action_in arity (builtin_actions b) (h b refl).within x i

  found_few : (found : Option Builtin) → ((b : Builtin) → found ≡ Some b → IsSound arity b) → length (given [] builtin_actions found) ≤ 3
  found_few None h = lit≤ tt
  found_few (Some b) h = (h b refl).few

found_there : (found : Option Builtin) (x : Action) → IsIn x (given [] builtin_actions found) → is_some found ≡ true
found_there None x i = absurd i
found_there (Some b) x i = refl

pub only_builtins : (name : List ℕ) (arity : ℕ) (x : Action) → IsIn x (actions_of name arity) → is_builtin_key name arity ≡ true
unfolding actions_of
only_builtins name arity = found_there (builtin_named name arity)

pub actions_within : (name : List ℕ) (arity : ℕ) (x : Action) → IsIn x (actions_of name arity) → acts_within arity x
unfolding actions_of
actions_within name arity = found_within arity (builtin_named name arity) (sound name arity)

pub actions_few : (name : List ℕ) (arity : ℕ) → length (actions_of name arity) ≤ 3
unfolding actions_of
actions_few name arity = found_few arity (builtin_named name arity) (sound name arity)

-- small lists

listed-small : (xs : List Action) → length xs ≤ 3 → listed (small xs) ≡ xs
listed-small [] h = refl
listed-small (x ∷ []) h = refl
listed-small (x ∷ y ∷ []) h = refl
listed-small (x ∷ y ∷ z ∷ []) h = refl
listed-small (x ∷ y ∷ z ∷ w ∷ xs) h = absurd (omega arith)

pub listed_actions : (name : List ℕ) (arity : ℕ) → listed (small (actions_of name arity)) ≡ actions_of name arity
listed_actions name arity = listed-small (actions_of name arity) (actions_few name arity)
