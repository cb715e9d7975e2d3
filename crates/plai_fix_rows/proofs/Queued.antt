-- Rows that wait, as they are put in and taken out.
use Rattle.std.proofs.Common.{◌≡◌, ◌⊎◌, ℕ, ◌+◌, ◌<◌, Bool, true, false, ◌&&◌, ◌||◌, nat_eq, eqb-true, List, [], ◌∷◌, length, take, get_or, slice_index_or}
use Rattle.std.proofs.Common.{Option, Some, None, IfSome, IfNone, sym, refl, ap, ◌∙◌, subst, inl, inr, arith}
use Rattle.std.specs.List.{list_any, Contains}
use Rattle.std.specs.List.Sorted.{IsPermutation}
use Rattle.std.proofs.lemmas.Bool.{eqb-false}
use Rattle.plai_theory.specs.Domain.{Domain}
use Rattle.std.proofs.lemmas.List.Elements.{Contains-append_left, Contains-append_right, Contains-append_cases, Contains-push, Contains-push_cases}
use Rattle.std.proofs.lemmas.List.Sorted.{Contains-permutation}
use Rattle.std.proofs.lemmas.List.Folds.{list_any_more}
use Rattle.plai_arcs.specs.Links.{is_pair}
use Rattle.plai_fix_laws.specs.WorkStates.{Keeping, is_live, IsClean}
use Rattle.plai_fix_laws.specs.Queues.{IsQueued}

pub pushed_row : (old new : List ℕ) (x : ℕ) → IsPermutation (x ∷ old) new → Contains new x
pushed_row old new x perm = Contains-permutation (x ∷ old) new x perm (Contains-append_left (x ∷ []) old x (Contains-push [] x))

pub pushed_others : (old new : List ℕ) (x : ℕ) → IsPermutation (x ∷ old) new → (n : ℕ) → Contains old n → Contains new n
pushed_others old new x perm n h = Contains-permutation (x ∷ old) new n perm (Contains-append_right (x ∷ []) old n h)

no_contains : (n : ℕ) → Contains [] n → ⊥
no_contains n h = let l = h.1 in absurd (omega arith)

-- a row that has no dirty pair, or is dormant, is taken out
pub popped : (d : Domain) (k : Keeping d) (old new : List ℕ) (x : ℕ) → IsQueued k old → IsPermutation old (x ∷ new)
    → ((m : ℕ) → is_live d k.rows x ≡ true → k.dirty x m ≡ false) → IsQueued k new
popped d k old new x queued perm clean n m live e = at (Contains-append_cases (x ∷ []) new n (Contains-permutation old (x ∷ new) n perm (queued n m live e)))
  where
    is_row : Contains (x ∷ []) n ⊎ Contains new n → Contains [] n ⊎ (x ≡ n) → Contains new n
    is_row h (inl k) = absurd (no_contains n k)
    is_row h (inr s) = let l : true ≡ false = sym e ∙ ap (λ z. k.dirty z m) (sym s) ∙ clean m (ap (is_live d k.rows) s ∙ live) in cc

    at : Contains (x ∷ []) n ⊎ Contains new n → Contains new n
    at (inl h) = is_row (inl h) (Contains-push_cases [] x n h)
    at (inr h) = h

pub none_queued : (d : Domain) (k : Keeping d) (queue : List ℕ) → IsQueued k queue → length queue ≡ 0 → IsClean d k
none_queued d k queue queued e n m live = at (k.dirty n m) refl
  where
    at : (b : Bool) → k.dirty n m ≡ b → b ≡ false
    at true t = let h = (queued n m live t).1 in absurd (omega arith)
    at false t = refl

first : (p q : Bool) → (p && q) ≡ true → p ≡ true
first true q e = refl
first false q e = cc

or_cases : {P : Type 0} (p q : Bool) → (p || q) ≡ true → (p ≡ true → P) → (q ≡ true → P) → P
or_cases true q e h k = h refl
or_cases false q e h k = k e

pub rows_more : (pairs : List (ℕ × ℕ)) (i : ℕ) (d : ℕ × ℕ) (old new : List ℕ) → i < length pairs
    → ((n m : ℕ) → list_any (is_pair n m) (take i pairs) ≡ true → Contains old n)
    → Contains new (get_or pairs i d).0 → ((n : ℕ) → Contains old n → Contains new n) → (n m : ℕ) → list_any (is_pair n m) (take (i + 1) pairs) ≡ true
    → Contains new n
rows_more pairs i d old new h before own others n m e =
    or_cases (list_any (is_pair n m) (take i pairs)) (is_pair n m (get_or pairs i d)) (sym (list_any_more (is_pair n m) pairs i d h) ∙ e)
    (λ t. others n (before n m t))
    (λ t. subst (Contains new) (sym (eqb-true n (get_or pairs i d).0 (first (nat_eq n (get_or pairs i d).0) (nat_eq m (get_or pairs i d).1) t))) own)

-- the first row is taken out, which has no dirty pair or is dormant
pub popped_first : (d : Domain) (k : Keeping d) (old new : List ℕ) (result : Option ℕ) (row : ℕ) → IsQueued k old → row ≡ slice_index_or old 0 row
    → IfSome result (λ x. x ≡ slice_index_or old 0 x)
    → IfSome result (λ x. IsPermutation old (x ∷ new)) → IfNone result (new ≡ old)
    → ((m : ℕ) → is_live d k.rows row ≡ true → k.dirty row m ≡ false) → IsQueued k new
popped_first d k old new None row queued e f perm same clean = subst (IsQueued k) (sym same) queued
popped_first d k [] new (Some x) row queued e f perm same clean = λ n m live t. absurd (no_contains n (queued n m live t))
popped_first d k (z ∷ zs) new (Some x) row queued e f perm same clean =
    let g : row ≡ z = e in
    let h : x ≡ z = f in
    popped d k (z ∷ zs) new x queued perm (λ m live. ap (λ w. k.dirty w m) (h ∙ sym g) ∙ clean m (ap (is_live d k.rows) (g ∙ sym h) ∙ live))

pub when_none : {A : Type 0} (P Q : Type 0) (o : Option A) → IfNone o P → (P → Q) → IfNone o Q
when_none P Q None h k = k h
when_none P Q (Some x) h k = tt

-- the pairs that are marked are queued
pub queued_more : (d : Domain) (k new : Keeping d) (pairs : List (ℕ × ℕ)) (old later : List ℕ) → IsQueued k old
    → ((n : ℕ) → is_live d new.rows n ≡ true → is_live d k.rows n ≡ true)
    → ((r c : ℕ) → new.dirty r c ≡ (list_any (is_pair r c) pairs || k.dirty r c))
    → ((n m : ℕ) → list_any (is_pair n m) pairs ≡ true → Contains later n) → ((n : ℕ) → Contains old n → Contains later n) → IsQueued new later
queued_more d k new pairs old later queued lives marked own others n m live e =
    or_cases (list_any (is_pair n m) pairs) (k.dirty n m) (sym (marked n m) ∙ e) (own n m) (λ t. others n (queued n m (lives n live) t))

pub marked_else : (n row : ℕ) (x y : Bool) → (n ≡ row → ⊥) → ((nat_eq n row && x) || y) ≡ true → y ≡ true
marked_else n row x y other e = or_cases (nat_eq n row && x) y e (λ t. absurd (other (eqb-true n row (first (nat_eq n row) x t)))) (λ t. t)

-- another row is live, or a row's clauses are dirty, and it is queued
pub queued_row : (d : Domain) (k new : Keeping d) (row : ℕ) (old later : List ℕ) → IsQueued k old
    → ((n m : ℕ) → (n ≡ row → ⊥) → is_live d new.rows n ≡ true → new.dirty n m ≡ true → (is_live d k.rows n ≡ true) × (k.dirty n m ≡ true))
    → Contains later row → ((n : ℕ) → Contains old n → Contains later n) → IsQueued new later
queued_row d k new row old later queued others own more n m live e = at (nat_eq n row) refl
  where
    at : (b : Bool) → nat_eq n row ≡ b → Contains later n
    at true t = subst (Contains later) (sym (eqb-true n row t)) own
    at false t = let (l, f) = others n m (eqb-false n row t) live e in more n (queued n m l f)
