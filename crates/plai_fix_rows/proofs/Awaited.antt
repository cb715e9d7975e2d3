-- Pairs that are pending, as they are put in and taken out.
use Rattle.std.proofs.Common.{◌≡◌, ℕ, zero, suc, ◌+◌, ◌≤◌, ◌<◌, length, get_or, Bool, true, false, ◌&&◌, ◌||◌, nat_eq, eqb-true, List, [], ◌∷◌, ◌++◌}
use Rattle.std.proofs.Common.{sym, refl, ap, ◌∙◌, inl, inr, arith}
use Rattle.std.specs.List.{list_any}
use Rattle.std.proofs.lemmas.Bool.{eq-eqb, eqb-false}
use Rattle.plai_theory.proofs.Options.{by_test}
use Rattle.plai_arcs.specs.Links.{is_pair}
use Rattle.plai_fix_laws.specs.WorkStates.{with_pair}
use Rattle.plai_fix_laws.specs.Queues.{Awaits}
use Rattle.plai_fix_rows.specs.Solving.{listed}

any_push : {A : Type 0} (p : A → Bool) (xs : List A) (x : A) → list_any p (xs ++ x ∷ []) ≡ (list_any p xs || p x)
any_push p [] x = by_test (p x) (λ t. rw t refl) (λ t. rw t refl)
any_push p (y ∷ xs) x = by_test (p y) (λ t. rw t refl) (λ t. rw t (any_push p xs x))

or_turn : (p q : Bool) → (p || q) ≡ (q || p)
or_turn true true = refl
or_turn true false = refl
or_turn false true = refl
or_turn false false = refl

or_left : (p q : Bool) → p ≡ true → (p || q) ≡ true
or_left true q e = refl
or_left false q e = cc

or_right : (p q : Bool) → q ≡ true → (p || q) ≡ true
or_right true q e = refl
or_right false q e = e

or_cases : {P : Type 0} (p q : Bool) → (p || q) ≡ true → (p ≡ true → P) → (q ≡ true → P) → P
or_cases true q e h k = h refl
or_cases false q e h k = k e

first : (p q : Bool) → (p && q) ≡ true → p ≡ true
first true q e = refl
first false q e = cc

-- the last pair, and the others
pub listed_push : (pairs : List (ℕ × ℕ)) (n m a b : ℕ) → listed (pairs ++ (n, m) ∷ []) a b ≡ with_pair n m (listed pairs) a b
listed_push pairs n m a b = any_push (is_pair a b) pairs (n, m) ∙ or_turn (listed pairs a b) (nat_eq a n && nat_eq b m)

pub awaits_none : (row : ℕ) (pending : ℕ → ℕ → Bool) → Awaits row 0 pending pending
awaits_none row pending = record { kept = λ a m e. e; own = λ m h l. absurd (omega arith); only = λ a m e. inl e }

-- one more clause
pub awaits_more : (row last : ℕ) (start : ℕ → ℕ → Bool) (old new : List (ℕ × ℕ)) → Awaits row last start (listed old) → new ≡ old ++ (row, last + 1) ∷ []
    → Awaits row (last + 1) start (listed new)
awaits_more row last start old new awaits more =
    record {
      kept = λ a m e. back a m (or_right (nat_eq a row && nat_eq m (last + 1)) (listed old a m) (awaits.kept a m e));
      own = λ m h l. by_test (nat_eq m (last + 1))
          (λ t. back row m (or_left (nat_eq row row && nat_eq m (last + 1)) (listed old row m) (rw (eq-eqb row row refl, t) refl)))
          (λ t. let other = eqb-false m (last + 1) t in
          back row m (or_right (nat_eq row row && nat_eq m (last + 1)) (listed old row m) (awaits.own m h (below m l other))));
      only = λ a m e. or_cases (nat_eq a row && nat_eq m (last + 1)) (listed old a m) (sym (same a m) ∙ e)
          (λ t. inr (eqb-true a row (first (nat_eq a row) (nat_eq m (last + 1)) t))) (awaits.only a m);
    }
  where
    same : (a m : ℕ) → listed new a m ≡ with_pair row (last + 1) (listed old) a m
    same a m = ap (λ xs. listed xs a m) more ∙ listed_push old row (last + 1) a m

    back : (a m : ℕ) → with_pair row (last + 1) (listed old) a m ≡ true → listed new a m ≡ true
    back a m e = same a m ∙ e

    below : (m : ℕ) → m ≤ last + 1 → (m ≡ last + 1 → ⊥) → m ≤ last
    below m l other = omega (arith, other)

-- the last pair is taken out
pub popped_pair : (old new : List (ℕ × ℕ)) (n m : ℕ) → old ≡ new ++ (n, m) ∷ [] → ◌≡◌ {A = ℕ → ℕ → Bool} (listed old) (with_pair n m (listed new))
popped_pair old new n m e j a b = (ap (λ xs. listed xs a b) e ∙ listed_push new n m a b) j

pub any_at : (xs : List ℕ) (i : ℕ) → i < length xs → list_any (nat_eq (get_or xs i 0)) xs ≡ true
any_at [] i h = absurd (omega arith)
any_at (x ∷ xs) zero h = let t : nat_eq x x ≡ true = eq-eqb x x refl in rw t refl
any_at (x ∷ xs) (suc i) h = by_test (nat_eq (get_or xs i 0) x) (λ t. rw t refl) (λ t. rw t (any_at xs i (omega arith)))
