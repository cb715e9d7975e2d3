-- One more mark.
use Rattle.std.proofs.Common.{◌≡◌, ℕ, ◌+◌, ◌<◌, ◌≤◌, Bool, true, false, not, ◌&&◌, ◌||◌, nat_eq, nat_lt, eqb-true, List, length, take, get_or, sym, refl, ap}
use Rattle.std.proofs.Common.{◌∙◌, arith}
use Rattle.std.specs.List.{list_any}
use Rattle.std.proofs.lemmas.Bool.{eqb-false}
use Rattle.std.proofs.lemmas.Bool.Decides.{nat_tests}
use Rattle.std.proofs.lemmas.List.Folds.{list_any_more}
use Rattle.plai_theory.proofs.Options.{by_test}
use Rattle.plai_arcs.specs.Links.{is_pair}
use Rattle.plai_fix_rows.specs.Marks.{is_number}

or_both : (x y z : Bool) → (x || (y || z)) ≡ ((x || y) || z)
or_both true y z = refl
or_both false y z = refl

or_turn : (x y z : Bool) → (x || (y || z)) ≡ ((y || x) || z)
or_turn true true z = refl
or_turn true false z = refl
or_turn false true z = refl
or_turn false false z = refl

same_test : (p q : Bool) → (p ≡ true → q ≡ true) → (q ≡ true → p ≡ true) → p ≡ q
same_test true true h k = refl
same_test true false h k = sym (h refl)
same_test false true h k = k refl
same_test false false h k = refl

or_left : (p q : Bool) → p ≡ true → (p || q) ≡ true
or_left true q e = refl
or_left false q e = cc

or_right : (p q : Bool) → q ≡ true → (p || q) ≡ true
or_right true q e = refl
or_right false q e = e

or_cases : {P : Type 0} (p q : Bool) → (p || q) ≡ true → (p ≡ true → P) → (q ≡ true → P) → P
or_cases true q e h k = h refl
or_cases false q e h k = k e

both : (p q : Bool) → (p && q) ≡ true → (p ≡ true) × (q ≡ true)
both true q e = (refl, e)
both false q e = cc

pub less : (a b : ℕ) → a < b → nat_lt a b ≡ true
less a b h = grind (arith, nat_tests)

pub not_lt : (a b : ℕ) → b ≤ a → nat_lt a b ≡ false
not_lt a b h = grind (arith, nat_tests)

pub is_less : (a b : ℕ) → nat_lt a b ≡ true → a < b
is_less a b e = grind (arith, nat_tests)

pub not_less : (a b : ℕ) → nat_lt a b ≡ false → b ≤ a
not_less a b e = grind (arith, nat_tests)

pub of_range : (last k : ℕ) → 0 < k → k ≤ last → is_number last k ≡ true
of_range last k h l =
    let t : nat_lt 0 k ≡ true = less 0 k h in
    let u : nat_lt last k ≡ false = not_lt last k l in
    rw (t, u) refl

pub in_range : (last k : ℕ) → is_number last k ≡ true → (0 < k) × (k ≤ last)
in_range last k e =
    let (t, u) = both (nat_lt 0 k) (not (nat_lt last k)) e in (
      is_less 0 k t,
      by_test (nat_lt last k) (λ v. let l : false ≡ true = rw v at u in cc) (not_less last k),
    )

number_step : (last k : ℕ) → (nat_eq k (last + 1) || is_number last k) ≡ is_number (last + 1) k
number_step last k =
    same_test (nat_eq k (last + 1) || is_number last k) (is_number (last + 1) k)
    (λ e. or_cases (nat_eq k (last + 1)) (is_number last k) e
    (λ t. let s : k ≡ last + 1 = eqb-true k (last + 1) t in of_range (last + 1) k (omega arith) (omega arith))
    (λ t. let (h, l) = in_range last k t in of_range (last + 1) k h (omega arith)))
    (λ e.
    let (h, l) = in_range (last + 1) k e in
    by_test (nat_eq k (last + 1)) (or_left (nat_eq k (last + 1)) (is_number last k))
    (λ t.
    let other : k ≡ last + 1 → ⊥ = eqb-false k (last + 1) t in
    let m : k ≤ last = by_lt (nat_lt last k) refl other l in
    or_right (nat_eq k (last + 1)) (is_number last k) (of_range last k h m)))
  where
    by_lt : (b : Bool) → nat_lt last k ≡ b → (k ≡ last + 1 → ⊥) → k ≤ last + 1 → k ≤ last
    by_lt true e other l = let h : last < k = is_less last k e in absurd (other (omega arith))
    by_lt false e other l = not_less last k e

one_row : (a x y n z l : Bool) → l ≡ ((a && y) || z) → (x || y) ≡ n → ((a && x) || l) ≡ ((a && n) || z)
one_row true x y n z l e f = ap (λ w. x || w) e ∙ or_both x y z ∙ ap (λ w. w || z) f
one_row false x y n z l e f = e

pub clauses_more : (row last r k : ℕ) (new old before : Bool) → new ≡ ((nat_eq r row && nat_eq k (last + 1)) || old)
    → old ≡ ((nat_eq r row && is_number last k) || before)
    → new ≡ ((nat_eq r row && is_number (last + 1) k) || before)
clauses_more row last r k new old before e f =
    e ∙ one_row (nat_eq r row) (nat_eq k (last + 1)) (is_number last k) (is_number (last + 1) k) before old f (number_step last k)

pub pairs_more : (pairs : List (ℕ × ℕ)) (i : ℕ) (d : ℕ × ℕ) (r k : ℕ) (new old before : Bool) → i < length pairs → new ≡ (is_pair r k (get_or pairs i d) || old)
    → old ≡ (list_any (is_pair r k) (take i pairs) || before) → new ≡ (list_any (is_pair r k) (take (i + 1) pairs) || before)
pairs_more pairs i d r k new old before h e f =
    e ∙ ap (λ w. is_pair r k (get_or pairs i d) || w) f ∙ or_turn (is_pair r k (get_or pairs i d)) (list_any (is_pair r k) (take i pairs)) before
    ∙ ap (λ w. w || before) (sym (list_any_more (is_pair r k) pairs i d h))
