-- Clauses that are gained, one after another.
use Rattle.std.proofs.Common.{◌≡◌, ℕ, ◌+◌, ◌<◌, ◌≤◌, Bool, true, false, not, ◌&&◌, ◌||◌, nat_eq, nat_lt, eqb-true, List, length, slice_get, Some}
use Rattle.std.proofs.Common.{sym, refl, ap, ◌∙◌, arith}
use Rattle.std.proofs.lemmas.Bool.{eqb-false}
use Rattle.std.proofs.lemmas.Option.{slice_get_past}
use Rattle.plai_theory.specs.Words.{given}
use Rattle.plai_theory.proofs.Options.{by_test}
use Rattle.plai_clauses.specs.Program.{ProgramView, clauses_of}
use Rattle.plai_clauses.specs.declared.clause.Clause.{Clause}
use Rattle.plai_table.specs.Rows.{TableRow}
use Rattle.plai_fix_rows.proofs.Marked.{less, not_lt, is_less, not_less}
use Rattle.plai_repair.specs.Gained.{is_past, is_gained, gained_at}

pub same_test : (p q : Bool) → (p ≡ true → q ≡ true) → (q ≡ true → p ≡ true) → p ≡ q
same_test true true h k = refl
same_test true false h k = sym (h refl)
same_test false true h k = k refl
same_test false false h k = refl

or_left : (p q : Bool) → p ≡ true → (p || q) ≡ true
or_left true q e = refl
or_left false q e = cc

or_right : (p q : Bool) → q ≡ true → (p || q) ≡ true
or_right true q e = refl
or_right false q e = e

or_cases : {P : Type 0} (p q : Bool) → (p || q) ≡ true → (p ≡ true → P) → (q ≡ true → P) → P
or_cases true q e h k = h refl
or_cases false q e h k = k e

-- what the tests say
pub of_past : (first last k : ℕ) → first < k → k ≤ last → is_past first last k ≡ true
of_past first last k h l =
    let t : nat_lt first k ≡ true = less first k h in
    let u : nat_lt last k ≡ false = not_lt last k l in
    rw (t, u) refl

pub in_past : (first last k : ℕ) → is_past first last k ≡ true → (first < k) × (k ≤ last)
in_past first last k e = tests (nat_lt first k) (nat_lt last k) refl refl e
  where
    tests : (p q : Bool) → nat_lt first k ≡ p → nat_lt last k ≡ q → (p && not q) ≡ true → (first < k) × (k ≤ last)
    tests true true t u e = cc
    tests true false t u e = (is_less first k t, not_less last k u)
    tests false q t u e = cc

past_step : (first clause k : ℕ) → first ≤ clause → (nat_eq k (clause + 1) || is_past first clause k) ≡ is_past first (clause + 1) k
past_step first clause k w =
    same_test (nat_eq k (clause + 1) || is_past first clause k) (is_past first (clause + 1) k)
    (λ e. or_cases (nat_eq k (clause + 1)) (is_past first clause k) e
    (λ t. let s : k ≡ clause + 1 = eqb-true k (clause + 1) t in of_past first (clause + 1) k (omega (arith, s, w)) (omega (arith, s)))
    (λ t. let (h, l) = in_past first clause k t in of_past first (clause + 1) k h (omega (arith, l))))
    (λ e.
    let (h, l) = in_past first (clause + 1) k e in
    by_test (nat_eq k (clause + 1)) (λ t. or_left (nat_eq k (clause + 1)) (is_past first clause k) t)
    (λ t.
    let other : k ≡ clause + 1 → ⊥ = eqb-false k (clause + 1) t in
    or_right (nat_eq k (clause + 1)) (is_past first clause k) (of_past first clause k h (omega (arith, l, other)))))

one_row : (a x y n z l : Bool) → l ≡ ((a && y) || z) → (x || y) ≡ n → ((a && x) || l) ≡ ((a && n) || z)
one_row true true y n z l e f = ap (λ w. w || z) f
one_row true false y n z l e f = e ∙ ap (λ w. w || z) f
one_row false x y n z l e f = e

pub past_more : (row first clause r k : ℕ) (new old before : Bool) → first ≤ clause → new ≡ ((nat_eq r row && nat_eq k (clause + 1)) || old)
    → old ≡ ((nat_eq r row && is_past first clause k) || before)
    → new ≡ ((nat_eq r row && is_past first (clause + 1) k) || before)
past_more row first clause r k new old before w e f =
    e ∙ one_row (nat_eq r row) (nat_eq k (clause + 1)) (is_past first clause k) (is_past first (clause + 1) k) before old f (past_step first clause k w)

-- no number is past the first, up to the first or one below
pub past_none : (first last k : ℕ) → last ≤ first → is_past first last k ≡ false
past_none first last k w =
    by_test (is_past first last k) (λ t. let (h, l) = in_past first last k t in absurd (omega (arith, h, l, w))) (λ t. t)

pub past_first : (row first r k : ℕ) (old : Bool) → old ≡ ((nat_eq r row && is_past first first k) || old)
past_first row first r k old = sym (ap (λ t. (nat_eq r row && t) || old) (past_none first first k (omega arith)) ∙ plain (nat_eq r row) old)
  where
    plain : (a b : Bool) → ((a && false) || b) ≡ b
    plain true b = refl
    plain false b = refl

-- all up to the last are seen
pub past_all : (first clause last k : ℕ) → first ≤ clause → (first ≤ last → clause ≤ last) → (last < first → clause ≡ first) → last ≤ clause
    → is_past first clause k ≡ is_past first last k
past_all first clause last k w h early e =
    by_test (nat_lt last first)
    (λ t.
    let l = is_less last first t in let same = early l in
    past_none first clause k (omega (arith, same)) ∙ sym (past_none first last k (omega (arith, l))))
    (λ t.
    let l = not_less last first t in let m = h l in
    let same : clause ≡ last = omega (arith, m, e) in ap (λ n. is_past first n k) same)

module _ {V : Type 0} (before after : ProgramView) (rows : List (TableRow V)) where
  -- the row has one of the first numbers, and the clause is one that its predicate gained
  abbrev pub gained_below : ℕ → ℕ → ℕ → Bool
  gained_below bound n c = nat_lt n bound && gained_at before after rows n c

  pub gained_row : (row r c : ℕ) (q : TableRow V) (old new : List Clause) → slice_get rows row ≡ Some q → old ≡ clauses_of before q.name.pred
      → new ≡ clauses_of after q.name.pred
      → (nat_eq r row && is_past (length old) (length new) c) ≡ (nat_eq r row && gained_at before after rows r c)
  gained_row row r c q old new at e f =
      by_test (nat_eq r row)
      (λ t.
      let is : r ≡ row = eqb-true r row t in
      let here : is_past (length old) (length new) c ≡ is_gained before after q.name.pred c =
      ap (λ (xs : List Clause). is_past (length xs) (length new) c) e
      ∙ ap (λ (xs : List Clause). is_past (length (clauses_of before q.name.pred)) (length xs) c) f in
      let there : gained_at before after rows r c ≡ is_gained before after q.name.pred c =
      ap (λ (n : ℕ). gained_at before after rows n c) is ∙ ap (given false (λ (z : TableRow V). is_gained before after z.name.pred c)) at in
      ap (λ b. nat_eq r row && b) (here ∙ sym there))
      (λ t. rw t refl)

  pub below_first : (r c : ℕ) (old : Bool) → old ≡ (gained_below 0 r c || old)
  below_first r c old = let t : nat_lt r 0 ≡ false = not_lt r 0 (omega arith) in rw t refl

  pub below_more : (row r c : ℕ) (new old was : Bool) → new ≡ ((nat_eq r row && gained_at before after rows r c) || old)
      → old ≡ (gained_below row r c || was) → new ≡ (gained_below (row + 1) r c || was)
  below_more row r c new old was e f =
      e ∙ joined (nat_eq r row) (nat_lt r row) (nat_lt r (row + 1)) (gained_at before after rows r c) old was f step
    where
      step : (nat_eq r row || nat_lt r row) ≡ nat_lt r (row + 1)
      step =
          same_test (nat_eq r row || nat_lt r row) (nat_lt r (row + 1))
          (λ e. or_cases (nat_eq r row) (nat_lt r row) e
          (λ t. let s : r ≡ row = eqb-true r row t in less r (row + 1) (omega (arith, s)))
          (λ t. let l = is_less r row t in less r (row + 1) (omega (arith, l))))
          (λ e.
          let l = is_less r (row + 1) e in
          by_test (nat_eq r row) (λ t. or_left (nat_eq r row) (nat_lt r row) t)
          (λ t. let other : r ≡ row → ⊥ = eqb-false r row t in or_right (nat_eq r row) (nat_lt r row) (less r row (omega (arith, l, other)))))

      joined : (a l n g old was : Bool) → old ≡ ((l && g) || was) → (a || l) ≡ n → ((a && g) || old) ≡ ((n && g) || was)
      joined true l n true old was e f = ap (λ w. (w && true) || was) f
      joined true true n false old was e f = e ∙ ap (λ w. (w && false) || was) f
      joined true false n false old was e f = e ∙ ap (λ w. (w && false) || was) f
      joined false l n g old was e f = e ∙ ap (λ w. (w && g) || was) f

  pub below_all : (bound r c : ℕ) → length rows ≤ bound → gained_below bound r c ≡ gained_at before after rows r c
  below_all bound r c h =
      by_test (nat_lt r bound) (λ t. rw t refl)
      (λ t.
      let l = not_less r bound t in
      ap (λ b. b && gained_at before after rows r c) t
      ∙ sym (ap (given false (λ (z : TableRow V). is_gained before after z.name.pred c)) (slice_get_past rows r (omega (arith, h, l)))))
