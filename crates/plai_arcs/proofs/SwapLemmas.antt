-- A row takes the number of another, at both ends.
use Rattle.std.proofs.Common.{◌≡◌, ℕ, zero, suc, ◌+◌, ◌<◌, ◌≤◌, Bool, true, false, cond, nat_eq, List, [], ◌∷◌, length, take, slice_set, slice_index_or, refl}
use Rattle.std.proofs.Common.{sym, ap, ◌∙◌, subst, arith}
use Rattle.std.specs.List.{count_by, swap}
use Rattle.std.proofs.lemmas.Bool.{eqb-true, eq-eqb, ne_eqb}
use Rattle.std.proofs.lemmas.List.{length-set}
use Rattle.plai_arcs.specs.declared.row_calls.RowCalls.{RowCalls}
use Rattle.plai_arcs.specs.declared.callers.Callers.{Callers}
use Rattle.plai_arcs.specs.Links.{AreLinked, calls_at, callers_at, call_count, caller_count, is_pair}
use Rattle.plai_arcs.specs.Moves.{swapped}
use Rattle.plai_arcs.specs.Places.{at}
use Rattle.plai_arcs.proofs.PlaceLemmas.{at_set, at_index, at_past}
use Rattle.plai_arcs.proofs.CountLemmas.{stands_at, pair_itself}

-- the items of a list at the swapped places
module _ {A B : Type 0} (f : A → B) (d : B) where
  swapped_places : (xs : List A) (i j k : ℕ) → cond (nat_eq k j) (at f d xs i) (cond (nat_eq k i) (at f d xs j) (at f d xs k)) ≡ at f d xs (swapped i j k)
  swapped_places xs i j k = by (nat_eq k i) (nat_eq k j) refl refl
    where
      by : (a b : Bool) → nat_eq k i ≡ a → nat_eq k j ≡ b → cond b (at f d xs i) (cond a (at f d xs j) (at f d xs k)) ≡ at f d xs (cond a j (cond b i k))
      by true true e h = ap (λ n. at f d xs n) (sym (eqb-true k i e) ∙ eqb-true k j h)
      by true false e h = refl
      by false true e h = refl
      by false false e h = refl

  pub at_swap : (xs : List A) (i j : ℕ) → i < length xs → j < length xs → (k : ℕ) → at f d (swap xs i j) k ≡ at f d xs (swapped i j k)
  at_swap [] i j h g k = absurd (omega arith)
  at_swap (x ∷ ys) i j h g k =
      at_set f d (slice_set (x ∷ ys) i (slice_index_or (x ∷ ys) j x)) j k (slice_index_or (x ∷ ys) i x)
      (subst (λ n. j < n) (sym (length-set (x ∷ ys) i (slice_index_or (x ∷ ys) j x))) g)
      ∙ ap (λ y. cond (nat_eq k j) (f (slice_index_or (x ∷ ys) i x)) y) (at_set f d (x ∷ ys) i k (slice_index_or (x ∷ ys) j x) h)
      ∙ ap (λ y. cond (nat_eq k j) y (cond (nat_eq k i) (f (slice_index_or (x ∷ ys) j x)) (at f d (x ∷ ys) k))) (sym (at_index f d (x ∷ ys) i x h))
      ∙ ap (λ y. cond (nat_eq k j) (at f d (x ∷ ys) i) (cond (nat_eq k i) y (at f d (x ∷ ys) k))) (sym (at_index f d (x ∷ ys) j x g))
      ∙ swapped_places (x ∷ ys) i j k

  -- where the second place is past the end, and nothing stands at the first
  pub at_no_swap : (xs : List A) (i j : ℕ) → i < j → length xs ≤ j → at f d xs i ≡ d → (k : ℕ) → at f d xs k ≡ at f d xs (swapped i j k)
  at_no_swap xs i j less past none k = by (nat_eq k i) (nat_eq k j) refl refl
    where
      by : (a b : Bool) → nat_eq k i ≡ a → nat_eq k j ≡ b → at f d xs k ≡ at f d xs (cond a j (cond b i k))
      by true b e h = ap (λ n. at f d xs n) (eqb-true k i e) ∙ none ∙ sym (at_past f d xs j past)
      by false true e h = at_past f d xs k (subst (λ n. length xs ≤ n) (sym (eqb-true k j h)) past) ∙ sym none
      by false false e h = refl

-- the names are changed
pub named : (rows mid : List RowCalls) (last row : ℕ) → row < last → ((r c : ℕ) → call_count rows r c row ≡ 0)
    → ((r c q : ℕ) → call_count mid r c q + cond (nat_eq q last) (call_count rows r c last) 0
    ≡ call_count rows r c q + cond (nat_eq q row) (call_count rows r c last) 0)
    → (r c q : ℕ) → call_count mid r c q ≡ call_count rows r c (swapped row last q)
named rows mid last row less of_none names r c q = by (nat_eq q row) (nat_eq q last) refl refl (names r c q)
  where
    by : (a b : Bool) → nat_eq q row ≡ a → nat_eq q last ≡ b
        → call_count mid r c q + cond b (call_count rows r c last) 0 ≡ call_count rows r c q + cond a (call_count rows r c last) 0
        → call_count mid r c q ≡ call_count rows r c (cond a last (cond b row q))
    by true true e h k = absurd (let i : q ≡ row = eqb-true q row e in let j : q ≡ last = eqb-true q last h in omega arith)
    by true false e h k = first (call_count mid r c q) (call_count rows r c q) (call_count rows r c last) k
        (ap (λ n. call_count rows r c n) (eqb-true q row e) ∙ of_none r c)
      where
        first : (a b n : ℕ) → a + 0 ≡ b + n → b ≡ 0 → a ≡ n
        first a b n k e = omega arith
    by false true e h k = second (call_count mid r c q) (call_count rows r c q) (call_count rows r c last) k
        (ap (λ n. call_count rows r c n) (eqb-true q last h)) ∙ sym (of_none r c)
      where
        second : (a b n : ℕ) → a + n ≡ b + 0 → b ≡ n → a ≡ 0
        second a b n k e = omega arith
    by false false e h k = third (call_count mid r c q) (call_count rows r c q) k
      where
        third : (a b : ℕ) → a + 0 ≡ b + 0 → a ≡ b
        third a b k = omega arith

-- a row is renumbered: its calls, as they stand after their names are changed, its list and its callers
module _ (rows mid new : List RowCalls) (callers after : List Callers) (last row : ℕ) (less : row < last) (linked : AreLinked rows callers)
    (by_none : (c q : ℕ) → call_count rows row c q ≡ 0) (of_none : (r c : ℕ) → call_count rows r c row ≡ 0)
    (names : (r c q : ℕ) → call_count mid r c q + cond (nat_eq q last) (call_count rows r c last) 0
    ≡ call_count rows r c q + cond (nat_eq q row) (call_count rows r c last) 0)
    (calls : (r c : ℕ) → calls_at new r c ≡ calls_at mid (swapped row last r) c)
    (ends : (q : ℕ) → callers_at after q ≡ callers_at callers (swapped row last q)) where
  differ : nat_eq last row ≡ false
  differ = ne_eqb last row (λ e. absurd (omega arith))

  differ_too : nat_eq row last ≡ false
  differ_too = ne_eqb row last (λ e. absurd (omega arith))

  pub renumbered : (r c q : ℕ) → call_count new r c q ≡ call_count rows (swapped row last r) c (swapped row last q)
  renumbered r c q = ap (λ xs. count_by (nat_eq q) xs) (calls r c) ∙ named rows mid last row less of_none names (swapped row last r) c q

  swapped_callers : (r c q : ℕ) → caller_count after q r c ≡ call_count rows r c (swapped row last q)
  swapped_callers r c q = ap (λ xs. count_by (is_pair r c) xs) (ends q) ∙ linked.agree r c (swapped row last q)

  at_row : (c q : ℕ) → call_count new row c q ≡ call_count rows last c (swapped row last q)
  at_row c q = renumbered row c q ∙ ap (λ b. call_count rows (cond b last (cond (nat_eq row last) row row)) c (swapped row last q)) (eq-eqb row row refl)

  at_last : (c q : ℕ) → call_count new last c q ≡ 0
  at_last c q = renumbered last c q ∙ ap (λ b. call_count rows (cond b last (cond (nat_eq last last) row last)) c (swapped row last q)) differ
      ∙ ap (λ b. call_count rows (cond b row last) c (swapped row last q)) (eq-eqb last last refl) ∙ by_none c (swapped row last q)

  -- the callers of what the row calls are to be renamed
  pub still_old : (q c : ℕ) → caller_count after q last c ≡ call_count new row c q
  still_old q c = swapped_callers last c q ∙ sym (at_row c q)

  module _ (done : List Callers)
      (renames : (q r c : ℕ) → caller_count done q r c + cond (nat_eq r last) (call_count new row c q) 0
      ≡ caller_count after q r c + cond (nat_eq r row) (call_count new row c q) 0) where
    agrees : (r c q : ℕ) → caller_count done q r c ≡ call_count new r c q
    agrees r c q = by (nat_eq r row) (nat_eq r last) refl refl (renames q r c)
      where
        by : (a b : Bool) → nat_eq r row ≡ a → nat_eq r last ≡ b
            → caller_count done q r c + cond b (call_count new row c q) 0 ≡ caller_count after q r c + cond a (call_count new row c q) 0
            → caller_count done q r c ≡ call_count new r c q
        by true true e h k = absurd (let i : r ≡ row = eqb-true r row e in let j : r ≡ last = eqb-true r last h in omega arith)
        by true false e h k =
            first (caller_count done q r c) (caller_count after q r c) (call_count new row c q) k
            (ap (λ n. caller_count after q n c) (eqb-true r row e) ∙ swapped_callers row c q ∙ by_none c (swapped row last q))
            ∙ ap (λ n. call_count new n c q) (sym (eqb-true r row e))
          where
            first : (a b n : ℕ) → a + 0 ≡ b + n → b ≡ 0 → a ≡ n
            first a b n k e = omega arith
        by false true e h k =
            second (caller_count done q r c) (caller_count after q r c) (call_count new row c q) k
            (ap (λ n. caller_count after q n c) (eqb-true r last h) ∙ still_old q c)
            ∙ sym (ap (λ n. call_count new n c q) (eqb-true r last h) ∙ at_last c q)
          where
            second : (a b n : ℕ) → a + n ≡ b + 0 → b ≡ n → a ≡ 0
            second a b n k e = omega arith
        by false false e h k =
            third (caller_count done q r c) (caller_count after q r c) k ∙ swapped_callers r c q
            ∙ sym (renumbered r c q ∙ ap (λ b. call_count rows (cond b last (cond (nat_eq r last) row r)) c (swapped row last q)) e
            ∙ ap (λ b. call_count rows (cond b row r) c (swapped row last q)) h)
          where
            third : (a b : ℕ) → a + 0 ≡ b + 0 → a ≡ b
            third a b k = omega arith

    pub renumber_linked : AreLinked new done
    renumber_linked = record {
      agree = agrees;
      once =
          λ r c q. subst (λ n. n ≤ 1) (sym (renumbered r c q)) (linked.once (swapped row last r) c (swapped row last q));
    }

-- a list where nothing stands
pub none_listed : (xs : List ℕ) → ((q : ℕ) → count_by (nat_eq q) xs ≡ 0) → xs ≡ []
none_listed [] h = refl
none_listed (x ∷ xs) h = absurd (let some : 0 < count_by (nat_eq x) (x ∷ xs) = stands_at (nat_eq x) (x ∷ xs) 0 x (omega arith) (eq-eqb x x refl) in
    let none : count_by (nat_eq x) (x ∷ xs) ≡ 0 = h x in omega arith)

pub none_paired : (xs : List (ℕ × ℕ)) → ((r c : ℕ) → count_by (is_pair r c) xs ≡ 0) → xs ≡ []
none_paired [] h = refl
none_paired (x ∷ xs) h = absurd (let some : 0 < count_by (is_pair x.0 x.1) (x ∷ xs) =
    stands_at (is_pair x.0 x.1) (x ∷ xs) 0 x (omega arith) (pair_itself x.0 x.1) in let none : count_by (is_pair x.0 x.1) (x ∷ xs) ≡ 0 = h x.0 x.1 in
    omega arith)

pub take_past : {A : Type 0} (xs : List A) (i : ℕ) → length xs ≤ i → take i xs ≡ xs
take_past [] zero h = refl
take_past [] (suc i) h = refl
take_past (x ∷ xs) zero h = absurd (omega arith)
take_past (x ∷ xs) (suc i) h = ap (λ ys. x ∷ ys) (take_past xs i (omega arith))
