-- Rows under other numbers, at both ends.
use Rattle.std.proofs.Common.{◌≡◌, ℕ, ◌+◌, ◌<◌, ◌≤◌, ◌≢◌, ◌⊎◌, inl, inr, Bool, true, false, cond, ◌&&◌, nat_eq, nat_lt, List, length, take, slice_set}
use Rattle.std.proofs.Common.{slice_index_or, refl, sym, ap, ◌∙◌, subst, arith}
use Rattle.std.specs.List.{count_by}
use Rattle.std.proofs.lemmas.Bool.{eqb-true, eq-eqb}
use Rattle.std.proofs.lemmas.List.Sums.{sum_by-take-le}
use Rattle.plai_arcs.specs.declared.row_calls.RowCalls.{RowCalls}
use Rattle.plai_arcs.specs.declared.callers.Callers.{Callers}
use Rattle.plai_arcs.specs.Links.{calls_at, callers_at, call_count, caller_count, is_pair, one_if}
use Rattle.plai_arcs.specs.Places.{at}
use Rattle.plai_arcs.proofs.CountLemmas.{pair_itself, pair_is, row_is, count_more, count_renamed}
use Rattle.plai_arcs.proofs.CutLemmas.{and_true, stays, true_false, below_or_past}

-- one more item is renamed: b, it is renamed here; o and w, it is looked at under the old and under the new name
pub renamed_more : (b o w : Bool) (new old init n : ℕ) → new + one_if (b && o) ≡ old + one_if (b && w) → old + cond o n 0 ≡ init + cond w n 0
    → new + cond o (n + one_if b) 0 ≡ init + cond w (n + one_if b) 0
renamed_more true true true new old init n h k = omega arith
renamed_more true true false new old init n h k = omega arith
renamed_more true false true new old init n h k = omega arith
renamed_more true false false new old init n h k = omega arith
renamed_more false true true new old init n h k = omega arith
renamed_more false true false new old init n h k = omega arith
renamed_more false false true new old init n h k = omega arith
renamed_more false false false new old init n h k = omega arith

still_some : (n k init w total : ℕ) → n + k ≡ init + w → init ≡ total → k + 1 ≤ total → 0 < n
still_some n k init w total e f h = omega arith

-- one more of a list is within it
one_of : {T : Type 0} (t : T → Bool) (xs : List T) (i : ℕ) (d : T) → i < length xs → t (slice_index_or xs i d) ≡ true
    → count_by t (take i xs) + 1 ≤ count_by t xs
one_of t xs i d h e =
    let more : count_by t (take (i + 1) xs) ≡ count_by t (take i xs) + one_if (t (slice_index_or xs i d)) = count_more t xs i d h in
    let one : one_if (t (slice_index_or xs i d)) ≡ 1 = ap one_if e in
    let less : count_by t (take (i + 1) xs) ≤ count_by t xs = sum_by-take-le (λ y. one_if (t y)) xs (i + 1) in
    within (count_by t (take (i + 1) xs)) (count_by t (take i xs)) (one_if (t (slice_index_or xs i d))) (count_by t xs) more one less
  where
    within : (a b x m : ℕ) → a ≡ b + x → x ≡ 1 → a ≤ m → b + 1 ≤ m
    within a b x m e f h = omega arith

-- a call under another name
call_renamed : (rows new : List RowCalls) (r' c' last row j : ℕ)
    → ((r c : ℕ) → calls_at new r c ≡ cond (nat_eq r r' && nat_eq c c') (slice_set (calls_at rows r c) j row) (calls_at rows r c))
    → at (nat_eq last) false (calls_at rows r' c') j ≡ true
    → (r c q : ℕ) → call_count new r c q + one_if ((nat_eq r r' && nat_eq c c') && nat_eq q last)
    ≡ call_count rows r c q + one_if ((nat_eq r r' && nat_eq c c') && nat_eq q row)
call_renamed rows new r' c' last row j items found r c q = by (nat_eq r r' && nat_eq c c') refl (items r c)
  where
    here : (nat_eq r r' && nat_eq c c') ≡ true → at (nat_eq last) false (calls_at rows r c) j ≡ true
    here h =
        let p : (nat_eq r r' ≡ true) × (nat_eq c c' ≡ true) = and_true (nat_eq r r') (nat_eq c c') h in
        ap (λ n. at (nat_eq last) false (calls_at rows n c) j) (eqb-true r r' p.0)
        ∙ ap (λ n. at (nat_eq last) false (calls_at rows r' n) j) (eqb-true c c' p.1) ∙ found

    by : (b : Bool) → (nat_eq r r' && nat_eq c c') ≡ b → calls_at new r c ≡ cond b (slice_set (calls_at rows r c) j row) (calls_at rows r c)
        → call_count new r c q + one_if (b && nat_eq q last) ≡ call_count rows r c q + one_if (b && nat_eq q row)
    by true e h = ap (λ xs. count_by (nat_eq q) xs + one_if (nat_eq q last)) h ∙ count_renamed nat_eq row_is (nat_eq q) last row (calls_at rows r c) j (here e)
    by false e h = ap (λ xs. count_by (nat_eq q) xs + 0) h

-- a caller under another name
caller_renamed : (callers after : List Callers) (q' last row clause j : ℕ)
    → ((q : ℕ) → callers_at after q ≡ cond (nat_eq q q') (slice_set (callers_at callers q) j (row, clause)) (callers_at callers q))
    → at (is_pair last clause) false (callers_at callers q') j ≡ true
    → (q r c : ℕ) → caller_count after q r c + one_if (nat_eq q q' && (nat_eq r last && nat_eq c clause))
    ≡ caller_count callers q r c + one_if (nat_eq q q' && (nat_eq r row && nat_eq c clause))
caller_renamed callers after q' last row clause j items found q r c = by (nat_eq q q') refl (items q)
  where
    here : nat_eq q q' ≡ true → at (is_pair last clause) false (callers_at callers q) j ≡ true
    here h = ap (λ n. at (is_pair last clause) false (callers_at callers n) j) (eqb-true q q' h) ∙ found

    by : (b : Bool) → nat_eq q q' ≡ b → callers_at after q ≡ cond b (slice_set (callers_at callers q) j (row, clause)) (callers_at callers q)
        → caller_count after q r c + one_if (b && (nat_eq r last && nat_eq c clause))
        ≡ caller_count callers q r c + one_if (b && (nat_eq r row && nat_eq c clause))
    by true e h = ap (λ xs. count_by (is_pair r c) xs + one_if (nat_eq r last && nat_eq c clause)) h
        ∙ count_renamed (λ (p : ℕ × ℕ). is_pair p.0 p.1) pair_is (is_pair r c) (last, clause) (row, clause) (callers_at callers q) j (here e)
    by false e h = ap (λ xs. count_by (is_pair r c) xs + 0) h

-- The calls by the first i of these pairs are renamed.
abbrev pub AreNamed : List RowCalls → List RowCalls → List (ℕ × ℕ) → ℕ → ℕ → ℕ → Type 0
AreNamed init rows ends last row i = (r c q : ℕ)
    → call_count rows r c q + cond (nat_eq q last) (count_by (is_pair r c) (take i ends)) 0
    ≡ call_count init r c q + cond (nat_eq q row) (count_by (is_pair r c) (take i ends)) 0

-- The callers of the first i of these rows are renamed.
abbrev pub AreRenamed : List Callers → List Callers → List ℕ → ℕ → ℕ → ℕ → ℕ → Type 0
AreRenamed init callers rows last row clause i = (q r c : ℕ)
    → caller_count callers q r c + cond (nat_eq r last && nat_eq c clause) (count_by (nat_eq q) (take i rows)) 0
    ≡ caller_count init q r c + cond (nat_eq r row && nat_eq c clause) (count_by (nat_eq q) (take i rows)) 0

pub none_named : (init : List RowCalls) (ends : List (ℕ × ℕ)) (last row : ℕ) → AreNamed init init ends last row 0
none_named init ends last row r c q = ap (λ n. call_count init r c q + n) (stays (nat_eq q last) 0 ∙ sym (stays (nat_eq q row) 0))

pub none_renamed : (init : List Callers) (rows : List ℕ) (last row clause : ℕ) → AreRenamed init init rows last row clause 0
none_renamed init rows last row clause q r c =
    ap (λ n. caller_count init q r c + n) (stays (nat_eq r last && nat_eq c clause) 0 ∙ sym (stays (nat_eq r row && nat_eq c clause) 0))

module _ (init rows : List RowCalls) (ends : List (ℕ × ℕ)) (last row i : ℕ) (inside : i < length ends) (so_far : AreNamed init rows ends last row i) where
  pub still_named : ((r c : ℕ) → call_count init r c last ≡ count_by (is_pair r c) ends)
      → 0 < call_count rows (slice_index_or ends i (0, 0)).0 (slice_index_or ends i (0, 0)).1 last
  still_named whole =
      let r = (slice_index_or ends i (0, 0)).0 in
      let c = (slice_index_or ends i (0, 0)).1 in
      still_some (call_count rows r c last) (count_by (is_pair r c) (take i ends)) (call_count init r c last)
      (cond (nat_eq last row) (count_by (is_pair r c) (take i ends)) 0) (count_by (is_pair r c) ends)
      (ap (λ b. call_count rows r c last + cond b (count_by (is_pair r c) (take i ends)) 0) (sym (eq-eqb last last refl)) ∙ so_far r c last)
      (whole r c) (one_of (is_pair r c) ends i (0, 0) inside (pair_itself r c))

  pub named_more : (new : List RowCalls) (j : ℕ)
      → ((r c : ℕ) → calls_at new r c ≡ cond (nat_eq r (slice_index_or ends i (0, 0)).0 && nat_eq c (slice_index_or ends i (0, 0)).1)
      (slice_set (calls_at rows r c) j row) (calls_at rows r c))
      → at (nat_eq last) false (calls_at rows (slice_index_or ends i (0, 0)).0 (slice_index_or ends i (0, 0)).1) j ≡ true
      → AreNamed init new ends last row (i + 1)
  named_more new j items found r c q =
      subst (λ n. call_count new r c q + cond (nat_eq q last) n 0 ≡ call_count init r c q + cond (nat_eq q row) n 0)
      (sym (count_more (is_pair r c) ends i (0, 0) inside))
      (renamed_more (is_pair r c (slice_index_or ends i (0, 0))) (nat_eq q last) (nat_eq q row) (call_count new r c q) (call_count rows r c q)
      (call_count init r c q) (count_by (is_pair r c) (take i ends))
      (call_renamed rows new (slice_index_or ends i (0, 0)).0 (slice_index_or ends i (0, 0)).1 last row j items found r c q) (so_far r c q))

module _ (init callers : List Callers) (rows : List ℕ) (last row clause i : ℕ) (inside : i < length rows)
    (so_far : AreRenamed init callers rows last row clause i) where
  pub still_caller : ((q : ℕ) → caller_count init q last clause ≡ count_by (nat_eq q) rows) → 0 < caller_count callers (slice_index_or rows i 0) last clause
  still_caller whole =
      let q = slice_index_or rows i 0 in
      still_some (caller_count callers q last clause) (count_by (nat_eq q) (take i rows)) (caller_count init q last clause)
      (cond (nat_eq last row && nat_eq clause clause) (count_by (nat_eq q) (take i rows)) 0) (count_by (nat_eq q) rows)
      (ap (λ b. caller_count callers q last clause + cond b (count_by (nat_eq q) (take i rows)) 0) (sym (pair_itself last clause)) ∙ so_far q last clause)
      (whole q) (one_of (nat_eq q) rows i 0 inside (eq-eqb q q refl))

  pub renamed_next : (after : List Callers) (j : ℕ)
      → ((q : ℕ) → callers_at after q ≡ cond (nat_eq q (slice_index_or rows i 0)) (slice_set (callers_at callers q) j (row, clause)) (callers_at callers q))
      → at (is_pair last clause) false (callers_at callers (slice_index_or rows i 0)) j ≡ true
      → AreRenamed init after rows last row clause (i + 1)
  renamed_next after j items found q r c =
      subst (λ n. caller_count after q r c + cond (nat_eq r last && nat_eq c clause) n 0 ≡ caller_count init q r c + cond (nat_eq r row && nat_eq c clause) n 0)
      (sym (count_more (nat_eq q) rows i 0 inside))
      (renamed_more (nat_eq q (slice_index_or rows i 0)) (nat_eq r last && nat_eq c clause) (nat_eq r row && nat_eq c clause) (caller_count after q r c)
      (caller_count callers q r c) (caller_count init q r c) (count_by (nat_eq q) (take i rows))
      (caller_renamed callers after (slice_index_or rows i 0) last row clause j items found q r c) (so_far q r c))

-- clause after clause
pub clauses_renamed : (e o w : Bool) (new old init m n n' k : ℕ) → (e ≡ true → (m ≡ 0) × (n' ≡ n) × (k ≡ n)) → (e ≡ false → n' ≡ m)
    → new + cond (o && e) k 0 ≡ old + cond (w && e) k 0 → old + cond o m 0 ≡ init + cond w m 0 → new + cond o n' 0 ≡ init + cond w n' 0
clauses_renamed true true true new old init m n n' k h g step so_far = let x : (m ≡ 0) × (n' ≡ n) × (k ≡ n) = h refl in omega (arith, x.0, x.1, x.2)
clauses_renamed true true false new old init m n n' k h g step so_far = let x : (m ≡ 0) × (n' ≡ n) × (k ≡ n) = h refl in omega (arith, x.0, x.1, x.2)
clauses_renamed true false true new old init m n n' k h g step so_far = let x : (m ≡ 0) × (n' ≡ n) × (k ≡ n) = h refl in omega (arith, x.0, x.1, x.2)
clauses_renamed true false false new old init m n n' k h g step so_far = omega arith
clauses_renamed false true true new old init m n n' k h g step so_far = let x : n' ≡ m = g refl in omega arith
clauses_renamed false true false new old init m n n' k h g step so_far = let x : n' ≡ m = g refl in omega arith
clauses_renamed false false true new old init m n n' k h g step so_far = let x : n' ≡ m = g refl in omega arith
clauses_renamed false false false new old init m n n' k h g step so_far = omega arith

pub not_below_itself : (c : ℕ) → nat_lt c c ≡ false
not_below_itself c = grind arith

pub below_next : (c : ℕ) → nat_lt c (c + 1) ≡ true
below_next c = grind arith

pub below_same : (c k : ℕ) → c ≢ k → nat_lt c (k + 1) ≡ nat_lt c k
below_same c k h = grind arith

pub below : (c k : ℕ) → c < k → nat_lt c k ≡ true
below c k h = grind arith

pub still_same : (a b t : Bool) (x y n : ℕ) → t ≡ false → x + cond a (cond t n 0) 0 ≡ y + cond b (cond t n 0) 0 → x ≡ y
still_same a b true x y n e h = cc
still_same true true false x y n e h = omega arith
still_same true false false x y n e h = omega arith
still_same false true false x y n e h = omega arith
still_same false false false x y n e h = omega arith

pub renamed_clause : (calls : List RowCalls) (row last clause q r k new old init : ℕ)
    → new + cond (nat_eq r last && nat_eq k clause) (call_count calls row clause q) 0
    ≡ old + cond (nat_eq r row && nat_eq k clause) (call_count calls row clause q) 0
    → old + cond (nat_eq r last) (cond (nat_lt k clause) (call_count calls row k q) 0) 0
    ≡ init + cond (nat_eq r row) (cond (nat_lt k clause) (call_count calls row k q) 0) 0
    → new + cond (nat_eq r last) (cond (nat_lt k (clause + 1)) (call_count calls row k q) 0) 0
    ≡ init + cond (nat_eq r row) (cond (nat_lt k (clause + 1)) (call_count calls row k q) 0) 0
renamed_clause calls row last clause q r k new old init step so_far =
    clauses_renamed (nat_eq k clause) (nat_eq r last) (nat_eq r row) new old init (cond (nat_lt k clause) (call_count calls row k q) 0)
    (call_count calls row k q) (cond (nat_lt k (clause + 1)) (call_count calls row k q) 0) (call_count calls row clause q)
    (λ e. (
      ap (λ t. cond t (call_count calls row k q) 0) (ap (λ j. nat_lt j clause) (eqb-true k clause e) ∙ not_below_itself clause),
      ap (λ t. cond t (call_count calls row k q) 0) (ap (λ j. nat_lt j (clause + 1)) (eqb-true k clause e) ∙ below_next clause),
      ap (λ j. call_count calls row j q) (sym (eqb-true k clause e)),
    ))
    (λ e. ap (λ t. cond t (call_count calls row k q) 0) (below_same k clause (λ i. true_false (sym (eq-eqb k clause i) ∙ e))))
    step so_far

pub covered : (k m n : ℕ) → (m ≤ k → n ≡ 0) → cond (nat_lt k m) n 0 ≡ n
covered k m n h = by (below_or_past k m)
  where
    by : (k < m) ⊎ (m ≤ k) → cond (nat_lt k m) n 0 ≡ n
    by (inl g) = ap (λ t. cond t n 0) (below k m g)
    by (inr g) = ap (λ x. cond (nat_lt k m) x 0) (h g) ∙ stays (nat_lt k m) 0 ∙ sym (h g)
