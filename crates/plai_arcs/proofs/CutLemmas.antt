-- Calls taken away at both ends.
use Rattle.std.proofs.Common.{◌≡◌, ℕ, zero, suc, ◌+◌, ◌<◌, ◌≤◌, ◌≢◌, ◌⊎◌, inl, inr, Bool, true, false, cond, ◌&&◌, nat_eq, Option, None, Some, IfNone, List}
use Rattle.std.proofs.Common.{[], length, refl, sym, ap, ◌∙◌, subst, add-zero, arith}
use Rattle.std.specs.List.{count_by, swap_remove}
use Rattle.std.proofs.lemmas.Bool.{eqb-true, eq-eqb}
use Rattle.plai_arcs.specs.declared.row_calls.RowCalls.{RowCalls}
use Rattle.plai_arcs.specs.declared.callers.Callers.{Callers}
use Rattle.plai_arcs.specs.Links.{AreLinked, calls_at, callers_at, call_count, caller_count, is_pair, one_if}
use Rattle.plai_arcs.specs.Places.{at}
use Rattle.plai_arcs.proofs.CountLemmas.{count_all, count_taken, row_is, pair_is}

pub same_less : (a b m n x y : ℕ) → a + x ≡ m → b + y ≡ n → x ≡ y → m ≡ n → a ≡ b
same_less a b m n x y h k e f = omega arith

pub less_once : (a m x : ℕ) → a + x ≡ m → m ≤ 1 → a ≤ 1
less_once a m x h k = omega arith

pub other_way : (a b : Bool) → one_if (a && b) ≡ one_if (b && a)
other_way true true = refl
other_way true false = refl
other_way false true = refl
other_way false false = refl

-- what is taken at a place leaves the others
pub others_stay : (b t : Bool) (a m : ℕ) → a + one_if (b && t) ≡ m → cond b 0 a ≡ cond b 0 m
others_stay true t a m h = refl
others_stay false t a m h = omega arith

pub others_stay_too : (b t : Bool) (a m : ℕ) → a + one_if (t && b) ≡ m → cond b 0 a ≡ cond b 0 m
others_stay_too b t a m h = others_stay b t a m (ap (λ n. a + n) (other_way b t) ∙ h)

-- none is left at a place
pub none_left : (b : Bool) (a m : ℕ) → (b ≡ true → a ≡ 0) → cond b 0 a ≡ cond b 0 m → a ≡ cond b 0 m
none_left true a m none same = none refl
none_left false a m none same = same

pub and_true : (a b : Bool) → (a && b) ≡ true → (a ≡ true) × (b ≡ true)
and_true true true h = (refl, refl)
and_true true false h = cc
and_true false b h = cc

-- a clause of a row that calls none
pub none_called : (rows : List RowCalls) (row clause : ℕ) → calls_at rows row clause ≡ [] → (r c q : ℕ) → (nat_eq r row && nat_eq c clause) ≡ true
    → call_count rows r c q ≡ 0
none_called rows row clause e r c q h =
    let t : (nat_eq r row ≡ true) × (nat_eq c clause ≡ true) = and_true (nat_eq r row) (nat_eq c clause) h in
    ap (λ n. call_count rows n c q) (eqb-true r row t.0) ∙ ap (λ n. call_count rows row n q) (eqb-true c clause t.1) ∙ ap (λ xs. count_by (nat_eq q) xs) e

pub smaller : (n m x : ℕ) → n + x ≡ m → x ≡ 1 → n < m
smaller n m x h e = omega arith

pub itself : (a b : ℕ) → one_if ((nat_eq a a && nat_eq b b) && true) ≡ 1
itself a b = ap (λ t. one_if ((t && nat_eq b b) && true)) (eq-eqb a a refl) ∙ ap (λ t. one_if (t && true)) (eq-eqb b b refl)

pub itself_too : (a : ℕ) → one_if (nat_eq a a && true) ≡ 1
itself_too a = ap (λ t. one_if (t && true)) (eq-eqb a a refl)

module _ (rows new : List RowCalls) (callers after : List Callers) (row clause called : ℕ)
    (calls : (r c : ℕ) (t : ℕ → Bool) → count_by t (calls_at new r c) + one_if ((nat_eq r row && nat_eq c clause) && t called) ≡ count_by t (calls_at rows r c))
    (ends : (q : ℕ) (t : ℕ × ℕ → Bool) → count_by t (callers_at after q) + one_if (nat_eq q called && t (row, clause))
    ≡ count_by t (callers_at callers q)) where
  pub cut_linked : AreLinked rows callers → AreLinked new after
  cut_linked linked = record {
    agree = λ r c q. same_less (caller_count after q r c) (call_count new r c q) (caller_count callers q r c) (call_count rows r c q)
        (one_if (nat_eq q called && (nat_eq r row && nat_eq c clause))) (one_if ((nat_eq r row && nat_eq c clause) && nat_eq q called))
        (ends q (is_pair r c)) (calls r c (nat_eq q)) (other_way (nat_eq q called) (nat_eq r row && nat_eq c clause)) (linked.agree r c q);
    once = λ r c q. less_once (call_count new r c q) (call_count rows r c q) (one_if ((nat_eq r row && nat_eq c clause) && nat_eq q called))
        (calls r c (nat_eq q)) (linked.once r c q);
  }

  -- one fewer stands in each of the two lists
  pub fewer_calls : length (calls_at new row clause) < length (calls_at rows row clause)
  fewer_calls = smaller (length (calls_at new row clause)) (length (calls_at rows row clause)) (one_if ((nat_eq row row && nat_eq clause clause) && true))
      (ap (λ n. n + one_if ((nat_eq row row && nat_eq clause clause) && true)) (sym (count_all (calls_at new row clause)))
      ∙ calls row clause (λ (x : ℕ). true) ∙ count_all (calls_at rows row clause)) (itself row clause)

  pub fewer_callers : length (callers_at after called) < length (callers_at callers called)
  fewer_callers = smaller (length (callers_at after called)) (length (callers_at callers called)) (one_if (nat_eq called called && true))
      (ap (λ n. n + one_if (nat_eq called called && true)) (sym (count_all (callers_at after called))) ∙ ends called (λ (x : ℕ × ℕ). true)
      ∙ count_all (callers_at callers called)) (itself_too called)

-- a mark changes no list and takes no room
pub stays : {A : Type 0} (b : Bool) (x : A) → cond b x x ≡ x
stays true x = refl
stays false x = refl

pub takes_none : (b : Bool) (m n : ℕ) → m ≤ n + cond b 0 0 → m ≤ n
takes_none true m n h = omega arith
takes_none false m n h = omega arith

-- a call is taken from the list of its clause
pub call_cut : (rows new : List RowCalls) (row clause called i : ℕ)
    → ((r c : ℕ) → calls_at new r c ≡ cond (nat_eq r row && nat_eq c clause) (swap_remove (calls_at rows r c) i called) (calls_at rows r c))
    → at (nat_eq called) false (calls_at rows row clause) i ≡ true
    → (r c : ℕ) (t : ℕ → Bool) → count_by t (calls_at new r c) + one_if ((nat_eq r row && nat_eq c clause) && t called) ≡ count_by t (calls_at rows r c)
call_cut rows new row clause called i items found r c t = by (nat_eq r row && nat_eq c clause) refl (items r c)
  where
    here : (nat_eq r row && nat_eq c clause) ≡ true → at (nat_eq called) false (calls_at rows r c) i ≡ true
    here h =
        let p : (nat_eq r row ≡ true) × (nat_eq c clause ≡ true) = and_true (nat_eq r row) (nat_eq c clause) h in
        ap (λ n. at (nat_eq called) false (calls_at rows n c) i) (eqb-true r row p.0)
        ∙ ap (λ n. at (nat_eq called) false (calls_at rows row n) i) (eqb-true c clause p.1) ∙ found

    by : (b : Bool) → (nat_eq r row && nat_eq c clause) ≡ b → calls_at new r c ≡ cond b (swap_remove (calls_at rows r c) i called) (calls_at rows r c)
        → count_by t (calls_at new r c) + one_if (b && t called) ≡ count_by t (calls_at rows r c)
    by true e h = ap (λ xs. count_by t xs + one_if (t called)) h ∙ count_taken nat_eq row_is t called (calls_at rows r c) i (here e)
    by false e h = ap (λ xs. count_by t xs + 0) h ∙ add-zero (count_by t (calls_at rows r c))

-- a pair is taken from the callers of a row
pub caller_cut : (callers after : List Callers) (row clause called i : ℕ)
    → ((q : ℕ) → callers_at after q ≡ cond (nat_eq q called) (swap_remove (callers_at callers q) i (row, clause)) (callers_at callers q))
    → at (is_pair row clause) false (callers_at callers called) i ≡ true
    → (q : ℕ) (t : ℕ × ℕ → Bool) → count_by t (callers_at after q) + one_if (nat_eq q called && t (row, clause)) ≡ count_by t (callers_at callers q)
caller_cut callers after row clause called i items found q t = by (nat_eq q called) refl (items q)
  where
    here : nat_eq q called ≡ true → at (is_pair row clause) false (callers_at callers q) i ≡ true
    here h = ap (λ n. at (is_pair row clause) false (callers_at callers n) i) (eqb-true q called h) ∙ found

    by : (b : Bool) → nat_eq q called ≡ b → callers_at after q ≡ cond b (swap_remove (callers_at callers q) i (row, clause)) (callers_at callers q)
        → count_by t (callers_at after q) + one_if (b && t (row, clause)) ≡ count_by t (callers_at callers q)
    by true e h = ap (λ xs. count_by t xs + one_if (t (row, clause))) h
        ∙ count_taken (λ (p : ℕ × ℕ). is_pair p.0 p.1) pair_is t (row, clause) (callers_at callers q) i (here e)
    by false e h = ap (λ xs. count_by t xs + 0) h ∙ add-zero (count_by t (callers_at callers q))

-- what is known of a call that was looked up
pub call_there : (rows : List RowCalls) (row clause r c q : ℕ) → r ≡ row → c ≡ clause → 0 < call_count rows row clause q → 0 < call_count rows r c q
call_there rows row clause r c q e f h = subst (λ n. 0 < call_count rows n c q) (sym e) (subst (λ n. 0 < call_count rows row n q) (sym f) h)

pub caller_there : (rows : List RowCalls) (callers : List Callers) (row r c q : ℕ) → AreLinked rows callers → q ≡ row → 0 < caller_count callers row r c
    → 0 < call_count rows r c q
caller_there rows callers row r c q linked e h = subst (λ n. 0 < n) (linked.agree r c q) (subst (λ n. 0 < caller_count callers n r c) (sym e) h)

-- a call of a clause is taken away
module _ (rows new : List RowCalls) (callers after : List Callers) (row clause r' c' called : ℕ) (is_row : r' ≡ row) (is_clause : c' ≡ clause)
    (calls : (r c : ℕ) (t : ℕ → Bool) → count_by t (calls_at new r c) + one_if ((nat_eq r r' && nat_eq c c') && t called)
    ≡ count_by t (calls_at rows r c)) where
  same_pair : (r c : ℕ) → (nat_eq r r' && nat_eq c c') ≡ (nat_eq r row && nat_eq c clause)
  same_pair r c = ap (λ n. nat_eq r n && nat_eq c c') is_row ∙ ap (λ n. nat_eq r row && nat_eq c n) is_clause

  pub cut_others : (init : ℕ) (r c q : ℕ) → cond (nat_eq r row && nat_eq c clause) 0 (call_count rows r c q) ≡ cond (nat_eq r row && nat_eq c clause) 0 init
      → cond (nat_eq r row && nat_eq c clause) 0 (call_count new r c q) ≡ cond (nat_eq r row && nat_eq c clause) 0 init
  cut_others init r c q so_far =
      others_stay (nat_eq r row && nat_eq c clause) (nat_eq q called) (call_count new r c q) (call_count rows r c q)
      (ap (λ b. call_count new r c q + one_if (b && nat_eq q called)) (sym (same_pair r c)) ∙ calls r c (nat_eq q)) ∙ so_far

  pub cut_fewer : length (calls_at new row clause) < length (calls_at rows row clause)
  cut_fewer = smaller (length (calls_at new row clause)) (length (calls_at rows row clause)) (one_if ((nat_eq row r' && nat_eq clause c') && true))
      (ap (λ n. n + one_if ((nat_eq row r' && nat_eq clause c') && true)) (sym (count_all (calls_at new row clause))) ∙ calls row clause (λ (x : ℕ). true)
      ∙ count_all (calls_at rows row clause))
      (ap (λ b. one_if (b && true)) (same_pair row clause) ∙ itself row clause)

-- a call of a row is taken away
module _ (rows new : List RowCalls) (callers after : List Callers) (row clause called q' : ℕ) (is_called : q' ≡ called) where
  pub cut_other_rows : ((r c : ℕ) (t : ℕ → Bool)
      → count_by t (calls_at new r c) + one_if ((nat_eq r row && nat_eq c clause) && t q') ≡ count_by t (calls_at rows r c))
      → (init : ℕ) (r c q : ℕ) → cond (nat_eq q called) 0 (call_count rows r c q) ≡ cond (nat_eq q called) 0 init
      → cond (nat_eq q called) 0 (call_count new r c q) ≡ cond (nat_eq q called) 0 init
  cut_other_rows calls init r c q so_far =
      others_stay_too (nat_eq q called) (nat_eq r row && nat_eq c clause) (call_count new r c q) (call_count rows r c q)
      (ap (λ n. call_count new r c q + one_if ((nat_eq r row && nat_eq c clause) && nat_eq q n)) (sym is_called) ∙ calls r c (nat_eq q)) ∙ so_far

  pub cut_fewer_callers : ((q : ℕ) (t : ℕ × ℕ → Bool)
      → count_by t (callers_at after q) + one_if (nat_eq q q' && t (row, clause)) ≡ count_by t (callers_at callers q))
      → length (callers_at after called) < length (callers_at callers called)
  cut_fewer_callers ends = smaller (length (callers_at after called)) (length (callers_at callers called)) (one_if (nat_eq called q' && true))
      (ap (λ n. n + one_if (nat_eq called q' && true)) (sym (count_all (callers_at after called))) ∙ ends called (λ (x : ℕ × ℕ). true)
      ∙ count_all (callers_at callers called))
      (ap (λ n. one_if (nat_eq called n && true)) is_called ∙ itself_too called)

-- a row that none calls
pub none_calls : (rows : List RowCalls) (callers : List Callers) (row : ℕ) → AreLinked rows callers → callers_at callers row ≡ [] → (r c q : ℕ)
    → nat_eq q row ≡ true → call_count rows r c q ≡ 0
none_calls rows callers row linked e r c q h =
    ap (λ n. call_count rows r c n) (eqb-true q row h) ∙ sym (linked.agree r c row) ∙ ap (λ xs. count_by (is_pair r c) xs) e

-- clause after clause
pub clause_cut : (b y : Bool) (n m init : ℕ) → n ≡ cond (b && y) 0 m → cond b 0 m ≡ cond b 0 init → cond b 0 n ≡ cond b 0 init
clause_cut true y n m init e h = refl
clause_cut false y n m init e h = e ∙ h

pub true_false : true ≡ false → ⊥
true_false h = cc

pub clause_gone : (row k clause n m : ℕ) → n ≡ cond (nat_eq row row && nat_eq k clause) 0 m → (k < clause → m ≡ 0) → k < clause + 1 → n ≡ 0
clause_gone row k clause n m e before h = e ∙ by (nat_eq row row) (nat_eq k clause) (eq-eqb row row refl) refl
  where
    by : (a b : Bool) → a ≡ true → nat_eq k clause ≡ b → cond (a && b) 0 m ≡ 0
    by true true f g = refl
    by true false f g = before (let d : k ≢ clause = λ i. true_false (sym (eq-eqb k clause i) ∙ g) in omega arith)
    by false b f g = cc

pub clause_past : (b : Bool) (n m : ℕ) → n ≡ cond b 0 m → m ≡ 0 → n ≡ 0
clause_past true n m e h = e
clause_past false n m e h = e ∙ h

pub below_or_past : (c n : ℕ) → (c < n) ⊎ (n ≤ c)
below_or_past c zero = inr (omega arith)
below_or_past zero (suc n) = inl (omega arith)
below_or_past (suc c) (suc n) = further (below_or_past c n)
  where
    further : (c < n) ⊎ (n ≤ c) → (suc c < suc n) ⊎ (suc n ≤ suc c)
    further (inl h) = inl (omega arith)
    further (inr h) = inr (omega arith)

-- a row whose clauses call none
pub row_gone : (rows : List RowCalls) (row count : ℕ) → ((c q : ℕ) → c < count → call_count rows row c q ≡ 0)
    → ((c q : ℕ) → count ≤ c → call_count rows row c q ≡ 0)
    → (r c q : ℕ) → nat_eq r row ≡ true → call_count rows r c q ≡ 0
row_gone rows row count gone past r c q h = ap (λ n. call_count rows n c q) (eqb-true r row h) ∙ by (below_or_past c count)
  where
    by : (c < count) ⊎ (count ≤ c) → call_count rows row c q ≡ 0
    by (inl k) = gone c q k
    by (inr k) = past c q k

pub no_some : {A : Type 0} (o : Option A) (P : Type 0) → ((x : A) → o ≡ Some x → ⊥) → IfNone o P → P
no_some None P h p = p
no_some (Some x) P h p = absurd (h x refl)

pub nonzero : (n : ℕ) → nat_eq n 0 ≡ false → 0 < n
nonzero zero h = cc
nonzero (suc n) h = omega arith
