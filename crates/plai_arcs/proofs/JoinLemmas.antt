-- Calls added one by one at both ends.
use Rattle.std.proofs.Common.{◌≡◌, ℕ, zero, suc, ◌+◌, ◌-◌, ◌<◌, ◌≤◌, Bool, true, false, cond, ◌&&◌, ◌||◌, nat_eq, List, [], ◌∷◌, ◌++◌, length, take}
use Rattle.std.proofs.Common.{slice_index_or, refl, sym, ap, ◌∙◌, subst, arith}
use Rattle.std.specs.List.{count_by, list_any}
use Rattle.std.proofs.lemmas.Bool.{eqb-true, eq-eqb}
use Rattle.plai_arcs.specs.declared.row_calls.RowCalls.{RowCalls}
use Rattle.plai_arcs.specs.declared.callers.Callers.{Callers}
use Rattle.plai_arcs.specs.Links.{AreLinked, calls_at, callers_at, call_count, caller_count, call_room, caller_room, HasCallRoom, is_pair, one_if, last_is}
use Rattle.plai_arcs.proofs.CountLemmas.{count_pushed, last_pushed, last_counts, pair_itself}
use Rattle.plai_arcs.proofs.CutLemmas.{and_true}
use Rattle.plai_arcs.proofs.LinkLemmas.{any_one_more, any_here}

-- The first i of the called rows are calls of the clause of the row, and a row that the clause calls has it for its last caller.
pub record AreJoined (initial rows : List RowCalls) (callers : List Callers) (row clause : ℕ) (called : List ℕ) (i : ℕ) : Type 0 where
  pub linked : AreLinked rows callers
  pub calls : (r c q : ℕ) → call_count rows r c q
      ≡ cond (nat_eq r row && nat_eq c clause) (one_if (list_any (nat_eq q) (take i called))) (call_count initial r c q)
  pub last : (q : ℕ) → caller_count callers q row clause ≡ one_if (last_is row clause (callers_at callers q))
  pub call_fits : length called - i < call_room rows row clause
  pub caller_fits : (q : ℕ) → list_any (nat_eq q) called ≡ true → list_any (nat_eq q) (take i called) ≡ false → 0 < caller_room callers q

zero_one : (n : ℕ) (b : Bool) → n ≡ 0 → n ≡ one_if b → b ≡ false
zero_one n true e h = absurd (omega arith)
zero_one n false e h = refl

one_one : (n : ℕ) (b : Bool) → 0 < n → n ≡ one_if b → b ≡ true
one_one n true e h = refl
one_one n false e h = absurd (omega arith)

pair_true : (row clause : ℕ) → (nat_eq row row && nat_eq clause clause) ≡ true
pair_true row clause = pair_itself row clause

-- nothing is joined yet
pub joined_none : (rows : List RowCalls) (callers : List Callers) (row clause : ℕ) (called : List ℕ) → AreLinked rows callers
    → ((q : ℕ) → call_count rows row clause q ≡ 0)
    → HasCallRoom rows row clause (length called) → ((q : ℕ) → list_any (nat_eq q) called ≡ true → 0 < caller_room callers q)
    → AreJoined rows rows callers row clause called 0
joined_none rows callers row clause called linked none room rooms = record {
  linked = linked;
  calls = λ r c q. by r c q (nat_eq r row && nat_eq c clause) refl;
  last = λ q. no_last q (last_is row clause (callers_at callers q)) refl;
  call_fits = no_less (length called) (call_room rows row clause) room;
  caller_fits = λ q h g. rooms q h;
}
  where
    no_less : (n m : ℕ) → n < m → n - 0 < m
    no_less n m h = omega arith

    none_there : (r c q : ℕ) → (nat_eq r row && nat_eq c clause) ≡ true → call_count rows r c q ≡ 0
    none_there r c q h =
        let t : (nat_eq r row ≡ true) × (nat_eq c clause ≡ true) = and_true (nat_eq r row) (nat_eq c clause) h in
        ap (λ n. call_count rows n c q) (eqb-true r row t.0) ∙ ap (λ n. call_count rows row n q) (eqb-true c clause t.1) ∙ none q

    by : (r c q : ℕ) (b : Bool) → (nat_eq r row && nat_eq c clause) ≡ b
        → call_count rows r c q ≡ cond b (one_if (list_any (nat_eq q) (take 0 called))) (call_count rows r c q)
    by r c q true e = none_there r c q e
    by r c q false e = refl

    no_last : (q : ℕ) (b : Bool) → last_is row clause (callers_at callers q) ≡ b → caller_count callers q row clause ≡ one_if b
    no_last q true e = absurd (let h : 0 < caller_count callers q row clause = last_counts row clause (callers_at callers q) e in
        let k : caller_count callers q row clause ≡ 0 = linked.agree row clause q ∙ none q in omega arith)
    no_last q false e = linked.agree row clause q ∙ none q

-- one item more in the part that is done
more_any : (called : List ℕ) (i q : ℕ) → i < length called
    → list_any (nat_eq q) (take (i + 1) called) ≡ (list_any (nat_eq q) (take i called) || nat_eq q (slice_index_or called i q))
more_any called i q h = any_one_more (nat_eq q) called i q h

or_false : (a b : Bool) → (a || b) ≡ false → (a ≡ false) × (b ≡ false)
or_false true b h = cc
or_false false true h = cc
or_false false false h = (refl, refl)

no_more_room : (n i m k : ℕ) → i < n → n - i < m → m ≤ k + 1 → n - (i + 1) < k
no_more_room n i m k h a b = omega arith

less_room : (n i m : ℕ) → i < n → n - i < m → n - (i + 1) < m
less_room n i m h a = omega arith

module _ (initial rows : List RowCalls) (callers : List Callers) (row clause : ℕ) (called : List ℕ) (i other : ℕ) (inside : i < length called)
    (here : (d : ℕ) → slice_index_or called i d ≡ other) (so_far : AreJoined initial rows callers row clause called i) where
  among : list_any (nat_eq other) called ≡ true
  among = any_here (nat_eq other) called i other inside (ap (λ n. nat_eq other n) (here other) ∙ eq-eqb other other refl)

  more : (q : ℕ) → list_any (nat_eq q) (take (i + 1) called) ≡ (list_any (nat_eq q) (take i called) || nat_eq q other)
  more q = more_any called i q inside ∙ ap (λ n. list_any (nat_eq q) (take i called) || nat_eq q n) (here q)

  at_pair : (q : ℕ) → call_count rows row clause q ≡ one_if (list_any (nat_eq q) (take i called))
  at_pair q = so_far.calls row clause q ∙ ap (λ b. cond b (one_if (list_any (nat_eq q) (take i called))) (call_count initial row clause q))
      (pair_true row clause)

  before : (q : ℕ) → list_any (nat_eq q) (take (i + 1) called) ≡ false → (list_any (nat_eq q) (take i called) ≡ false) × (nat_eq q other ≡ false)
  before q h = or_false (list_any (nat_eq q) (take i called)) (nat_eq q other) (sym (more q) ∙ h)

  -- the row has the pair for its last caller, so it is called already
  module _ (is_last : last_is row clause (callers_at callers other) ≡ true) where
    called_already : list_any (nat_eq other) (take i called) ≡ true
    called_already =
        let one : caller_count callers other row clause ≡ 1 = so_far.last other ∙ ap one_if is_last in
        one_one (call_count rows row clause other) (list_any (nat_eq other) (take i called))
        (let e : caller_count callers other row clause ≡ call_count rows row clause other = so_far.linked.agree row clause other in omega arith) (at_pair other)

    same_any : (q : ℕ) → list_any (nat_eq q) (take i called) ≡ list_any (nat_eq q) (take (i + 1) called)
    same_any q = by (nat_eq q other) refl ∙ sym (more q)
      where
        or_true : (b : Bool) → b ≡ true → b ≡ (b || true)
        or_true true e = refl
        or_true false e = e

        or_no : (b : Bool) → b ≡ (b || false)
        or_no true = refl
        or_no false = refl

        by : (b : Bool) → nat_eq q other ≡ b → list_any (nat_eq q) (take i called) ≡ (list_any (nat_eq q) (take i called) || b)
        by true e = or_true (list_any (nat_eq q) (take i called)) (ap (λ n. list_any (nat_eq n) (take i called)) (eqb-true q other e) ∙ called_already)
        by false e = or_no (list_any (nat_eq q) (take i called))

    pub joined_already : AreJoined initial rows callers row clause called (i + 1)
    joined_already = record {
      linked = so_far.linked;
      calls = λ r c q. so_far.calls r c q ∙ ap (λ b. cond (nat_eq r row && nat_eq c clause) (one_if b) (call_count initial r c q)) (same_any q);
      last = so_far.last;
      call_fits = less_room (length called) i (call_room rows row clause) inside so_far.call_fits;
      caller_fits = λ q h g. so_far.caller_fits q h (same_any q ∙ g);
    }

  -- the row has another last caller, so it isn't called yet
  module _ (is_not : last_is row clause (callers_at callers other) ≡ false) where
    none_yet : call_count rows row clause other ≡ 0
    none_yet = sym (so_far.linked.agree row clause other) ∙ so_far.last other ∙ ap one_if is_not

    not_before : list_any (nat_eq other) (take i called) ≡ false
    not_before = zero_one (call_count rows row clause other) (list_any (nat_eq other) (take i called)) none_yet (at_pair other)

    pub caller_fits_now : 0 < caller_room callers other
    caller_fits_now = so_far.caller_fits other among not_before

    pub call_fits_now : 1 < call_room rows row clause
    call_fits_now = let h : length called - i < call_room rows row clause = so_far.call_fits in let k : i < length called = inside in
        enough (length called) i (call_room rows row clause) k h
      where
        enough : (n i m : ℕ) → i < n → n - i < m → 1 < m
        enough n i m k h = omega arith

    module _ (new : List RowCalls) (after : List Callers)
        (calls : (r c : ℕ) → calls_at new r c ≡ cond (nat_eq r row && nat_eq c clause) (calls_at rows r c ++ other ∷ []) (calls_at rows r c))
        (ends : (q : ℕ) → callers_at after q ≡ cond (nat_eq q other) (callers_at callers q ++ (row, clause) ∷ []) (callers_at callers q))
        (call_less : call_room rows row clause ≤ call_room new row clause + 1)
        (caller_less : (q : ℕ) → caller_room callers q ≤ caller_room after q + one_if (nat_eq q other)) where
      new_count : (r c q : ℕ) → call_count new r c q
          ≡ cond (nat_eq r row && nat_eq c clause) (call_count rows r c q + one_if (nat_eq q other)) (call_count rows r c q)
      new_count r c q = ap (λ xs. count_by (nat_eq q) xs) (calls r c) ∙ by (nat_eq r row && nat_eq c clause)
        where
          by : (b : Bool) → count_by (nat_eq q) (cond b (calls_at rows r c ++ other ∷ []) (calls_at rows r c))
              ≡ cond b (call_count rows r c q + one_if (nat_eq q other)) (call_count rows r c q)
          by true = count_pushed (nat_eq q) other (calls_at rows r c)
          by false = refl

      new_callers : (r c q : ℕ) → caller_count after q r c
          ≡ cond (nat_eq q other) (caller_count callers q r c + one_if (nat_eq r row && nat_eq c clause)) (caller_count callers q r c)
      new_callers r c q = ap (λ xs. count_by (is_pair r c) xs) (ends q) ∙ by (nat_eq q other)
        where
          by : (b : Bool) → count_by (is_pair r c) (cond b (callers_at callers q ++ (row, clause) ∷ []) (callers_at callers q))
              ≡ cond b (caller_count callers q r c + one_if (nat_eq r row && nat_eq c clause)) (caller_count callers q r c)
          by true = count_pushed (is_pair r c) (row, clause) (callers_at callers q)
          by false = refl

      same_added : (a b : Bool) (m n : ℕ) → m ≡ n → cond a (m + one_if b) m ≡ cond b (n + one_if a) n
      same_added true true m n e = omega arith
      same_added true false m n e = omega arith
      same_added false true m n e = omega arith
      same_added false false m n e = e

      now_agree : (r c q : ℕ) → caller_count after q r c ≡ call_count new r c q
      now_agree r c q = new_callers r c q ∙ same_added (nat_eq q other) (nat_eq r row && nat_eq c clause) (caller_count callers q r c) (call_count rows r c q)
          (so_far.linked.agree r c q) ∙ sym (new_count r c q)

      now_calls : (r c q : ℕ) → call_count new r c q
          ≡ cond (nat_eq r row && nat_eq c clause) (one_if (list_any (nat_eq q) (take (i + 1) called))) (call_count initial r c q)
      now_calls r c q = new_count r c q ∙ by (nat_eq r row && nat_eq c clause) (call_count rows r c q) (so_far.calls r c q)
          ∙ ap (λ b. cond (nat_eq r row && nat_eq c clause) (one_if b) (call_count initial r c q)) (sym (more q))
        where
          added : (a e : Bool) → (e ≡ true → a ≡ false) → one_if a + one_if e ≡ one_if (a || e)
          added true true h = absurd (let k : true ≡ false = h refl in cc)
          added true false h = refl
          added false true h = refl
          added false false h = refl

          not_here : nat_eq q other ≡ true → list_any (nat_eq q) (take i called) ≡ false
          not_here e = ap (λ n. list_any (nat_eq n) (take i called)) (eqb-true q other e) ∙ not_before

          by : (b : Bool) (n : ℕ) → n ≡ cond b (one_if (list_any (nat_eq q) (take i called))) (call_count initial r c q)
              → cond b (n + one_if (nat_eq q other)) n ≡ cond b (one_if (list_any (nat_eq q) (take i called) || nat_eq q other)) (call_count initial r c q)
          by true n e = ap (λ m. m + one_if (nat_eq q other)) e ∙ added (list_any (nat_eq q) (take i called)) (nat_eq q other) not_here
          by false n e = e

      now_once : (r c q : ℕ) → call_count new r c q ≤ 1
      now_once r c q = subst (λ n. n ≤ 1) (sym (now_calls r c q)) (by (nat_eq r row && nat_eq c clause) refl (list_any (nat_eq q) (take (i + 1) called)))
        where
          at_most : (n : ℕ) → n ≡ call_count initial r c q → call_count rows r c q ≡ n → n ≤ 1
          at_most n e h = subst (λ m. m ≤ 1) h (so_far.linked.once r c q)

          by : (b : Bool) → (nat_eq r row && nat_eq c clause) ≡ b → (a : Bool) → cond b (one_if a) (call_count initial r c q) ≤ 1
          by true e true = omega arith
          by true e false = omega arith
          by false e a = at_most (call_count initial r c q) refl
              (so_far.calls r c q ∙ ap (λ b. cond b (one_if (list_any (nat_eq q) (take i called))) (call_count initial r c q)) e)

      now_last : (q : ℕ) → caller_count after q row clause ≡ one_if (last_is row clause (callers_at after q))
      now_last q = by (nat_eq q other) refl (new_callers row clause q) (ends q)
        where
          by : (b : Bool) → nat_eq q other ≡ b → caller_count after q row clause ≡ cond b
              (caller_count callers q row clause + one_if (nat_eq row row && nat_eq clause clause)) (caller_count callers q row clause)
              → callers_at after q ≡ cond b (callers_at callers q ++ (row, clause) ∷ []) (callers_at callers q)
              → caller_count after q row clause ≡ one_if (last_is row clause (callers_at after q))
          by true e n h =
              let none : caller_count callers q row clause ≡ 0 =
              so_far.linked.agree row clause q ∙ ap (λ m. call_count rows row clause m) (eqb-true q other e) ∙ none_yet in
              n ∙ ap (λ m. m + one_if (nat_eq row row && nat_eq clause clause)) none ∙ ap (λ b. 0 + one_if b) (pair_true row clause)
              ∙ sym (ap (λ xs. one_if (last_is row clause xs)) h
              ∙ ap one_if (last_pushed row clause (callers_at callers q) (row, clause) ∙ pair_true row clause))
          by false e n h = n ∙ so_far.last q ∙ sym (ap (λ xs. one_if (last_is row clause xs)) h)

      pub joined_now : AreJoined initial new after row clause called (i + 1)
      joined_now = record {
        linked = record { agree = now_agree; once = now_once };
        calls = now_calls;
        last = now_last;
        call_fits = no_more_room (length called) i (call_room rows row clause) (call_room new row clause) inside so_far.call_fits call_less;
        caller_fits = λ q h g. let k : (list_any (nat_eq q) (take i called) ≡ false) × (nat_eq q other ≡ false) = before q g in
            left (caller_room callers q) (caller_room after q) (nat_eq q other) k.1 (so_far.caller_fits q h k.0) (caller_less q);
      }
        where
          left : (m n : ℕ) (b : Bool) → b ≡ false → 0 < m → m ≤ n + one_if b → 0 < n
          left m n true e h k = cc
          left m n false e h k = omega arith

pub index_default : (xs : List ℕ) (i d e : ℕ) → i < length xs → slice_index_or xs i d ≡ slice_index_or xs i e
index_default [] i d e h = absurd (omega arith)
index_default (x ∷ xs) zero d e h = refl
index_default (x ∷ xs) (suc i) d e h = index_default xs i d e (omega arith)
