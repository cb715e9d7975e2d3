-- Calls as a relation.
use Rattle.std.proofs.Common.{◌≡◌, ℕ, ◌<◌, ◌≤◌, Bool, true, false, cond, ◌&&◌, nat_eq, nat_lt, Option, None, Some, IfSome, List, [], refl, sym, ap, ◌∙◌}
use Rattle.std.proofs.Common.{subst, arith}
use Rattle.std.specs.List.{count_by, list_any}
use Rattle.std.proofs.lemmas.Bool.{eq-eqb, ne_eqb}
use Rattle.plai_arcs.specs.declared.row_calls.RowCalls.{RowCalls}
use Rattle.plai_arcs.specs.declared.callers.Callers.{Callers}
use Rattle.plai_arcs.specs.Links.{AreLinked, calls_at, callers_at, call_count, caller_count, is_pair, one_if}
use Rattle.plai_arcs.specs.Moves.{was, of_row, swapped}
use Rattle.plai_arcs.proofs.CountLemmas.{any_count, once_any}

-- lists that are as before are linked as before
pub linked_same : (rows new : List RowCalls) (callers after : List Callers) → ((r c : ℕ) → calls_at new r c ≡ calls_at rows r c)
    → ((q : ℕ) → callers_at after q ≡ callers_at callers q)
    → AreLinked rows callers → AreLinked new after
linked_same rows new callers after calls ends linked = record {
  agree = λ r c q. ap (λ xs. count_by (is_pair r c) xs) (ends q) ∙ linked.agree r c q ∙ sym (ap (λ xs. count_by (nat_eq q) xs) (calls r c));
  once = λ r c q. subst (λ xs. count_by (nat_eq q) xs ≤ 1) (sym (calls r c)) (linked.once r c q);
}

pub none_linked : AreLinked [] []
none_linked = record { agree = λ r c q. refl; once = λ r c q. omega arith }

-- a call stands in the list where it is counted
pub is_counted : (rows : List RowCalls) (r c q : ℕ) → list_any (nat_eq q) (calls_at rows r c) ≡ nat_lt 0 (call_count rows r c q)
is_counted rows r c q = any_count (nat_eq q) (calls_at rows r c)

positive_if : (b : Bool) → nat_lt 0 (one_if b) ≡ b
positive_if true = refl
positive_if false = refl

-- calls set at a pair
pub calls_set : (rows new : List RowCalls) (row clause : ℕ) (called : List ℕ)
    → ((r c q : ℕ) → call_count new r c q ≡ cond (nat_eq r row && nat_eq c clause) (one_if (list_any (nat_eq q) called)) (call_count rows r c q))
    → (r c q : ℕ) → list_any (nat_eq q) (calls_at new r c)
    ≡ cond (nat_eq r row && nat_eq c clause) (list_any (nat_eq q) called) (list_any (nat_eq q) (calls_at rows r c))
calls_set rows new row clause called counts r c q =
    is_counted new r c q ∙ ap (λ n. nat_lt 0 n) (counts r c q) ∙ by (nat_eq r row && nat_eq c clause)
  where
    by : (b : Bool) → nat_lt 0 (cond b (one_if (list_any (nat_eq q) called)) (call_count rows r c q))
        ≡ cond b (list_any (nat_eq q) called) (list_any (nat_eq q) (calls_at rows r c))
    by true = positive_if (list_any (nat_eq q) called)
    by false = sym (is_counted rows r c q)

-- first all calls of a clause are taken away
pub set_counts : (b : Bool) (new mid old n : ℕ) → new ≡ cond b n mid → mid ≡ cond b 0 old → new ≡ cond b n old
set_counts true new mid old n e h = e
set_counts false new mid old n e h = e ∙ h

pub same_calls : (rows new : List RowCalls) → ((r c : ℕ) → calls_at new r c ≡ calls_at rows r c) → (r c q : ℕ)
    → list_any (nat_eq q) (calls_at new r c) ≡ list_any (nat_eq q) (calls_at rows r c)
same_calls rows new calls r c q = ap (λ xs. list_any (nat_eq q) xs) (calls r c)

-- what is looked up
pub calls_once : (rows : List RowCalls) (callers : List Callers) (r c q : ℕ) → AreLinked rows callers
    → call_count rows r c q ≡ one_if (list_any (nat_eq q) (calls_at rows r c))
calls_once rows callers r c q linked = once_any (nat_eq q) (calls_at rows r c) (linked.once r c q)

pub callers_once : (rows : List RowCalls) (callers : List Callers) (r c q : ℕ) → AreLinked rows callers
    → caller_count callers q r c ≡ one_if (list_any (nat_eq q) (calls_at rows r c))
callers_once rows callers r c q linked = linked.agree r c q ∙ calls_once rows callers r c q linked

-- a test of rows after one is taken away
pub dropped_none : (row r : ℕ) (t : ℕ → Bool) → cond (nat_eq r row) false (t r) ≡ of_row (was row None r) t
dropped_none row r t = by (nat_eq r row)
  where
    by : (b : Bool) → cond b false (t r) ≡ of_row (cond b None (Some r)) t
    by true = refl
    by false = refl

-- and another has its number
pub dropped_some : (row last r : ℕ) (t s : ℕ → Bool) → ((k : ℕ) → s k ≡ cond (nat_eq k row) false (t k)) → nat_eq last row ≡ false
    → s (swapped row last r) ≡ of_row (was row (Some last) r) t
dropped_some row last r t s e differ = e (swapped row last r) ∙ by (nat_eq r row) (nat_eq r last) refl refl
  where
    by : (a b : Bool) → nat_eq r row ≡ a → nat_eq r last ≡ b
        → cond (nat_eq (cond a last (cond b row r)) row) false (t (cond a last (cond b row r))) ≡ of_row (cond a (Some last) (cond b None (Some r))) t
    by true b f g = ap (λ x. cond x false (t last)) differ
    by false true f g = ap (λ x. cond x false (t row)) (eq-eqb row row refl)
    by false false f g = ap (λ x. cond x false (t r)) f

pub positive_cond : (b : Bool) (n : ℕ) → nat_lt 0 (cond b 0 n) ≡ cond b false (nat_lt 0 n)
positive_cond true n = refl
positive_cond false n = refl

module _ (rows mid : List RowCalls) (row : ℕ)
    (counts : (r c q : ℕ) → call_count mid r c q ≡ cond (nat_eq r row) 0 (cond (nat_eq q row) 0 (call_count rows r c q))) where
  stays_in : (r c q : ℕ) → nat_lt 0 (call_count mid r c q) ≡ cond (nat_eq r row) false (cond (nat_eq q row) false (list_any (nat_eq q) (calls_at rows r c)))
  stays_in r c q =
      ap (λ n. nat_lt 0 n) (counts r c q) ∙ positive_cond (nat_eq r row) (cond (nat_eq q row) 0 (call_count rows r c q))
      ∙ ap (λ b. cond (nat_eq r row) false b) (positive_cond (nat_eq q row) (call_count rows r c q)
      ∙ ap (λ b. cond (nat_eq q row) false b) (sym (is_counted rows r c q)))

  pub calls_dropped : (r c q : ℕ) → list_any (nat_eq q) (calls_at mid r c)
      ≡ of_row (was row None r) (λ b. of_row (was row None q) (λ d. list_any (nat_eq d) (calls_at rows b c)))
  calls_dropped r c q =
      is_counted mid r c q ∙ stays_in r c q
      ∙ ap (λ b. cond (nat_eq r row) false b) (dropped_none row q (λ d. list_any (nat_eq d) (calls_at rows r c)))
      ∙ dropped_none row r (λ b. of_row (was row None q) (λ d. list_any (nat_eq d) (calls_at rows b c)))

  pub calls_moved : (new : List RowCalls) (last : ℕ) → nat_eq last row ≡ false
      → ((r c q : ℕ) → call_count new r c q ≡ call_count mid (swapped row last r) c (swapped row last q))
      → (r c q : ℕ) → list_any (nat_eq q) (calls_at new r c)
      ≡ of_row (was row (Some last) r) (λ b. of_row (was row (Some last) q) (λ d. list_any (nat_eq d) (calls_at rows b c)))
  calls_moved new last differ moves r c q =
      is_counted new r c q ∙ ap (λ n. nat_lt 0 n) (moves r c q)
      ∙ dropped_some row last r (λ b. of_row (was row (Some last) q) (λ d. list_any (nat_eq d) (calls_at rows b c)))
      (λ k. nat_lt 0 (call_count mid k c (swapped row last q)))
      (λ k. stays_in k c (swapped row last q)
      ∙ ap (λ b. cond (nat_eq k row) false b) (dropped_some row last q (λ d. list_any (nat_eq d) (calls_at rows k c))
      (λ j. cond (nat_eq j row) false (list_any (nat_eq j) (calls_at rows k c))) (λ j. refl) differ))
      differ

pub is_none : {A : Type 0} (o : Option A) → ((x : A) → o ≡ Some x → ⊥) → o ≡ None
is_none None h = refl
is_none (Some x) h = absurd (h x refl)

pub less_last : (row : ℕ) (moved : Option ℕ) (last : ℕ) → moved ≡ Some last → IfSome moved (λ n. row < n) → row < last
less_last row moved last e h = subst (λ (m : Option ℕ). IfSome m (λ n. row < n)) e h

pub later_differs : (row last : ℕ) → row < last → nat_eq last row ≡ false
later_differs row last h = ne_eqb last row (λ e. absurd (omega arith))
