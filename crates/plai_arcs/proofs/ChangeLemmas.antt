-- Changes of lists at places.
use Rattle.std.proofs.Common.{◌≡◌, ℕ, ◌+◌, ◌-◌, ◌<◌, ◌≤◌, Bool, true, false, cond, ◌&&◌, nat_eq, List, [], length, slice_set, slice_index_or, refl, sym, ap}
use Rattle.std.proofs.Common.{◌∙◌, subst, arith}
use Rattle.std.proofs.lemmas.Bool.{eqb-true}
use Rattle.plai_arcs.specs.declared.change.Change.{Change}
use Rattle.plai_arcs.specs.declared.change.Change.TheVariants.{Push, Take, Rename, Mark}
use Rattle.plai_arcs.specs.declared.row_calls.RowCalls.{RowCalls}
use Rattle.plai_arcs.specs.Changes.{changed, IsFound, CanChange, room_taken}
use Rattle.plai_arcs.specs.Links.{calls_in, calls_at, clause_room, call_room}
use Rattle.plai_arcs.specs.Places.{at}
use Rattle.plai_arcs.proofs.PlaceLemmas.{at_written, at_set, at_index, at_past}

-- where there is no list, all that can be changed is a mark
pub record StaysEmpty {T : Type 0} (eq : T → T → Bool) (change : Change T) : Type 0 where
  pub items : changed change 0 [] ≡ []
  pub found : IsFound eq change 0 []
  pub room : room_taken change ≡ 0

pub stays_empty : {T : Type 0} (eq : T → T → Bool) (change : Change T) → CanChange eq change 0 [] → StaysEmpty eq change
stays_empty eq (Push x mark) h = absurd (omega arith)
stays_empty eq (Take x hint) h = absurd (omega arith)
stays_empty eq (Rename x y hint) h = absurd (omega arith)
stays_empty eq (Mark place mark) h = record { items = refl; found = tt; room = refl }

-- an empty list, changed or not
pub empty_there : {A : Type 0} (b : Bool) (g : List A → List A) (xs : List A) → xs ≡ [] → g [] ≡ [] → xs ≡ cond b (g xs) xs
empty_there true g xs e h = e ∙ sym (ap g e ∙ h)
empty_there false g xs e h = refl

-- only at a place
pub both : {A : Type 0} (b y : Bool) (x z : A) → cond b (cond y x z) z ≡ cond (b && y) x z
both true y x z = refl
both false y x z = refl

-- room after a write
pub room_written : {A : Type 0} (f : A → ℕ) (xs : List A) (i : ℕ) (a e : A) (n : ℕ) → i < length xs → f (slice_index_or xs i e) ≤ f a + n
    → (k : ℕ) → at f 0 xs k ≤ at f 0 (slice_set xs i a) k + cond (nat_eq k i) n 0
room_written f xs i a e n h less k = subst (λ m. at f 0 xs k ≤ m + cond (nat_eq k i) n 0) (sym (at_set f 0 xs i k a h)) (by (nat_eq k i) refl)
  where
    by : (b : Bool) → nat_eq k i ≡ b → at f 0 xs k ≤ cond b (f a) (at f 0 xs k) + cond b n 0
    by true t = subst (λ m. m ≤ f a + n) (sym (at_index f 0 xs i e h) ∙ ap (λ j. at f 0 xs j) (sym (eqb-true k i t))) less
    by false t = omega arith

-- the list of a clause of a row, changed by g
pub calls_written : (rows : List RowCalls) (row clause : ℕ) (new e : RowCalls) (g : List ℕ → List ℕ) → row < length rows
    → ((c : ℕ) → calls_in new.clauses.items c
    ≡ cond (nat_eq c clause) (g (calls_in (slice_index_or rows row e).clauses.items c)) (calls_in (slice_index_or rows row e).clauses.items c))
    → (r c : ℕ) → calls_at (slice_set rows row new) r c ≡ cond (nat_eq r row && nat_eq c clause) (g (calls_at rows r c)) (calls_at rows r c)
calls_written rows row clause new e g h says r c =
    at_written (λ (q : RowCalls). calls_in q.clauses.items c) [] rows row new e (λ xs. cond (nat_eq c clause) (g xs) xs) h (says c) r
    ∙ both (nat_eq r row) (nat_eq c clause) (g (calls_at rows r c)) (calls_at rows r c)

-- the room of a clause of a row
pub call_room_written : (rows : List RowCalls) (row clause : ℕ) (new e : RowCalls) (n : ℕ) → row < length rows
    → ((c : ℕ) → clause_room (slice_index_or rows row e).clauses.items c ≤ clause_room new.clauses.items c + cond (nat_eq c clause) n 0)
    → (r c : ℕ) → call_room rows r c ≤ call_room (slice_set rows row new) r c + cond (nat_eq r row && nat_eq c clause) n 0
call_room_written rows row clause new e n h says r c =
    subst (λ m. call_room rows r c ≤ call_room (slice_set rows row new) r c + m) (both (nat_eq r row) (nat_eq c clause) n 0)
    (room_written (λ (q : RowCalls). clause_room q.clauses.items c) rows row new e (cond (nat_eq c clause) n 0) h (says c) r)

-- what holds of a changed item's list holds of the list at its place
pub found_there : {A T : Type 0} (f : A → List T) (eq : T → T → Bool) (change : Change T) (place : ℕ) (xs : List A) (i : ℕ) (e : A) → i < length xs
    → IsFound eq change place (f (slice_index_or xs i e)) → IsFound eq change place (at f [] xs i)
found_there f eq change place xs i e h found = subst (λ ys. IsFound eq change place ys) (sym (at_index f [] xs i e h)) found

-- a change that is possible at a place is possible for the item there
pub can_there : {A T : Type 0} (f : A → List T) (g : A → ℕ) (h : ℕ → ℕ) (eq : T → T → Bool) (change : Change T) (xs : List A) (i : ℕ) (e : A) → i < length xs
    → CanChange eq change (h (at g 0 xs i)) (at f [] xs i) → CanChange eq change (h (g (slice_index_or xs i e))) (f (slice_index_or xs i e))
can_there f g h eq change xs i e inside can =
    subst (λ n. CanChange eq change (h n) (f (slice_index_or xs i e))) (at_index g 0 xs i e inside)
    (subst (λ ys. CanChange eq change (h (at g 0 xs i)) ys) (at_index f [] xs i e inside) can)

-- past the end
module _ {A T : Type 0} (f : A → List T) (g : A → ℕ) (h : ℕ → ℕ) (eq : T → T → Bool) (change : Change T) (xs : List A) (i : ℕ) (past : length xs ≤ i)
    (none : h 0 ≡ 0)
    (can : CanChange eq change (h (at g 0 xs i)) (at f [] xs i)) where
  empty : StaysEmpty eq change
  empty = stays_empty eq change
      (subst (λ n. CanChange eq change n []) none
      (subst (λ n. CanChange eq change (h n) []) (at_past g 0 xs i past)
      (subst (λ ys. CanChange eq change (h (at g 0 xs i)) ys) (at_past f [] xs i past) can)))

  pub past_items : (q : ℕ) → at f [] xs q ≡ cond (nat_eq q i) (changed change 0 (at f [] xs q)) (at f [] xs q)
  past_items q = by (nat_eq q i) refl
    where
      by : (b : Bool) → nat_eq q i ≡ b → at f [] xs q ≡ cond b (changed change 0 (at f [] xs q)) (at f [] xs q)
      by true e =
          let there : at f [] xs q ≡ [] = at_past f [] xs q (subst (λ j. length xs ≤ j) (sym (eqb-true q i e)) past) in
          there ∙ sym (ap (λ ys. changed change 0 ys) there ∙ empty.items)
      by false e = refl

  pub past_found : IsFound eq change 0 (at f [] xs i)
  past_found = subst (λ ys. IsFound eq change 0 ys) (sym (at_past f [] xs i past)) empty.found

pub no_less_by : (m n : ℕ) → m ≤ m + n
no_less_by m n = omega arith

-- past the last row
pub calls_past : (change : Change ℕ) (rows : List RowCalls) (row clause : ℕ) → length rows ≤ row
    → CanChange nat_eq change (call_room rows row clause - 1) (calls_at rows row clause)
    → (r c : ℕ) → calls_at rows r c ≡ cond (nat_eq r row && nat_eq c clause) (changed change 0 (calls_at rows r c)) (calls_at rows r c)
calls_past change rows row clause past can r c = by (nat_eq r row) refl
  where
    none : StaysEmpty nat_eq change
    none = stays_empty nat_eq change
        (subst (λ n. CanChange nat_eq change (n - 1) []) (at_past (λ (q : RowCalls). clause_room q.clauses.items clause) 0 rows row past)
        (subst (λ ys. CanChange nat_eq change (call_room rows row clause - 1) ys)
        (at_past (λ (q : RowCalls). calls_in q.clauses.items clause) [] rows row past) can))

    there : nat_eq r row ≡ true → calls_at rows r c ≡ []
    there e = at_past (λ (q : RowCalls). calls_in q.clauses.items c) [] rows r (subst (λ j. length rows ≤ j) (sym (eqb-true r row e)) past)

    by : (b : Bool) → nat_eq r row ≡ b → calls_at rows r c ≡ cond (b && nat_eq c clause) (changed change 0 (calls_at rows r c)) (calls_at rows r c)
    by true e = empty_there (nat_eq c clause) (λ ys. changed change 0 ys) (calls_at rows r c) (there e) none.items
    by false e = refl
