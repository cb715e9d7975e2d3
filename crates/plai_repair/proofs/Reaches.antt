-- Rows that calls reach are gathered.
use Rattle.std.proofs.Common.{◌≡◌, ℕ, zero, suc, ◌+◌, ◌<◌, ◌≤◌, Bool, true, false, cond, not, nat_eq, eqb-true, count_by, List, [], ◌∷◌, length, get_or}
use Rattle.std.proofs.Common.{map, slice_get, Option, Some, None, sym, refl, ap, ◌∙◌, subst, inl, inr, arith}
use Rattle.std.proofs.lemmas.Bool.{eq-eqb}
use Rattle.std.proofs.lemmas.List.Sums.{sum_by-cons}
use Rattle.plai_theory.specs.Words.{given}
use Rattle.plai_theory.proofs.Options.{by_test}
use Rattle.plai_clauses.specs.Program.{ProgramView, clauses_of}
use Rattle.plai_clauses.specs.declared.clause.Clause.{Clause}
use Rattle.plai_arcs.specs.declared.arcs.Arcs.{Arcs}
use Rattle.plai_arcs.specs.Arcs.{is_call}
use Rattle.plai_arcs.specs.Links.{one_if}
use Rattle.plai_table.specs.Rows.{TableRow, with_live}
use Rattle.plai_repair.specs.Lost.{IsLost, AreLost, Itself, ByCall}
use Rattle.plai_repair.specs.Gathering.{AreMarked, Gathers, IsAmong, IsCalledTo, turned}
use Rattle.plai_repair.specs.Removal.{Removes}
use Rattle.plai_repair.specs.Reached.{entry_at, IsReached, First, Then, AreReached, AreCallsWithin, KeepsReached}
use Rattle.plai_repair.proofs.Gathered.{gathers_none, gathers_same, gathers_then}
use Rattle.plai_repair.proofs.Members.{of_two, at_some}

-- the first rows of a list
pub among_first : (xs : List ℕ) (marks : List Bool) (rows : List ℕ) → AreMarked marks rows → Gathers (IsAmong xs 0) marks rows marks rows
among_first xs marks rows marked = gathers_none (IsAmong xs 0) marks rows marked (λ j e. let (k, h, f) = e in absurd (omega (arith, h)))

pub among_more : (xs : List ℕ) (i x : ℕ) {marks mid new_marks : List Bool} {rows between new : List ℕ} → slice_get xs i ≡ Some x
    → Gathers (IsAmong xs i) marks rows mid between → Gathers (λ j. j ≡ x) mid between new_marks new → Gathers (IsAmong xs (i + 1)) marks rows new_marks new
among_more xs i x at a b =
    gathers_then (IsAmong xs i) (λ j. j ≡ x) (IsAmong xs (i + 1)) a b
    (λ j e. let (k, h, f) = e in of_two k i h (λ less. inl (k, less, f))
    (λ same. inr (let g : slice_get xs i ≡ Some j = subst (λ (n : ℕ). slice_get xs n ≡ Some j) same f in let s : Some j ≡ Some x = sym g ∙ at in cc)))
    (λ j e. let (k, h, f) = e in (k, omega (arith, h), f))
    (λ j e. (i, omega arith, at ∙ ap Some (sym e)))

pub among_all : (xs : List ℕ) (i : ℕ) {marks new_marks : List Bool} {rows new : List ℕ} → i ≡ length xs
    → Gathers (IsAmong xs i) marks rows new_marks new → Gathers (IsAmong xs (length xs)) marks rows new_marks new
among_all xs i {marks} {new_marks} {rows} {new} e a = subst (λ (n : ℕ). Gathers (IsAmong xs n) marks rows new_marks new) e a

-- what is counted stands in the list
cons_count : (q x : ℕ) (xs : List ℕ) → count_by (nat_eq q) (x ∷ xs) ≡ cond (nat_eq q x) 1 0 + count_by (nat_eq q) xs
cons_count q x xs = sum_by-cons (λ (y : ℕ). cond {A = ℕ} (nat_eq q y) 1 0) x xs

stands : (q : ℕ) (xs : List ℕ) → 0 < count_by (nat_eq q) xs → IsAmong xs (length xs) q
stands q [] h = absurd (omega (arith, h))
stands q (x ∷ xs) h =
    by_test (nat_eq q x) (λ t. (0, omega arith, ap Some (sym (eqb-true q x t))))
    (λ t. let e = cons_count q x xs in let z = ap (λ (b : Bool). cond {A = ℕ} b 1 0) t in
    let (k, l, f) = stands q xs (omega (arith, h, e, z)) in (suc k, omega (arith, l), f))

counted : (q : ℕ) (xs : List ℕ) (k : ℕ) → slice_get xs k ≡ Some q → 0 < count_by (nat_eq q) xs
counted q [] k f = cc
counted q (x ∷ xs) zero f =
    let s : x ≡ q = cc in
    let t : nat_eq q x ≡ true = eq-eqb q x (sym s) in
    let e = cons_count q x xs in let z = ap (λ (b : Bool). cond {A = ℕ} b 1 0) t in omega (arith, e, z)
counted q (x ∷ xs) (suc k) f = let h = counted q xs k f in let e = cons_count q x xs in omega (arith, h, e)

is_one : (b : Bool) → 0 < one_if b → b ≡ true
is_one true h = refl
is_one false h = absurd (omega (arith, h))

pub among_call : (called : ℕ → Bool) (xs : List ℕ) → ((q : ℕ) → count_by (nat_eq q) xs ≡ one_if (called q)) → (j : ℕ) → IsAmong xs (length xs) j
    → called j ≡ true
among_call called xs same j e = let (k, h, f) = e in let n = counted j xs k f in let s = same j in is_one (called j) (omega (arith, n, s))

pub call_among : (called : ℕ → Bool) (xs : List ℕ) → ((q : ℕ) → count_by (nat_eq q) xs ≡ one_if (called q)) → (j : ℕ) → called j ≡ true
    → IsAmong xs (length xs) j
call_among called xs same j t = let s = same j in let z = ap one_if t in stands j xs (omega (arith, s, z))

-- what the clauses from 1 call
pub called_first : (calls : ℕ → ℕ → Bool) (marks : List Bool) (rows : List ℕ) → AreMarked marks rows → Gathers (IsCalledTo calls 0) marks rows marks rows
called_first calls marks rows marked =
    gathers_none (IsCalledTo calls 0) marks rows marked (λ j e. let (c, h, l, t) = e in absurd (omega (arith, h, l)))

pub called_more : (calls : ℕ → ℕ → Bool) (i : ℕ) (xs : List ℕ) {marks mid new_marks : List Bool} {rows between new : List ℕ}
    → ((q : ℕ) → count_by (nat_eq q) xs ≡ one_if (calls (i + 1) q)) → Gathers (IsCalledTo calls i) marks rows mid between
    → Gathers (IsAmong xs (length xs)) mid between new_marks new → Gathers (IsCalledTo calls (i + 1)) marks rows new_marks new
called_more calls i xs same a b =
    gathers_then (IsCalledTo calls i) (IsAmong xs (length xs)) (IsCalledTo calls (i + 1)) a b
    (λ j e. let (c, h, l, t) = e in of_two c (i + 1) (omega (arith, l)) (λ less. inl (c, h, omega (arith, less), t))
    (λ is. inr (call_among (calls (i + 1)) xs same j (subst (λ (n : ℕ). calls n j ≡ true) is t))))
    (λ j e. let (c, h, l, t) = e in (c, h, omega (arith, l), t))
    (λ j e. (i + 1, omega arith, omega arith, among_call (calls (i + 1)) xs same j e))

pub called_all : (calls : ℕ → ℕ → Bool) (i last : ℕ) {marks new_marks : List Bool} {rows new : List ℕ} → i ≡ last
    → Gathers (IsCalledTo calls i) marks rows new_marks new → Gathers (IsCalledTo calls last) marks rows new_marks new
called_all calls i last {marks} {new_marks} {rows} {new} e a = subst (λ (n : ℕ). Gathers (IsCalledTo calls n) marks rows new_marks new) e a

-- a call of a row is one of the clauses of its predicate
pub called_within : {V : Type 0} (program : ProgramView) (table : List (TableRow V)) (calls : ℕ → ℕ → ℕ → Bool) (row k j : ℕ) (r : TableRow V)
    (cs : List Clause) → AreCallsWithin program table calls → slice_get table row ≡ Some r → cs ≡ clauses_of program r.name.pred → calls row k j ≡ true
    → IsCalledTo (calls row) (length cs) j
called_within {V} program table calls row k j r cs w at e t =
    let (b, l) = at_some (λ (r : TableRow V). (1 ≤ k) × (k ≤ length (clauses_of program r.name.pred))) (slice_get table row) r at (w.callers row k j t) in
    (k, b, subst (λ (xs : List Clause). k ≤ length xs) (sym e) l, t)

-- the entries' rows
module _ {V : Type 0} (table : List (TableRow V)) where
  entry_is : (row : ℕ) (r : TableRow V) → slice_get table row ≡ Some r → entry_at table row ≡ r.entry
  entry_is row r e = ap (given false (λ (z : TableRow V). z.entry)) e

  pub entry_within : (n : ℕ) → entry_at table n ≡ true → n < length table
  entry_within n t = at table n t
    where
      at : (xs : List (TableRow V)) (n : ℕ) → entry_at xs n ≡ true → n < length xs
      at [] n t = cc
      at (x ∷ xs) zero t = omega arith
      at (x ∷ xs) (suc n) t = let h = at xs n t in omega (arith, h)

  pub entry_not : (row : ℕ) (r : TableRow V) (marks : List Bool) {gathered : List ℕ} → slice_get table row ≡ Some r → r.entry ≡ false → AreMarked marks gathered
      → Gathers (λ j. (j ≡ row) × (entry_at table j ≡ true)) marks gathered marks gathered
  entry_not row r marks {gathered} e f marked =
      gathers_none (λ j. (j ≡ row) × (entry_at table j ≡ true)) marks gathered marked
      (λ j h. let t : entry_at table row ≡ true = subst (λ (n : ℕ). entry_at table n ≡ true) h.0 h.1 in
      let u : true ≡ false = sym t ∙ entry_is row r e ∙ f in cc)

  pub entry_there : (row : ℕ) (r : TableRow V) {marks new_marks : List Bool} {gathered now : List ℕ} → slice_get table row ≡ Some r → r.entry ≡ true
      → Gathers (λ j. j ≡ row) marks gathered new_marks now → Gathers (λ j. (j ≡ row) × (entry_at table j ≡ true)) marks gathered new_marks now
  entry_there row r e f a =
      gathers_same (λ j. j ≡ row) (λ j. (j ≡ row) × (entry_at table j ≡ true)) a
      (λ j same. (same, subst (λ (n : ℕ). entry_at table n ≡ true) (sym same) (entry_is row r e ∙ f))) (λ j h. h.0)

  pub entries_first : {marks : List Bool} {gathered : List ℕ} → AreMarked marks gathered
      → Gathers (λ j. (j < 0) × (entry_at table j ≡ true)) marks gathered marks gathered
  entries_first {marks} {gathered} marked =
      gathers_none (λ j. (j < 0) × (entry_at table j ≡ true)) marks gathered marked (λ j l. let h = l.0 in absurd (omega (arith, h)))

  pub entries_more : (row : ℕ) {marks mid new_marks : List Bool} {gathered between now : List ℕ}
      → Gathers (λ j. (j < row) × (entry_at table j ≡ true)) marks gathered mid between
      → Gathers (λ j. (j ≡ row) × (entry_at table j ≡ true)) mid between new_marks now
      → Gathers (λ j. (j < row + 1) × (entry_at table j ≡ true)) marks gathered new_marks now
  entries_more row a b =
      gathers_then (λ j. (j < row) × (entry_at table j ≡ true)) (λ j. (j ≡ row) × (entry_at table j ≡ true))
      (λ j. (j < row + 1) × (entry_at table j ≡ true)) a b
      (λ j l. of_two j row l.0 (λ h. inl (h, l.1)) (λ e. inr (e, l.1)))
      (λ j l. let h = l.0 in (omega (arith, h), l.1))
      (λ j l. let h = l.0 in (omega (arith, h), l.1))

  pub entries_all : (row : ℕ) {marks new_marks : List Bool} {gathered now : List ℕ} → length table ≤ row
      → Gathers (λ j. (j < row) × (entry_at table j ≡ true)) marks gathered new_marks now
      → Gathers (λ j. entry_at table j ≡ true) marks gathered new_marks now
  entries_all row h a =
      gathers_same (λ j. (j < row) × (entry_at table j ≡ true)) (λ j. entry_at table j ≡ true) a (λ j l. l.1)
      (λ j l. let w = entry_within j l in (omega (arith, h, w), l))

-- what is lost by turned calls is reached
reached_of : (entry : ℕ → Bool) (calls : ℕ → ℕ → ℕ → Bool) (n : ℕ) → IsLost (λ j. entry j ≡ true) (turned calls) n → IsReached entry calls n
reached_of entry calls n (Itself e) = First e
reached_of entry calls n (ByCall m i l t) = Then m i (reached_of entry calls m l) t

of_reached : (entry : ℕ → Bool) (calls : ℕ → ℕ → ℕ → Bool) (n : ℕ) → IsReached entry calls n → IsLost (λ j. entry j ≡ true) (turned calls) n
of_reached entry calls n (First e) = Itself e
of_reached entry calls n (Then m i r t) = ByCall m i (of_reached entry calls m r) t

pub all_reached : (entry : ℕ → Bool) (calls : ℕ → ℕ → ℕ → Bool) (size : ℕ) (marks : List Bool) → AreLost (λ j. entry j ≡ true) (turned calls) size marks
    → AreReached entry calls size marks
all_reached entry calls size marks a = record {
  long = a.long;
  agree = λ n. (λ t. reached_of entry calls n ((a.agree n).0 t), λ r. (a.agree n).1 (of_reached entry calls n r));
}

-- a marked row is one of those that have marks
pub marked_within : (marks : List Bool) (n : ℕ) → get_or marks n false ≡ true → n < length marks
marked_within [] n t = cc
marked_within (b ∷ marks) zero t = omega arith
marked_within (b ∷ marks) (suc n) t = let h = marked_within marks n t in omega (arith, h)

-- the rows that are left
module _ {V : Type 0} where
  map_get : (f : TableRow V → TableRow V) (xs : List (TableRow V)) (n : ℕ)
      → slice_get (map f xs) n ≡ given None (λ (r : TableRow V). Some (f r)) (slice_get xs n)
  map_get f [] n = refl
  map_get f (x ∷ xs) zero = refl
  map_get f (x ∷ xs) (suc n) = map_get f xs n

  had_get : (f : TableRow V → TableRow V) (xs : List (TableRow V)) (o : Option ℕ)
      → given None (λ (r : TableRow V). Some (f r)) (given None (slice_get xs) o) ≡ given None (slice_get (map f xs)) o
  had_get f xs None = refl
  had_get f xs (Some b) = sym (map_get f xs b)

  pub keeps_reached : (rows mid now : List (TableRow V)) (arcs new_arcs : Arcs) (reached marks : List Bool)
      → AreReached (entry_at rows) (is_call arcs) (length rows) reached → length marks ≡ length reached
      → ((n : ℕ) → n < length reached → get_or marks n false ≡ not (get_or reached n false)) → Removes marks 0 rows arcs mid new_arcs
      → now ≡ map (with_live true) mid → KeepsReached rows arcs now new_arcs
  keeps_reached rows mid now arcs new_arcs reached marks are long turns s wakes = record {
    had = s.had;
    renumbers = record {
      items = λ k. ap (λ (xs : List (TableRow V)). slice_get xs k) wakes ∙ map_get (with_live true) mid k
          ∙ ap (given None (λ (r : TableRow V). Some (with_live true r))) (s.renumbers.items k) ∙ had_get (with_live true) rows (s.had k);
      dirty = s.renumbers.dirty;
      calls = s.renumbers.calls;
    };
    sound = λ k j e. let h = s.within k j e in let l = are.long in
        (are.agree j).0 (is_true (get_or reached j false) (sym (turns j (omega (arith, h, l))) ∙ s.kept k j e (omega arith)));
    whole = λ j r. let t = (are.agree j).1 r in let h = marked_within reached j t in let l = are.long in
        s.whole j (omega (arith, h, l)) (inr (turns j h ∙ ap not t));
    once = s.once;
  }
    where
      is_true : (b : Bool) → not b ≡ false → b ≡ true
      is_true true e = refl
      is_true false e = cc
