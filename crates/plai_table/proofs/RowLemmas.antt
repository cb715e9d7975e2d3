-- Rows of a table under its calls.
use Rattle.std.proofs.Common.{◌≡◌, ℕ, zero, suc, ◌+◌, ◌<◌, ◌≤◌, Bool, true, false, cond, not, ◌&&◌, List, [], ◌∷◌, ◌++◌, length, slice_get, zero-add, Option}
use Rattle.std.proofs.Common.{Some, None, position, is_some, get_or, IfSome, refl, sym, ap, ◌∙◌, subst, arith}
use Rattle.std.specs.Map.{keys_of}
use Rattle.std.specs.List.{swap_remove, IsDistinct}
use Rattle.std.proofs.lemmas.Option.{get_or_from_slice_get, slice_get_within}
use Rattle.std.proofs.lemmas.List.Sums.{sum_by-swap_remove, sum_by-cons, sum_by-append}
use Rattle.indexmap.specs.IndexMap.{IndexMap, set_value_at, insert_entry, get, keys}
use Rattle.indexmap.proofs.CallerLemmas.{insert_entry-new}
use Rattle.indexmap.proofs.MapLemmas.{some_index}
use Rattle.indexmap.proofs.SetLemmas.{map-swap_remove}
use Rattle.plai_terms.specs.contracts.pred_key.PredKeyPartialEq.TheImpl as pred_eq
use Rattle.plai_domain.specs.declared.key.Key.{Key}
use Rattle.plai_table.specs.declared.contents.Contents.{Contents}
use Rattle.plai_table.specs.Rows.{TableRow, TableView, names_of, HaveDistinctNames, row_changed, with_live, live_count}
use Rattle.plai_table.specs.Contents.{row_of, rows_in, view_of}

by_mark : (was : Bool) → cond was 1 0 + cond (not was) 1 0 ≡ 1
by_mark true = refl
by_mark false = refl

at_most_one : (b : Bool) → cond b 1 0 ≤ 1
at_most_one true = omega arith
at_most_one false = omega arith

module _ {V : Type 0} where
  -- the names of the rows are the keys of the map
  pub names_in : (entries : List (Key V × Contents V)) → names_of (rows_in entries) ≡ keys_of entries
  names_in [] = refl
  names_in (e ∷ entries) = ap (λ rest. e.0 ∷ rest) (names_in entries)

  pub length_in : (entries : List (Key V × Contents V)) → length (rows_in entries) ≡ length entries
  length_in [] = refl
  length_in (e ∷ entries) = ap suc (length_in entries)

  pub get_in : (entries : List (Key V × Contents V)) (i : ℕ) (e : Key V × Contents V) → slice_get entries i ≡ Some e
      → slice_get (rows_in entries) i ≡ Some (row_of e)
  get_in [] i e h = cc
  get_in (a ∷ entries) zero e h = let k : a ≡ e = cc in ap (λ b. Some (row_of b)) k
  get_in (a ∷ entries) (suc i) e h = get_in entries i e h

  -- a write by index changes the row there
  pub set_in : (f : TableRow V → TableRow V) (entries : List (Key V × Contents V)) (i : ℕ) (k : Key V) (v w : Contents V)
      → slice_get entries i ≡ Some (k, v) → row_of (k, w) ≡ f (row_of (k, v))
      → rows_in (set_value_at entries i w) ≡ row_changed f (rows_in entries) i
  set_in f [] i k v w h e = refl
  set_in f (a ∷ entries) zero k v w h e =
      let m : a ≡ (k, v) = cc in
      ap (λ r. r ∷ rows_in entries) (subst (λ b. row_of (b.0, w) ≡ f (row_of b)) (sym m) e)
  set_in f (a ∷ entries) (suc i) k v w h e = ap (λ rest. row_of a ∷ rest) (set_in f entries i k v w h e)

  abbrev one : TableRow V → ℕ
  one r = cond r.live 1 0

  -- what a change of a row does to the number of live rows
  pub live_changed : (f : TableRow V → TableRow V) (rows : List (TableRow V)) (i : ℕ) (r : TableRow V) → slice_get rows i ≡ Some r
      → live_count (row_changed f rows i) + cond r.live 1 0 ≡ live_count rows + cond (f r).live 1 0
  live_changed f [] i r h = cc
  live_changed f (a ∷ rows) zero r h =
      let m : a ≡ r = cc in
      let p : live_count (f a ∷ rows) ≡ one (f a) + live_count rows = sum_by-cons one (f a) rows in
      let q : live_count (a ∷ rows) ≡ one a + live_count rows = sum_by-cons one a rows in
      let s : one a ≡ one r = ap one m in
      let t : one (f a) ≡ one (f r) = ap (λ b. one (f b)) m in
      omega arith
  live_changed f (a ∷ rows) (suc i) r h =
      let k : live_count (row_changed f rows i) + one r ≡ live_count rows + one (f r) = live_changed f rows i r h in
      let p : live_count (a ∷ row_changed f rows i) ≡ one a + live_count (row_changed f rows i) = sum_by-cons one a (row_changed f rows i) in
      let q : live_count (a ∷ rows) ≡ one a + live_count rows = sum_by-cons one a rows in
      omega arith

  pub live_push : (rows : List (TableRow V)) (r : TableRow V) → live_count (rows ++ r ∷ []) ≡ live_count rows + cond r.live 1 0
  live_push rows r = sum_by-append one rows (r ∷ []) ∙ ap (λ n. live_count rows + n) (zero-add (one r))

  pub live_within : (rows : List (TableRow V)) → live_count rows ≤ length rows
  live_within [] = omega arith
  live_within (a ∷ rows) =
      let k : live_count rows ≤ length rows = live_within rows in
      let h : one a ≤ 1 = at_most_one a.live in
      let q : live_count (a ∷ rows) ≡ one a + live_count rows = sum_by-cons one a rows in
      omega arith

  -- a removed row is counted no more
  pub live_removed : (rows : List (TableRow V)) (i : ℕ) (r : TableRow V) → slice_get rows i ≡ Some r
      → live_count (swap_remove rows i r) + cond r.live 1 0 ≡ live_count rows
  live_removed rows i r h =
      let f : TableRow V → ℕ = λ r. cond r.live 1 0 in
      let within : i < length rows = slice_get_within rows i r h in
      let here : get_or rows i r ≡ r = get_or_from_slice_get rows i r r h in
      ap (λ q. live_count (swap_remove rows i r) + f q) (sym here) ∙ sum_by-swap_remove f rows i r within

-- a name that no row has is no key
pub absent_in : {V S : Type 0} (eq : Key V → Key V → Bool) (m : IndexMap (Key V) (Contents V) S) (name : Key V)
    → position (eq name) (names_of (rows_in m.entries)) ≡ None → get eq m name ≡ None
absent_in eq m name h =
    let p : position (eq name) (keys m) ≡ None = ap (λ names. position (eq name) names) (sym (names_in m.entries)) ∙ h in
    none_of (get eq m name) (sym (some_index (eq name) m.entries) ∙ ap is_some p)
  where
    none_of : {A : Type 0} (o : Option A) → is_some o ≡ false → o ≡ None
    none_of None e = refl
    none_of (Some a) e = cc

module _ {V : Type 0} where
  push_in : (entries : List (Key V × Contents V)) (e : Key V × Contents V) → rows_in (entries ++ e ∷ []) ≡ rows_in entries ++ row_of e ∷ []
  push_in [] e = refl
  push_in (a ∷ entries) e = ap (λ rest. row_of a ∷ rest) (push_in entries e)

  -- the test for equal names, of one for equal calls
  abbrev pub same_key : (V → V → Bool) → Key V → Key V → Bool
  same_key same_call a b = (pred_eq.ghosts).eq a.pred b.pred && same_call a.call b.call

  -- a new name goes last
  pub added : {S : Type 0} (same_call : V → V → Bool) (m : IndexMap (Key V) (Contents V) S) (t : TableView V) (name : Key V) (w : Contents V)
      (new : List (Key V × Contents V))
      → view_of m ≡ t → position (same_key same_call name) (names_of t.rows) ≡ None → new ≡ insert_entry (same_key same_call) m.entries name w
      → rows_in new ≡ t.rows ++ row_of (name, w) ∷ []
  added same_call m t name w new view none e =
      let rows : rows_in m.entries ≡ t.rows = ap (λ (v : TableView V). v.rows) view in
      let absent : get (same_key same_call) m name ≡ None =
      absent_in (same_key same_call) m name (ap (λ rows. position (same_key same_call name) (names_of rows)) rows ∙ none) in
      ap rows_in e ∙ ap rows_in (insert_entry-new (same_key same_call) m name w absent) ∙ push_in m.entries (name, w)
      ∙ ap (λ rows. rows ++ row_of (name, w) ∷ []) rows

  -- the number of live rows after one is added
  pub live_added : (rows new : List (TableRow V)) (r : TableRow V) (live : ℕ) → r.live ≡ true → new ≡ rows ++ r ∷ [] → live ≡ live_count rows
      → live + 1 ≡ live_count new
  live_added rows new r live is e n =
      let k : live_count new ≡ live_count rows + cond r.live 1 0 = ap live_count e ∙ live_push rows r in
      let l : live_count new ≡ live_count rows + 1 = subst (λ b. live_count new ≡ live_count rows + cond b 1 0) is k in omega arith

  -- the place of a name among the names of the rows is its place among the keys
  pub found_in : {S : Type 0} (test : Key V → Bool) (m : IndexMap (Key V) (Contents V) S) (t : TableView V) (r : Option ℕ)
      → view_of m ≡ t → r ≡ position test (keys m) → r ≡ position test (names_of t.rows)
  found_in test m t r view e =
      e ∙ ap (position test) (sym (names_in m.entries)) ∙ ap (λ (v : TableView V). position test (names_of v.rows)) view

  -- a change that leaves the marks leaves the number of live rows
  pub live_same : (f : TableRow V → TableRow V) → ((r : TableRow V) → (f r).live ≡ r.live) → (rows new : List (TableRow V)) (i live : ℕ)
      → new ≡ row_changed f rows i → live ≡ live_count rows → live ≡ live_count new
  live_same f says rows new i live e n = n ∙ sym (kept rows i) ∙ ap live_count (sym e)
    where
      kept : (rows : List (TableRow V)) (i : ℕ) → live_count (row_changed f rows i) ≡ live_count rows
      kept [] i = refl
      kept (r ∷ rows) zero = sum_by-cons one (f r) rows ∙ ap (λ b. cond b 1 0 + live_count rows) (says r) ∙ sym (sum_by-cons one r rows)
      kept (r ∷ rows) (suc i) = sum_by-cons one r (row_changed f rows i) ∙ ap (λ n. one r + n) (kept rows i) ∙ sym (sum_by-cons one r rows)

  length_changed : (f : TableRow V → TableRow V) (rows : List (TableRow V)) (i : ℕ) → length (row_changed f rows i) ≡ length rows
  length_changed f [] i = refl
  length_changed f (r ∷ rows) zero = refl
  length_changed f (r ∷ rows) (suc i) = ap suc (length_changed f rows i)

  pub woken : (rows new : List (TableRow V)) (i live : ℕ) (was : Bool) → new ≡ row_changed (with_live true) rows i
      → ((r : TableRow V) → slice_get rows i ≡ Some r → r.live ≡ was) → (r : TableRow V) × (slice_get rows i ≡ Some r) → live ≡ live_count rows
      → live + cond (not was) 1 0 ≡ live_count new
  woken rows new i live was e says (r, at) n =
      let k : live_count (row_changed (with_live true) rows i) + cond was 1 0 ≡ live_count rows + 1 =
      subst (λ b. live_count (row_changed (with_live true) rows i) + cond b 1 0 ≡ live_count rows + 1) (says r at)
      (live_changed (with_live true) rows i r at) in
      let both : cond was 1 0 + cond (not was) 1 0 ≡ 1 = by_mark was in
      let l : live_count new ≡ live_count (row_changed (with_live true) rows i) = ap live_count e in
      omega arith

  pub slept : (rows new : List (TableRow V)) (i live : ℕ) (was : Bool) → new ≡ row_changed (with_live false) rows i
      → ((r : TableRow V) → slice_get rows i ≡ Some r → r.live ≡ was) → (r : TableRow V) × (slice_get rows i ≡ Some r) → live ≡ live_count rows
      → live_count new + cond was 1 0 ≡ live
  slept rows new i live was e says (r, at) n =
      let k : live_count (row_changed (with_live false) rows i) + cond was 1 0 ≡ live_count rows + 0 =
      subst (λ b. live_count (row_changed (with_live false) rows i) + cond b 1 0 ≡ live_count rows + 0) (says r at)
      (live_changed (with_live false) rows i r at) in
      let l : live_count new ≡ live_count (row_changed (with_live false) rows i) = ap live_count e in
      omega arith

  pub taken : (rows new : List (TableRow V)) (i live : ℕ) (was : Bool) → ((r : TableRow V) → slice_get rows i ≡ Some r → new ≡ swap_remove rows i r)
      → ((r : TableRow V) → slice_get rows i ≡ Some r → r.live ≡ was) → (r : TableRow V) × (slice_get rows i ≡ Some r) → live ≡ live_count rows
      → live_count new + cond was 1 0 ≡ live
  taken rows new i live was e says (r, at) n =
      let k : live_count (swap_remove rows i r) + cond was 1 0 ≡ live_count rows =
      subst (λ b. live_count (swap_remove rows i r) + cond b 1 0 ≡ live_count rows) (says r at) (live_removed rows i r at) in
      let l : live_count new ≡ live_count (swap_remove rows i r) = ap live_count (e r at) in
      omega arith

  -- the row that is taken away
  pub taken_away : (entries new : List (Key V × Contents V)) (i : ℕ) (o : Option (Key V × Contents V)) (p : Key V × Contents V) → o ≡ Some p
      → o ≡ slice_get entries i
      → IfSome o (λ q. new ≡ swap_remove entries i q) → (r : TableRow V) → slice_get (rows_in entries) i ≡ Some r
      → (rows_in new ≡ swap_remove (rows_in entries) i r) × (r.live ≡ p.1.live)
  taken_away entries new i o p is at removed r h =
      let here : slice_get entries i ≡ Some p = sym at ∙ is in
      let k : slice_get (rows_in entries) i ≡ Some (row_of p) = get_in entries i p here in
      let e : row_of p ≡ r = cc in
      let n : new ≡ swap_remove entries i p = subst (λ z. IfSome z (λ q. new ≡ swap_remove entries i q)) is removed in
      let within : i < length entries = slice_get_within entries i p here in
      let some : 0 < length entries = omega arith in
      (ap rows_in n ∙ map-swap_remove row_of entries i p some ∙ ap (λ q. swap_remove (rows_in entries) i q) e, ap (λ (q : TableRow V). q.live) (sym e))

  pub there_is : (entries : List (Key V × Contents V)) (i : ℕ) (o : Option (Key V × Contents V)) (p : Key V × Contents V) → o ≡ Some p → o ≡ slice_get entries i
      → (r : TableRow V) × (slice_get (rows_in entries) i ≡ Some r)
  there_is entries i o p is at = (row_of p, get_in entries i p (sym at ∙ is))

  pub live_at : (entries : List (Key V × Contents V)) (i : ℕ) (k : Key V) (w : Contents V) → slice_get entries i ≡ Some (k, w)
      → (r : TableRow V) → slice_get (rows_in entries) i ≡ Some r → r.live ≡ w.live
  live_at entries i k w at r h =
      let g : slice_get (rows_in entries) i ≡ Some (row_of (k, w)) = get_in entries i (k, w) at in
      let e : r ≡ row_of (k, w) = cc in
      ap (λ (q : TableRow V). q.live) e

  -- names of rows are distinct where keys are
  pub distinct_in : {S : Type 0} (same : Key V → Key V → Bool) (m : IndexMap (Key V) (Contents V) S) (t : TableView V) → view_of m ≡ t
      → IsDistinct same (keys m) → HaveDistinctNames same t.rows
  distinct_in same m t view h =
      subst (λ (v : TableView V). HaveDistinctNames same v.rows) view (subst (IsDistinct same) (sym (names_in m.entries)) h)

  -- there are no more live rows than rows
  pub live_fits : (entries : List (Key V × Contents V)) (n len : ℕ) → n ≡ live_count (rows_in entries) → len ≡ length entries → n ≤ len
  live_fits entries n len e l =
      let k : live_count (rows_in entries) ≤ length (rows_in entries) = live_within (rows_in entries) in
      let m : length (rows_in entries) ≡ length entries = length_in entries in
      omega arith

pub no_more : (a b n : ℕ) → a + b ≡ n → b ≤ n
no_more a b n e = omega arith

pub what_is_left : (a b n r : ℕ) → a + b ≡ n → r + b ≡ n → r ≡ a
what_is_left a b n r e f = omega arith
