-- Rows that are removed one after another.
use Rattle.std.proofs.Common.{◌≡◌, ◌≢◌, ◌⊎◌, ℕ, zero, suc, ◌+◌, ◌-◌, ◌<◌, ◌≤◌, Bool, true, false, nat_eq, eqb-true, nat_lt, List, [], ◌∷◌, length, get_or}
use Rattle.std.proofs.Common.{slice_get, slice_set, take, Option, Some, None, IfSome, IfNone, sym, refl, ap, ◌∙◌, subst, inl, inr, arith}
use Rattle.std.specs.List.{swap_remove, slice_index_or}
use Rattle.std.proofs.lemmas.Bool.{ltb-true, ltb-false}
use Rattle.std.proofs.lemmas.Option.{slice_get_within, slice_get_past, slice_get-get_or}
use Rattle.plai_theory.specs.Words.{given}
use Rattle.plai_theory.proofs.Options.{by_test}
use Rattle.plai_arcs.specs.declared.arcs.Arcs.{Arcs}
use Rattle.plai_arcs.specs.Arcs.{is_dirty, is_call}
use Rattle.plai_arcs.specs.Moves.{was, of_row}
use Rattle.plai_table.specs.Rows.{TableRow}
use Rattle.plai_repair.specs.Removal.{Renumbers, IsTaken, Removes}
use Rattle.plai_repair.proofs.Renumbered.{back, after, at_after, of_after, of_same, given_same, of_swap, other_is, was_moved, was_last, was_else, was_gone}
use Rattle.plai_repair.proofs.Renumbered.{was_there, was_back, was_onto, was_below, of_both, same_numbers, same_at, same_past, same_is, of_numbers}

module _ {V : Type 0} where
  pub renumbers_then : (had then : ℕ → Option ℕ) (rows mid new : List (TableRow V)) (arcs mid_arcs new_arcs : Arcs) → Renumbers had rows arcs mid mid_arcs
      → Renumbers then mid mid_arcs new new_arcs → Renumbers (λ k. after (then k) had) rows arcs new new_arcs
  renumbers_then had then rows mid new arcs mid_arcs new_arcs a b = record {
    items = λ k. b.items k ∙ given_same (then k) (slice_get mid) (λ n. given None (slice_get rows) (had n)) a.items ∙ at_after (then k) had (slice_get rows);
    dirty = λ r c. b.dirty r c ∙ of_same (then r) (λ n. is_dirty mid_arcs n c) (λ n. of_row (had n) (λ m. is_dirty arcs m c)) (λ n. a.dirty n c)
        ∙ of_after (then r) had (λ m. is_dirty arcs m c);
    calls = λ r c q. b.calls r c q ∙ of_same (then r) (λ n. of_row (then q) (λ d. is_call mid_arcs n c d))
        (λ n. of_row (had n) (λ m. of_row (after (then q) had) (λ d. is_call arcs m c d))) (λ n. inner n c q)
        ∙ of_after (then r) had (λ m. of_row (after (then q) had) (λ d. is_call arcs m c d));
  }
    where
      inner : (n c q : ℕ) → of_row (then q) (λ d. is_call mid_arcs n c d) ≡ of_row (had n) (λ m. of_row (after (then q) had) (λ d. is_call arcs m c d))
      inner n c q =
          of_same (then q) (λ d. is_call mid_arcs n c d) (λ d. of_row (had n) (λ m. of_row (had d) (λ e. is_call arcs m c e))) (λ d. a.calls n c d)
          ∙ of_swap (then q) (had n) (λ d m. of_row (had d) (λ e. is_call arcs m c e))
          ∙ of_same (had n) (λ m. of_row (then q) (λ d. of_row (had d) (λ e. is_call arcs m c e)))
          (λ m. of_row (after (then q) had) (λ d. is_call arcs m c d)) (λ m. of_after (then q) had (λ d. is_call arcs m c d))

  pub removes_none : (marks : List Bool) (rows : List (TableRow V)) (arcs : Arcs) → ((r c : ℕ) → is_dirty arcs r c ≡ true → r < length rows)
      → ((r c q : ℕ) → is_call arcs r c q ≡ true → r < length rows) → ((r c q : ℕ) → is_call arcs r c q ≡ true → q < length rows)
      → Removes marks (length rows) rows arcs rows arcs
  removes_none marks rows arcs d a b =
      let size = length rows in record {
        had = same_numbers size;
        renumbers = record {
          items = λ k. by_test (nat_lt k size) (λ t. sym (ap (given None (slice_get rows)) (same_at size k (ltb-true k size t))))
              (λ t. let past = ltb-false k size t in slice_get_past rows k past ∙ sym (ap (given None (slice_get rows)) (same_past size k past)));
          dirty = λ r c. of_numbers size r (λ n. is_dirty arcs n c) (d r c);
          calls = λ r c q. of_numbers size r (λ n. is_call arcs n c q) (a r c q)
              ∙ of_same (same_numbers size r) (λ n. is_call arcs n c q) (λ n. of_row (same_numbers size q) (λ m. is_call arcs n c m))
              (λ n. of_numbers size q (λ m. is_call arcs n c m) (b n c q));
        };
        below = λ k h. same_at size k h;
        kept = λ k j e h. let s = same_is size k j e in let l = s.1 in absurd (omega (arith, h, l));
        within = λ k j e. (same_is size k j e).1;
        whole = λ j h e. (j, same_at size j h);
        once = λ k l j e f. (same_is size k j e).0 ∙ sym (same_is size l j f).0;
      }

  -- a row is left
  pub removes_less : (marks : List Bool) (i : ℕ) (rows mid new : List (TableRow V)) (arcs mid_arcs new_arcs : Arcs)
      → Removes marks (i + 1) rows arcs mid mid_arcs → get_or marks i false ≡ false → new ≡ mid
      → ((r c : ℕ) → is_dirty new_arcs r c ≡ is_dirty mid_arcs r c) → ((r c q : ℕ) → is_call new_arcs r c q ≡ is_call mid_arcs r c q)
      → Removes marks i rows arcs new new_arcs
  removes_less marks i rows mid new arcs mid_arcs new_arcs s unmarked e d a = record {
    had = s.had;
    renumbers = record {
      items = λ k. ap (λ (xs : List (TableRow V)). slice_get xs k) e ∙ s.renumbers.items k;
      dirty = λ r c. d r c ∙ s.renumbers.dirty r c;
      calls = λ r c q. a r c q ∙ s.renumbers.calls r c q;
    };
    below = λ k h. s.below k (omega (arith, h));
    kept = λ k j f h. by_test (nat_eq j i) (λ t. ap (λ (n : ℕ). get_or marks n false) (eqb-true j i t) ∙ unmarked)
        (λ t. let n = other_is j i t in s.kept k j f (omega (arith, h, n)));
    within = s.within;
    whole = λ j h o. s.whole j h (wider j o);
    once = s.once;
  }
    where
      wider : (j : ℕ) → (j < i) ⊎ (get_or marks j false ≡ false) → (j < i + 1) ⊎ (get_or marks j false ≡ false)
      wider j (inl h) = inl (omega (arith, h))
      wider j (inr f) = inr f

  -- a row is taken out
  pub removes_more : (marks : List Bool) (i : ℕ) (rows mid new : List (TableRow V)) (arcs mid_arcs new_arcs : Arcs)
      → Removes marks (i + 1) rows arcs mid mid_arcs → get_or marks i false ≡ true → IsTaken i mid mid_arcs new new_arcs
      → Removes marks i rows arcs new new_arcs
  removes_more marks i rows mid new arcs mid_arcs new_arcs s marked t = record {
    had = λ k. after (was i t.moved k) s.had;
    renumbers = renumbers_then s.had (was i t.moved) rows mid new arcs mid_arcs new_arcs s.renumbers t.renumbers;
    below = λ k h. ap (λ o. after o s.had) (was_below i t.moved t.greater k h) ∙ s.below k (omega (arith, h));
    kept = λ k j e h. keep k j h (of_both (was i t.moved k) s.had j e);
    within = λ k j e. let (b, f, g) = of_both (was i t.moved k) s.had j e in s.within b j g;
    whole = λ j h o. all j o (s.whole j h (wider j o));
    once = λ k l j e f.
        let (b, g, x) = of_both (was i t.moved k) s.had j e in let (c, h, y) = of_both (was i t.moved l) s.had j f in
        let same : b ≡ c = s.once b c j x y in
        (was_back i t.moved t.greater k b g).0 ∙ ap (back i t.moved) same ∙ sym (was_back i t.moved t.greater l c h).0;
  }
    where
      at : s.had i ≡ Some i
      at = s.below i (omega arith)

      keep : (k j : ℕ) → i ≤ j → (b : ℕ) × (was i t.moved k ≡ Some b) × (s.had b ≡ Some j) → get_or marks j false ≡ false
      keep k j h (b, f, g) =
          by_test (nat_eq j i)
          (λ u. let is = eqb-true j i u in
          absurd ((was_back i t.moved t.greater k b f).1 (s.once b i i (g ∙ ap Some is) at)))
          (λ u. let n = other_is j i u in s.kept b j g (omega (arith, h, n)))

      wider : (j : ℕ) → (j < i) ⊎ (get_or marks j false ≡ false) → (j < i + 1) ⊎ (get_or marks j false ≡ false)
      wider j (inl h) = inl (omega (arith, h))
      wider j (inr f) = inr f

      apart : (j : ℕ) → (j < i) ⊎ (get_or marks j false ≡ false) → j ≢ i
      apart j (inl h) e = omega (arith, h, e)
      apart j (inr f) e = let u : get_or marks i false ≡ false = ap (λ (n : ℕ). get_or marks n false) (sym e) ∙ f in cc

      all : (j : ℕ) → (j < i) ⊎ (get_or marks j false ≡ false) → (b : ℕ) × (s.had b ≡ Some j) → (k : ℕ) × (after (was i t.moved k) s.had ≡ Some j)
      all j o (b, g) =
          let away : b ≢ i = λ e. apart j o
          (let u : s.had i ≡ Some j = ap s.had (sym e) ∙ g in let v = at in let w : ◌≡◌ {A = Option ℕ} (Some i) (Some j) = sym v ∙ u in
          let same : i ≡ j = cc in sym same) in
          let (k, f) = was_onto i t.moved t.greater b away in (k, ap (λ p. after p s.had) f ∙ g)

  -- the row at hand is one of the table
  pub removes_there : (marks : List Bool) (i : ℕ) (rows mid : List (TableRow V)) (arcs mid_arcs : Arcs)
      → Removes marks (i + 1) rows arcs mid mid_arcs → i < length rows → i < length mid
  removes_there marks i rows mid arcs mid_arcs s h =
      let e = s.renumbers.items i ∙ ap (given None (slice_get rows)) (s.below i (omega arith)) in
      let d = within_get rows i h in let (r, f) = d in slice_get_within mid i r (e ∙ f)
    where
      within_get : (xs : List (TableRow V)) (i : ℕ) → i < length xs → (r : TableRow V) × (slice_get xs i ≡ Some r)
      within_get [] i h = absurd (omega (arith, h))
      within_get (x ∷ xs) zero h = (x, refl)
      within_get (x ∷ xs) (suc i) h = within_get xs i (omega (arith, h))

-- the list without an item
get_take : {A : Type 0} (n : ℕ) (xs : List A) (k : ℕ) → k < n → slice_get (take n xs) k ≡ slice_get xs k
get_take zero xs k h = absurd (omega (arith, h))
get_take (suc n) [] k h = refl
get_take (suc n) (x ∷ xs) zero h = refl
get_take (suc n) (x ∷ xs) (suc k) h = get_take n xs k (omega (arith, h))

take_past : {A : Type 0} (n : ℕ) (xs : List A) (k : ℕ) → n ≤ k → slice_get (take n xs) k ≡ None
take_past zero xs k h = refl
take_past (suc n) [] k h = refl
take_past (suc n) (x ∷ xs) zero h = absurd (omega (arith, h))
take_past (suc n) (x ∷ xs) (suc k) h = take_past n xs k (omega (arith, h))

get_set : {A : Type 0} (xs : List A) (i : ℕ) (y : A) → i < length xs → slice_get (slice_set xs i y) i ≡ Some y
get_set [] i y h = absurd (omega (arith, h))
get_set (x ∷ xs) zero y h = refl
get_set (x ∷ xs) (suc i) y h = get_set xs i y (omega (arith, h))

get_set_else : {A : Type 0} (xs : List A) (i k : ℕ) (y : A) → k ≢ i → slice_get (slice_set xs i y) k ≡ slice_get xs k
get_set_else [] i k y n = refl
get_set_else (x ∷ xs) zero zero y n = absurd (n refl)
get_set_else (x ∷ xs) zero (suc k) y n = refl
get_set_else (x ∷ xs) (suc i) zero y n = refl
get_set_else (x ∷ xs) (suc i) (suc k) y n = get_set_else xs i k y (λ e. n (ap suc e))

pub swap_rows : {A : Type 0} (xs : List A) (i : ℕ) (x : A) (moved : Option ℕ) → i < length xs
    → IfSome moved (λ last. (last + 1 ≡ length xs) × (i < last)) → IfNone moved (i + 1 ≡ length xs)
    → (k : ℕ) → slice_get (swap_remove xs i x) k ≡ given None (slice_get xs) (was i moved k)
swap_rows {A} xs i x None h s n k =
    by_test (nat_eq k i)
    (λ t. let is = eqb-true k i t in
    take_past (length xs - 1) _ k (omega (arith, is, n)) ∙ sym (ap (given None (slice_get xs)) (ap (was i None) is ∙ was_gone i)))
    (λ t. let other = other_is k i t in
    by_test (nat_lt k (length xs - 1))
    (λ u. let l = ltb-true k (length xs - 1) u in
    get_take (length xs - 1) _ k l ∙ get_set_else xs i k _ other ∙ sym (ap (given None (slice_get xs)) (was_there i k other)))
    (λ u. let l = ltb-false k (length xs - 1) u in
    take_past (length xs - 1) _ k l ∙ sym (slice_get_past xs k (omega (arith, l, n, other)))
    ∙ sym (ap (given None (slice_get xs)) (was_there i k other))))
swap_rows {A} xs i x (Some last) h s n k =
    by_test (nat_eq k i)
    (λ t. let is = eqb-true k i t in let long = s.0 in let less = s.1 in
    get_take (length xs - 1) _ k (omega (arith, is, long, less))
    ∙ ap (slice_get (slice_set xs i (slice_index_or xs (length xs - 1) x))) is ∙ get_set xs i _ h
    ∙ sym (slice_get-get_or xs (length xs - 1) x (omega (arith, h)))
    ∙ ap (slice_get xs) (let w : length xs - 1 ≡ last = omega (arith, long) in w)
    ∙ sym (ap (given None (slice_get xs)) (ap (was i (Some last)) is ∙ was_moved i last)))
    (λ t. let other = other_is k i t in let long = s.0 in let less = s.1 in
    by_test (nat_eq k last)
    (λ u. let is = eqb-true k last u in
    take_past (length xs - 1) _ k (omega (arith, is, long)) ∙ sym (ap (given None (slice_get xs)) (ap (was i (Some last)) is ∙ was_last i last less)))
    (λ u. let away = other_is k last u in
    by_test (nat_lt k (length xs - 1))
    (λ v. let l = ltb-true k (length xs - 1) v in
    get_take (length xs - 1) _ k l ∙ get_set_else xs i k _ other ∙ sym (ap (given None (slice_get xs)) (was_else i last k other away)))
    (λ v. let l = ltb-false k (length xs - 1) v in
    take_past (length xs - 1) _ k l ∙ sym (slice_get_past xs k (omega (arith, l, long, away)))
    ∙ sym (ap (given None (slice_get xs)) (was_else i last k other away)))))

less_of : (row size : ℕ) (moved : Option ℕ) → IfSome moved (λ last. (last + 1 ≡ size) × (row < last)) → IfSome moved (λ last. row < last)
less_of row size None h = h
less_of row size (Some last) h = h.1

pub taken : {V : Type 0} (row : ℕ) (rows new : List (TableRow V)) (arcs new_arcs : Arcs) (moved : Option ℕ) → row < length rows
    → ((r : TableRow V) → slice_get rows row ≡ Some r → new ≡ swap_remove rows row r)
    → IfSome moved (λ last. (last + 1 ≡ length rows) × (row < last)) → IfNone moved (row + 1 ≡ length rows)
    → ((r c : ℕ) → is_dirty new_arcs r c ≡ of_row (was row moved r) (λ b. is_dirty arcs b c))
    → ((r c q : ℕ) → is_call new_arcs r c q ≡ of_row (was row moved r) (λ b. of_row (was row moved q) (λ d. is_call arcs b c d)))
    → IsTaken row rows arcs new new_arcs
taken {V} row rows new arcs new_arcs moved h e s n d a = record {
  moved = moved;
  greater = less_of row (length rows) moved s;
  renumbers = record { items = λ k. read k (within_get rows row h); dirty = d; calls = a };
}
  where
    within_get : (xs : List (TableRow V)) (i : ℕ) → i < length xs → (r : TableRow V) × (slice_get xs i ≡ Some r)
    within_get [] i h = absurd (omega (arith, h))
    within_get (x ∷ xs) zero h = (x, refl)
    within_get (x ∷ xs) (suc i) h = within_get xs i (omega (arith, h))

    read : (k : ℕ) → (r : TableRow V) × (slice_get rows row ≡ Some r) → slice_get new k ≡ given None (slice_get rows) (was row moved k)
    read k (r, f) = ap (λ (xs : List (TableRow V)). slice_get xs k) (e r f) ∙ swap_rows rows row r moved h s n k

-- one more row is seen
pub removes_next : {V : Type 0} (marks : List Bool) (i n : ℕ) (marked : Bool) (rows mid new : List (TableRow V)) (arcs mid_arcs new_arcs : Arcs) → i + 1 ≡ n
    → Removes marks n rows arcs mid mid_arcs → get_or marks i false ≡ marked → (marked ≡ true → IsTaken i mid mid_arcs new new_arcs)
    → (marked ≡ false → new ≡ mid) → (marked ≡ false → (r c : ℕ) → is_dirty new_arcs r c ≡ is_dirty mid_arcs r c)
    → (marked ≡ false → (r c q : ℕ) → is_call new_arcs r c q ≡ is_call mid_arcs r c q)
    → Removes marks i rows arcs new new_arcs
removes_next marks i n marked rows mid new arcs mid_arcs new_arcs e s f t a b d =
    let at : Removes marks (i + 1) rows arcs mid mid_arcs = subst (λ (m : ℕ). Removes marks m rows arcs mid mid_arcs) (sym e) s in
    by_test marked (λ u. removes_more marks i rows mid new arcs mid_arcs new_arcs at (f ∙ u) (t u))
    (λ u. removes_less marks i rows mid new arcs mid_arcs new_arcs at (f ∙ u) (a u) (b u) (d u))
