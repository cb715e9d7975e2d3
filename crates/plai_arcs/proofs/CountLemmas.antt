-- How often items stand in a list, under changes.
use Rattle.std.proofs.Common.{◌≡◌, ℕ, zero, suc, ◌+◌, ◌-◌, ◌<◌, ◌≤◌, Bool, true, false, ◌&&◌, ◌||◌, nat_eq, nat_lt, List, [], ◌∷◌, ◌++◌, length, take, drop}
use Rattle.std.proofs.Common.{slice_set, slice_index_or, refl, sym, ap, ◌∙◌, subst, add-one, zero-add, arith}
use Rattle.std.specs.List.{count_by, list_any, swap_remove}
use Rattle.std.proofs.lemmas.Bool.{eqb-true, eq-eqb}
use Rattle.std.proofs.lemmas.List.Sums.{sum_by-cons, sum_by_push, sum_by-set, sum_by-swap_remove, sum_by_more}
use Rattle.plai_arcs.specs.Places.{at}
use Rattle.plai_arcs.specs.Links.{is_pair, one_if, last_is}

-- tests of equality say that items are equal
pub pair_is : (p x : ℕ × ℕ) → is_pair p.0 p.1 x ≡ true → p ≡ x
pair_is p x h = let P : ℕ × ℕ → ℕ × ℕ → Type 0 = λ a b. a ≡ b in by (nat_eq p.0 x.0) (nat_eq p.1 x.1) refl refl h
  where
    by : (a b : Bool) → nat_eq p.0 x.0 ≡ a → nat_eq p.1 x.1 ≡ b → (a && b) ≡ true → p ≡ x
    by true true e f g = let i : p.0 ≡ x.0 = eqb-true p.0 x.0 e in let j : p.1 ≡ x.1 = eqb-true p.1 x.1 f in λ k. (i k, j k)
    by true false e f g = cc
    by false b e f g = cc

pub row_is : (q x : ℕ) → nat_eq q x ≡ true → q ≡ x
row_is q x h = eqb-true q x h

pub pair_itself : (r c : ℕ) → is_pair r c (r, c) ≡ true
pair_itself r c = ap (λ b. b && nat_eq c c) (eq-eqb r r refl) ∙ eq-eqb c c refl

module _ {T : Type 0} (eq : T → T → Bool) (exact : (x y : T) → eq x y ≡ true → x ≡ y) where
  pub found_inside : (x : T) (xs : List T) (i : ℕ) → at (eq x) false xs i ≡ true → i < length xs
  found_inside x [] i h = cc
  found_inside x (y ∷ ys) zero h = omega arith
  found_inside x (y ∷ ys) (suc i) h = let k : i < length ys = found_inside x ys i h in omega arith

  pub found_is : (x : T) (xs : List T) (i : ℕ) (d : T) → at (eq x) false xs i ≡ true → slice_index_or xs i d ≡ x
  found_is x [] i d h = cc
  found_is x (y ∷ ys) zero d h = sym (exact x y h)
  found_is x (y ∷ ys) (suc i) d h = found_is x ys i d h

  -- a found item taken away
  pub count_taken : (t : T → Bool) (x : T) (xs : List T) (i : ℕ) → at (eq x) false xs i ≡ true → count_by t (swap_remove xs i x) + one_if (t x) ≡ count_by t xs
  count_taken t x xs i h =
      ap (λ y. count_by t (swap_remove xs i x) + one_if (t y)) (sym (found_is x xs i x h))
      ∙ sum_by-swap_remove (λ y. one_if (t y)) xs i x (found_inside x xs i h)

  -- a found item replaced
  pub count_renamed : (t : T → Bool) (x y : T) (xs : List T) (i : ℕ) → at (eq x) false xs i ≡ true
      → count_by t (slice_set xs i y) + one_if (t x) ≡ count_by t xs + one_if (t y)
  count_renamed t x y xs i h =
      ap (λ z. count_by t (slice_set xs i y) + one_if (t z)) (sym (found_is x xs i x h)) ∙ sum_by-set (λ z. one_if (t z)) xs i y x (found_inside x xs i h)

-- an item put at the end
pub count_pushed : {T : Type 0} (t : T → Bool) (x : T) (xs : List T) → count_by t (xs ++ x ∷ []) ≡ count_by t xs + one_if (t x)
count_pushed t x xs = sum_by_push (λ y. one_if (t y)) xs x

pub count_more : {T : Type 0} (t : T → Bool) (xs : List T) (i : ℕ) (d : T) → i < length xs
    → count_by t (take (i + 1) xs) ≡ count_by t (take i xs) + one_if (t (slice_index_or xs i d))
count_more t xs i d h = sum_by_more (λ y. one_if (t y)) xs i d h

-- all of them
pub count_all : {T : Type 0} (xs : List T) → count_by (λ (x : T). true) xs ≡ length xs
count_all [] = refl
count_all (x ∷ xs) = sum_by-cons (λ y. 1) x xs ∙ ap (λ n. 1 + n) (count_all xs) ∙ omega arith

-- a list where an item stands goes on to it
pub count_goes_on : {T : Type 0} (t : T → Bool) (xs : List T) (i : ℕ) → 0 < count_by t (drop i xs) → i < length xs
count_goes_on t [] zero h = h
count_goes_on t [] (suc i) h = absurd (omega arith)
count_goes_on t (x ∷ xs) zero h = omega arith
count_goes_on t (x ∷ xs) (suc i) h = let k : i < length xs = count_goes_on t xs i h in omega arith

count_passes_one : {T : Type 0} (t : T → Bool) (xs : List T) (i : ℕ) → at t false xs i ≡ false → 0 < count_by t (drop i xs) → 0 < count_by t (drop (suc i) xs)
count_passes_one t [] zero fails h = h
count_passes_one t [] (suc i) fails h = h
count_passes_one t (x ∷ xs) zero fails h =
    subst (λ n. 0 < n) (sum_by-cons (λ y. one_if (t y)) x xs ∙ ap (λ b. one_if b + count_by t xs) fails ∙ zero-add (count_by t xs)) h
count_passes_one t (x ∷ xs) (suc i) fails h = count_passes_one t xs i fails h

pub count_passes : {T : Type 0} (t : T → Bool) (xs : List T) (i : ℕ) → at t false xs i ≡ false → 0 < count_by t (drop i xs) → 0 < count_by t (drop (i + 1) xs)
count_passes t xs i fails h = subst (λ n. 0 < count_by t (drop n xs)) (sym (add-one i)) (count_passes_one t xs i fails h)

-- whether an item stands in a list
or_positive : (b a : Bool) (n : ℕ) → a ≡ nat_lt 0 n → (b || a) ≡ nat_lt 0 (one_if b + n)
or_positive true a n e = grind arith
or_positive false a n e = e ∙ ap (λ m. nat_lt 0 m) (sym (zero-add n))

pub any_count : {T : Type 0} (t : T → Bool) (xs : List T) → list_any t xs ≡ nat_lt 0 (count_by t xs)
any_count t [] = refl
any_count t (x ∷ xs) = or_positive (t x) (list_any t xs) (count_by t xs) (any_count t xs) ∙ ap (λ n. nat_lt 0 n) (sym (sum_by-cons (λ y. one_if (t y)) x xs))

-- a list where an item stands at most once
at_most_one : (n : ℕ) → n ≤ 1 → n ≡ one_if (nat_lt 0 n)
at_most_one zero h = refl
at_most_one (suc zero) h = refl
at_most_one (suc (suc n)) h = absurd (omega arith)

pub once_any : {T : Type 0} (t : T → Bool) (xs : List T) → count_by t xs ≤ 1 → count_by t xs ≡ one_if (list_any t xs)
once_any t xs h = at_most_one (count_by t xs) h ∙ ap one_if (sym (any_count t xs))

-- the last item
pub last_pushed : (r c : ℕ) (xs : List (ℕ × ℕ)) (x : ℕ × ℕ) → last_is r c (xs ++ x ∷ []) ≡ is_pair r c x
last_pushed r c [] x = refl
last_pushed r c (y ∷ []) x = refl
last_pushed r c (y ∷ z ∷ zs) x = last_pushed r c (z ∷ zs) x

pub last_counts : (r c : ℕ) (xs : List (ℕ × ℕ)) → last_is r c xs ≡ true → 0 < count_by (is_pair r c) xs
last_counts r c [] h = cc
last_counts r c (x ∷ []) h = subst (λ n. 0 < n) (sym (sum_by-cons (λ z. one_if (is_pair r c z)) x [])) (subst (λ b. 0 < one_if b + 0) (sym h) (omega arith))
last_counts r c (x ∷ y ∷ ys) h =
    let more : 0 < count_by (is_pair r c) (y ∷ ys) = last_counts r c (y ∷ ys) h in
    subst (λ n. 0 < n) (sym (sum_by-cons (λ z. one_if (is_pair r c z)) x (y ∷ ys))) (omega arith)

pub last_at : (r c : ℕ) (xs : List (ℕ × ℕ)) (d : ℕ × ℕ) → 0 < length xs → last_is r c xs ≡ is_pair r c (slice_index_or xs (length xs - 1) d)
last_at r c [] d h = absurd (omega arith)
last_at r c (x ∷ []) d h = refl
last_at r c (x ∷ y ∷ ys) d h = last_at r c (y ∷ ys) d (omega arith) ∙ ap (λ n. is_pair r c (slice_index_or (x ∷ y ∷ ys) n d)) (one_further (length ys))
  where
    one_further : (n : ℕ) → suc (suc n - 1) ≡ suc (suc n) - 1
    one_further n = omega arith

pub no_items : {A : Type 0} (xs : List A) → length xs ≡ 0 → xs ≡ []
no_items [] h = refl
no_items (x ∷ xs) h = absurd (omega arith)

pub stands_at : {T : Type 0} (t : T → Bool) (xs : List T) (i : ℕ) (d : T) → i < length xs → t (slice_index_or xs i d) ≡ true → 0 < count_by t xs
stands_at t [] i d h e = absurd (omega arith)
stands_at t (x ∷ xs) zero d h e = subst (λ n. 0 < n) (sym (sum_by-cons (λ y. one_if (t y)) x xs))
    (subst (λ b. 0 < one_if b + count_by t xs) (sym e) (omega arith))
stands_at t (x ∷ xs) (suc i) d h e =
    let more : 0 < count_by t xs = stands_at t xs i d (omega arith) e in
    subst (λ n. 0 < n) (sym (sum_by-cons (λ y. one_if (t y)) x xs)) (omega arith)
