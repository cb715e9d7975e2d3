-- Lists as functions of a place, under writes.
use Rattle.std.proofs.Common.{◌≡◌, ◌≢◌, ℕ, zero, suc, ◌+◌, ◌-◌, ◌<◌, ◌≤◌, Bool, true, false, cond, if◌then◌else◌, ◌&&◌, ◌||◌, not, nat_eq, List, [], ◌∷◌}
use Rattle.std.proofs.Common.{◌++◌, length, slice_get, slice_set, slice_index_or, Result, Ok, Err, OnOk, IsOk, min, Some, refl, sym, ap, ◌∙◌, subst, arith}
use Rattle.std.proofs.Math.Dec.{eqb-suc-suc, eqb-suc-zero, eqb-zero-suc}
use Rattle.std.proofs.lemmas.Bool.{ne_eqb, eqb-true, eq-eqb}
use Rattle.plai_arcs.specs.Places.{at}
use Rattle.plai_arcs.specs.Flags.{flag_at}

module _ {A B : Type 0} (f : A → B) (d : B) where
  pub at_past : (xs : List A) (i : ℕ) → length xs ≤ i → at f d xs i ≡ d
  at_past [] i h = refl
  at_past (x ∷ xs) zero h = absurd (omega arith)
  at_past (x ∷ xs) (suc i) h = at_past xs i (omega arith)

  -- the item written is there, and the others stay
  pub at_set : (xs : List A) (i k : ℕ) (a : A) → i < length xs → at f d (slice_set xs i a) k ≡ cond (nat_eq k i) (f a) (at f d xs k)
  at_set [] i k a h = absurd (omega arith)
  at_set (x ∷ xs) zero zero a h = refl
  at_set (x ∷ xs) zero (suc k) a h = ap (λ b. cond b (f a) (at f d xs k)) (sym (eqb-suc-zero k))
  at_set (x ∷ xs) (suc i) zero a h = ap (λ b. cond b (f a) (f x)) (sym (eqb-zero-suc i))
  at_set (x ∷ xs) (suc i) (suc k) a h = at_set xs i k a (omega arith) ∙ ap (λ b. cond b (f a) (at f d xs k)) (sym (eqb-suc-suc k i))

  -- an item that counts as none changes nothing at the end
  pub at_push : (xs : List A) (k : ℕ) (a : A) → f a ≡ d → at f d (xs ++ a ∷ []) k ≡ at f d xs k
  at_push [] zero a e = e
  at_push [] (suc k) a e = refl
  at_push (x ∷ xs) zero a e = refl
  at_push (x ∷ xs) (suc k) a e = at_push xs k a e

  pub at_get : (xs : List A) (i : ℕ) (a : A) → slice_get xs i ≡ Some a → at f d xs i ≡ f a
  at_get [] i a h = cc
  at_get (x ∷ xs) zero a h = let e : x ≡ a = cc in ap f e
  at_get (x ∷ xs) (suc i) a h = at_get xs i a h

module _ {A B : Type 0} (f : A → B) (d : B) where
  pub at_index : (xs : List A) (i : ℕ) (e : A) → i < length xs → at f d xs i ≡ f (slice_index_or xs i e)
  at_index [] i e h = absurd (omega arith)
  at_index (x ∷ xs) zero e h = refl
  at_index (x ∷ xs) (suc i) e h = at_index xs i e (omega arith)

  -- the item changed by g, as f sees it
  pub at_written : (xs : List A) (i : ℕ) (a e : A) (g : B → B) → i < length xs → f a ≡ g (f (slice_index_or xs i e)) → (k : ℕ)
      → at f d (slice_set xs i a) k ≡ cond (nat_eq k i) (g (at f d xs k)) (at f d xs k)
  at_written xs i a e g h is k = at_set f d xs i k a h ∙ by (nat_eq k i) refl
    where
      by : (b : Bool) → nat_eq k i ≡ b → cond b (f a) (at f d xs k) ≡ cond b (g (at f d xs k)) (at f d xs k)
      by true t = is ∙ ap g (sym (at_index xs i e h) ∙ ap (λ j. at f d xs j) (sym (eqb-true k i t)))
      by false t = refl

  -- an item that f sees as before leaves all as it was
  pub at_unchanged : (xs : List A) (i : ℕ) (a e : A) → i < length xs → f a ≡ f (slice_index_or xs i e) → (k : ℕ) → at f d (slice_set xs i a) k ≡ at f d xs k
  at_unchanged xs i a e h is k = at_written xs i a e (λ b. b) h is k ∙ by (nat_eq k i)
    where
      by : (b : Bool) → cond b (at f d xs k) (at f d xs k) ≡ at f d xs k
      by true = refl
      by false = refl

  pub at_same_place : (xs : List A) (i : ℕ) (a : A) → i < length xs → at f d (slice_set xs i a) i ≡ f a
  at_same_place xs i a h = at_set f d xs i i a h ∙ ap (λ b. cond b (f a) (at f d xs i)) (eq-eqb i i refl)

  -- a push that may fail
  pub at_pushed : (pushed : Bool) (old new : List A) (a : A) → f a ≡ d → new ≡ (if pushed then old ++ a ∷ [] else old) → (k : ℕ) → at f d new k ≡ at f d old k
  at_pushed true old new a is e k = ap (λ xs. at f d xs k) e ∙ at_push f d old k a is
  at_pushed false old new a is e k = ap (λ xs. at f d xs k) e

-- numbers at places
module _ {A : Type 0} (f : A → ℕ) where
  pub within : (xs : List A) (i n : ℕ) → n < at f 0 xs i → i < length xs
  within [] i n h = absurd (omega arith)
  within (x ∷ xs) zero n h = omega arith
  within (x ∷ xs) (suc i) n h = let k : i < length xs = within xs i n h in omega arith

  more_at_push : (xs : List A) (a : A) (k : ℕ) → at f 0 xs k ≤ at f 0 (xs ++ a ∷ []) k
  more_at_push [] a zero = omega arith
  more_at_push [] a (suc k) = omega arith
  more_at_push (x ∷ xs) a zero = omega arith
  more_at_push (x ∷ xs) a (suc k) = more_at_push xs a k

  pub more_pushed : (pushed : Bool) (old new : List A) (a : A) → new ≡ (if pushed then old ++ a ∷ [] else old) → (k : ℕ) → at f 0 old k ≤ at f 0 new k
  more_pushed true old new a e k = subst (λ xs. at f 0 old k ≤ at f 0 xs k) (sym e) (more_at_push old a k)
  more_pushed false old new a e k = subst (λ xs. at f 0 old k ≤ at f 0 xs k) (sym e) (omega arith)

  pub more_written : (xs : List A) (i : ℕ) (a e : A) → i < length xs → f (slice_index_or xs i e) ≤ f a → (k : ℕ) → at f 0 xs k ≤ at f 0 (slice_set xs i a) k
  more_written xs i a e h less k = subst (λ n. at f 0 xs k ≤ n) (sym (at_set f 0 xs i k a h)) (by (nat_eq k i) refl)
    where
      by : (b : Bool) → nat_eq k i ≡ b → at f 0 xs k ≤ cond b (f a) (at f 0 xs k)
      by true t = subst (λ n. n ≤ f a) (sym (at_index f 0 xs i e h) ∙ ap (λ j. at f 0 xs j) (sym (eqb-true k i t))) less
      by false t = omega arith

pub differs : (a b : ℕ) → a ≢ b → nat_eq a b ≡ false
differs a b h = ne_eqb a b h

-- flags under a write
flag_written : (flags : List Bool) (i k : ℕ) (b : Bool) → i < length flags → flag_at (slice_set flags i b) k ≡ cond (nat_eq k i) b (flag_at flags k)
flag_written [] i k b h = absurd (omega arith)
flag_written (x ∷ xs) zero zero b h = refl
flag_written (x ∷ xs) zero (suc k) b h = ap (λ t. cond t b (flag_at xs k)) (sym (eqb-suc-zero k))
flag_written (x ∷ xs) (suc i) zero b h = ap (λ t. cond t b x) (sym (eqb-zero-suc i))
flag_written (x ∷ xs) (suc i) (suc k) b h = flag_written xs i k b (omega arith) ∙ ap (λ t. cond t b (flag_at xs k)) (sym (eqb-suc-suc k i))

pub flag_set : (flags : List Bool) (i k : ℕ) → i < length flags → flag_at (slice_set flags i true) k ≡ (nat_eq k i || flag_at flags k)
flag_set flags i k h = flag_written flags i k true h ∙ by (nat_eq k i)
  where
    by : (b : Bool) → cond b true (flag_at flags k) ≡ (b || flag_at flags k)
    by true = refl
    by false = refl

pub flag_unset : (flags : List Bool) (i k : ℕ) → i < length flags → flag_at (slice_set flags i false) k ≡ (not (nat_eq k i) && flag_at flags k)
flag_unset flags i k h = flag_written flags i k false h ∙ by (nat_eq k i)
  where
    by : (b : Bool) → cond b false (flag_at flags k) ≡ (not b && flag_at flags k)
    by true = refl
    by false = refl

flag_past : (flags : List Bool) (k : ℕ) → length flags ≤ k → flag_at flags k ≡ false
flag_past [] k h = refl
flag_past (x ∷ xs) zero h = absurd (omega arith)
flag_past (x ∷ xs) (suc k) h = flag_past xs k (omega arith)

flag_push : (flags : List Bool) (k : ℕ) → flag_at (flags ++ false ∷ []) k ≡ flag_at flags k
flag_push [] zero = refl
flag_push [] (suc k) = refl
flag_push (x ∷ xs) zero = refl
flag_push (x ∷ xs) (suc k) = flag_push xs k

-- a push that may fail
pub flag_pushed : (pushed : Bool) (old new : List Bool) → new ≡ (if pushed then old ++ false ∷ [] else old) → (k : ℕ) → flag_at new k ≡ flag_at old k
flag_pushed true old new e k = ap (λ fs. flag_at fs k) e ∙ flag_push old k
flag_pushed false old new e k = ap (λ fs. flag_at fs k) e

-- a mark set at or above a number below which none is leaves none below
pub marked_above : (flags : List Bool) (first i n : ℕ) → ((k : ℕ) → k < first → flag_at flags k ≡ false) → i < length flags → n ≤ first → n ≤ i
    → (k : ℕ) → k < n → flag_at (slice_set flags i true) k ≡ false
marked_above flags first i n below within m h k less =
    let d : nat_eq k i ≡ false = differs k i (λ e. absurd (omega arith)) in
    let f : flag_at flags k ≡ false = below k (omega arith) in
    flag_set flags i k within ∙ rw (d, f) refl

-- a mark taken away leaves none below where none was
pub unmarked_below : (flags : List Bool) (first i : ℕ) → ((k : ℕ) → k < first → flag_at flags k ≡ false) → i < length flags
    → (k : ℕ) → k < first → flag_at (slice_set flags i false) k ≡ false
unmarked_below flags first i below within k less = flag_written flags i k false within ∙ by (nat_eq k i)
  where
    by : (b : Bool) → cond b false (flag_at flags k) ≡ false
    by true = refl
    by false = below k less

-- past the end there is no mark to be taken away
pub unset_past : (flags : List Bool) (i : ℕ) → length flags ≤ i → (k : ℕ) → flag_at flags k ≡ (not (nat_eq k i) && flag_at flags k)
unset_past [] i h k = by (nat_eq k i)
  where
    by : (b : Bool) → false ≡ (not b && false)
    by true = refl
    by false = refl
unset_past (x ∷ xs) zero h k = absurd (omega arith)
unset_past (x ∷ xs) (suc i) h zero = ap (λ t. not t && x) (sym (eqb-zero-suc i))
unset_past (x ∷ xs) (suc i) h (suc k) = unset_past xs i (omega arith) k ∙ ap (λ t. not t && flag_at xs k) (sym (eqb-suc-suc k i))

-- none is marked below a number past the end, so none at all
pub none_at_all : (flags : List Bool) (n : ℕ) → ((k : ℕ) → k < n → flag_at flags k ≡ false) → length flags ≤ n → (k : ℕ) → flag_at flags k ≡ false
none_at_all [] n below past k = refl
none_at_all (x ∷ xs) zero below past k = absurd (omega arith)
none_at_all (x ∷ xs) (suc n) below past zero = below 0 (omega arith)
none_at_all (x ∷ xs) (suc n) below past (suc k) = none_at_all xs n (λ j h. below (suc j) (omega arith)) (omega arith) k

-- a clause of a row is marked, and no other
pub marked_at : (b x y : Bool) → cond b (y || x) x ≡ ((b && y) || x)
marked_at true x y = refl
marked_at false x y = refl

-- a clause of a row is unmarked, and no other
pub unmarked_at : (b x y : Bool) → cond b (not y && x) x ≡ (not (b && y) && x)
unmarked_at true x y = refl
unmarked_at false x y = refl

pub through : (a b c : ℕ) → a ≤ b → b ≤ c → a ≤ c
through a b c h k = omega arith

pub up_to : (a b c : ℕ) → a < b → b ≤ c → a < c
up_to a b c h k = omega arith

-- what follows on success
pub on_ok : {T E : Type 0} (r : Result T E) {P Q : Type 0} → (P → Q) → OnOk r P → OnOk r Q
on_ok (Ok t) h p = h p
on_ok (Err e) h p = tt

-- room in two lists
pub fits_first : (n a b c d : ℕ) → n < min (suc b - a) (suc d - c) → a + n ≤ b
fits_first n a b c d h = omega arith

pub fits_second : (n a b c d : ℕ) → n < min (suc b - a) (suc d - c) → c + n ≤ d
fits_second n a b c d h = omega arith

pub one_fits_first : (n a b c d : ℕ) → 0 < min (b - a) (d - c) → a + 1 ≤ b
one_fits_first n a b c d h = omega arith

pub not_ok : {T E : Type 0} (r : Result T E) (e : E) → r ≡ Err e → IsOk r → ⊥
not_ok (Ok t) e h k = cc
not_ok (Err x) e h k = cc
