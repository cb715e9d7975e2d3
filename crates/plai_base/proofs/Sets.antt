-- Sets of masks: membership, and lists with the same members.
use Rattle.std.proofs.Common.{◌≡◌, ℕ, zero, suc, ◌+◌, ◌<◌, Bool, true, false, ◌&&◌, ◌||◌, nat_eq, cond, List, [], ◌∷◌, ◌++◌, filter, length, get_or, take}
use Rattle.std.proofs.Common.{inl, inr, refl, sym, ap, ◌∙◌, arith, subst}
use Rattle.std.proofs.lemmas.Bool.{eq-eqb, eqb-true, eqb-false, and_parts, and_from, or_cases, or_left, or_right, false≢true}
use Rattle.std.proofs.lemmas.List.Elements.{filter-append, filter_more}
use Rattle.std.proofs.lemmas.List.{append-nil}
use Rattle.plai_base.specs.Sets.{has, has_some, kept, IsSet, IsWithin}

pub by_test : {P : Type 0} (b : Bool) → (b ≡ true → P) → (b ≡ false → P) → P
by_test true h k = h refl
by_test false h k = k refl

-- two tests that imply each other are equal
pub same_tests : (a b : Bool) → (a ≡ true → b ≡ true) → (b ≡ true → a ≡ true) → a ≡ b
same_tests true b h k = sym (h refl)
same_tests false true h k = k refl
same_tests false false h k = refl

pub has-append : (xs ys : List ℕ) (m : ℕ) → has (xs ++ ys) m ≡ (has xs m || has ys m)
has-append [] ys m = refl
has-append (x ∷ xs) ys m = by_test (nat_eq x m) (λ t. rw t refl) (λ t. rw (t, has-append xs ys m) refl)

has_last : (b : Bool) (n m : ℕ) → has (cond b (n ∷ []) []) m ≡ true → (b ≡ true) × (n ≡ m)
has_last true n m e = (refl, elim (or_cases (nat_eq n m) false e) [ inl h ↦ eqb-true n m h | inr h ↦ absurd (false≢true h) ])
has_last false n m e = absurd (false≢true e)

last_has : (b : Bool) (n : ℕ) → b ≡ true → has (cond b (n ∷ []) []) n ≡ true
last_has b n e = rw e (or_left (nat_eq n n) false (eq-eqb n n refl))

-- what is kept is below the bound and passes
pub has_kept : (b : ℕ) (t : ℕ → Bool) (m : ℕ) → has (kept b t) m ≡ true → (m < b) × (t m ≡ true)
unfolding kept
has_kept zero t m e = absurd (false≢true e)
has_kept (suc b) t m e =
    elim (or_cases (has (kept b t) m) (has (cond (t b) (b ∷ []) []) m) (sym (has-append (kept b t) (cond (t b) (b ∷ []) []) m) ∙ e)) [
      | inl h ↦ let r = has_kept b t m h in let l : m < suc b = omega (arith, r.0) in (l, r.1)
      | inr h ↦ let r = has_last (t b) b m h in let l : m < suc b = omega (arith, r.1) in (l, subst (λ k. t k ≡ true) r.1 r.0)
    ]

-- and the other way
pub kept_has : (b : ℕ) (t : ℕ → Bool) (m : ℕ) → m < b → t m ≡ true → has (kept b t) m ≡ true
unfolding kept
kept_has zero t m l e = absurd (omega (arith, l))
kept_has (suc b) t m l e =
    has-append (kept b t) (cond (t b) (b ∷ []) []) m ∙
    by_test (nat_eq b m)
    (λ q. or_right (has (kept b t) m) _ (subst (λ k. has (cond (t b) (b ∷ []) []) k ≡ true) (eqb-true b m q)
    (last_has (t b) b (subst (λ k. t k ≡ true) (sym (eqb-true b m q)) e))))
    (λ q. let lower : m < b = omega (arith, l, eqb-false b m q) in or_left (has (kept b t) m) _ (kept_has b t m lower e))

pub kept_same : (b : ℕ) (t u : ℕ → Bool) → ((m : ℕ) → m < b → t m ≡ u m) → kept b t ≡ kept b u
unfolding kept
kept_same zero t u h = refl
kept_same (suc b) t u h =
    let last : t b ≡ u b = h b (omega arith) in
    let rest = kept_same b t u (λ m l. h m (omega arith)) in
    rw (rest, last) refl

pub IsSet_below : (b : ℕ) (xs : List ℕ) (m : ℕ) → IsSet b xs → has xs m ≡ true → m < b
IsSet_below b xs m s e = (has_kept b (has xs) m (sym (ap (λ l. has l m) s) ∙ e)).0

pub has-kept : (b : ℕ) (t : ℕ → Bool) (m : ℕ) → m < b → has (kept b t) m ≡ t m
has-kept b t m l = same_tests _ _ (λ e. (has_kept b t m e).1) (λ e. kept_has b t m l e)

pub IsSet-kept : (b : ℕ) (t : ℕ → Bool) → IsSet b (kept b t)
IsSet-kept b t = kept_same b t (has (kept b t)) (λ m l. sym (has-kept b t m l))

-- two sets with the same members are equal
pub same_set : (b : ℕ) (xs ys : List ℕ) → IsSet b xs → IsSet b ys → ((m : ℕ) → m < b → has xs m ≡ has ys m) → xs ≡ ys
same_set b xs ys s r h = s ∙ kept_same b (has xs) (has ys) h ∙ sym r

pub antisym : (b : ℕ) (xs ys : List ℕ) → IsSet b xs → IsSet b ys → IsWithin xs ys → IsWithin ys xs → xs ≡ ys
antisym b xs ys s r h k = same_set b xs ys s r (λ m l. same_tests _ _ (h m) (k m))

-- a set is known as what it keeps
pub is_kept : (b : ℕ) (xs : List ℕ) (t : ℕ → Bool) → IsSet b xs → ((m : ℕ) → m < b → has xs m ≡ t m) → xs ≡ kept b t
is_kept b xs t s h = s ∙ kept_same b (has xs) t h

filter_one : (p : ℕ → Bool) (c : Bool) (n : ℕ) → filter p (cond c (n ∷ []) []) ≡ cond (c && p n) (n ∷ []) []
filter_one p true n = refl
filter_one p false n = refl

pub filter-kept : (b : ℕ) (p t : ℕ → Bool) → filter p (kept b t) ≡ kept b (λ m. t m && p m)
unfolding kept
filter-kept zero p t = refl
filter-kept (suc b) p t =
    filter-append p (kept b t) (cond (t b) (b ∷ []) [])
    ∙ rw (filter-kept b p t, filter_one p (t b) b) refl

pub IsSet-filter : (b : ℕ) (p : ℕ → Bool) (xs : List ℕ) → IsSet b xs → IsSet b (filter p xs)
IsSet-filter b p xs s =
    let e : filter p xs ≡ kept b (λ m. has xs m && p m) = ap (filter p) s ∙ filter-kept b p (has xs) in
    subst (λ l. IsSet b l) (sym e) (IsSet-kept b (λ m. has xs m && p m))

filter_step : (c : Bool) (p : ℕ → Bool) (x m : ℕ) (fs : List ℕ) → p x ≡ c → (has fs m ≡ true → p m ≡ true) → has (cond c (x ∷ fs) fs) m ≡ true → p m ≡ true
filter_step true p x m fs e k h =
    elim (or_cases (nat_eq x m) (has fs m) h) [ inl q ↦ subst (λ i. p i ≡ true) (eqb-true x m q) e | inr q ↦ k q ]
filter_step false p x m fs e k h = k h

pub filter_passes : (p : ℕ → Bool) (xs : List ℕ) (m : ℕ) → has (filter p xs) m ≡ true → p m ≡ true
filter_passes p [] m e = absurd (false≢true e)
filter_passes p (x ∷ xs) m e = filter_step (p x) p x m (filter p xs) refl (filter_passes p xs m) e

filter_in : (c : Bool) (x m : ℕ) (fs xs : List ℕ) → (has fs m ≡ true → has xs m ≡ true) → has (cond c (x ∷ fs) fs) m ≡ true → (nat_eq x m || has xs m) ≡ true
filter_in true x m fs xs k h = elim (or_cases (nat_eq x m) (has fs m) h) [ inl q ↦ or_left _ _ q | inr q ↦ or_right _ _ (k q) ]
filter_in false x m fs xs k h = or_right _ _ (k h)

pub filter_within : (p : ℕ → Bool) (xs : List ℕ) → IsWithin (filter p xs) xs
filter_within p [] m e = e
filter_within p (x ∷ xs) m e = filter_in (p x) x m (filter p xs) xs (filter_within p xs m) e

filter_to : (c : Bool) (p : ℕ → Bool) (x m : ℕ) (fs xs : List ℕ) → p x ≡ c → (has xs m ≡ true → has fs m ≡ true) → p m ≡ true
    → (nat_eq x m || has xs m) ≡ true → has (cond c (x ∷ fs) fs) m ≡ true
filter_to true p x m fs xs e k t h = elim (or_cases (nat_eq x m) (has xs m) h) [ inl q ↦ or_left _ _ q | inr q ↦ or_right _ _ (k q) ]
filter_to false p x m fs xs e k t h =
    elim (or_cases (nat_eq x m) (has xs m) h) [ inl q ↦ absurd (false≢true (sym e ∙ ap p (eqb-true x m q) ∙ t)) | inr q ↦ k q ]

pub has_filter : (p : ℕ → Bool) (xs : List ℕ) (m : ℕ) → has xs m ≡ true → p m ≡ true → has (filter p xs) m ≡ true
has_filter p [] m h t = h
has_filter p (x ∷ xs) m h t = filter_to (p x) p x m (filter p xs) xs refl (λ q. has_filter p xs m q t) t h

pub has-filter : (p : ℕ → Bool) (xs : List ℕ) (m : ℕ) → has (filter p xs) m ≡ (has xs m && p m)
has-filter p xs m = same_tests _ _
    (λ e. and_from _ _ (filter_within p xs m e) (filter_passes p xs m e))
    (λ e. let r = and_parts (has xs m) (p m) e in has_filter p xs m r.0 r.1)

-- some member passes
pub some_from : (xs : List ℕ) (t : ℕ → Bool) (m : ℕ) → has xs m ≡ true → t m ≡ true → has_some xs t ≡ true
some_from [] t m h e = h
some_from (x ∷ xs) t m h e = elim (or_cases (nat_eq x m) (has xs m) h) [
  | inl q ↦ or_left _ _ (subst (λ i. t i ≡ true) (sym (eqb-true x m q)) e)
  | inr q ↦ or_right _ _ (some_from xs t m q e)
]

pub some_of : (xs : List ℕ) (t : ℕ → Bool) → has_some xs t ≡ true → (m : ℕ) × (has xs m ≡ true) × (t m ≡ true)
some_of [] t e = absurd (false≢true e)
some_of (x ∷ xs) t e = elim (or_cases (t x) (has_some xs t) e) [
  | inl q ↦ (x, or_left _ _ (eq-eqb x x refl), q)
  | inr q ↦ let (m, h, k) = some_of xs t q in (m, or_right _ _ h, k)
]

-- ---- a loop that keeps what passes

pub kept_none : (t : ℕ → Bool) → kept 0 t ≡ []
unfolding kept
kept_none t = refl

pub kept_next : (n : ℕ) (t : ℕ → Bool) → kept (n + 1) t ≡ kept n t ++ cond (t n) (n ∷ []) []
unfolding kept
kept_next n t = let e : n + 1 ≡ suc n = omega arith in ap (λ k. kept k t) e

pub kept_with : (n : ℕ) (t : ℕ → Bool) → t n ≡ true → kept (n + 1) t ≡ kept n t ++ n ∷ []
kept_with n t e = kept_next n t ∙ ap (λ b. kept n t ++ cond b (n ∷ []) []) e

pub kept_without : (n : ℕ) (t : ℕ → Bool) → t n ≡ false → kept (n + 1) t ≡ kept n t
kept_without n t e = kept_next n t ∙ ap (λ b. kept n t ++ cond b (n ∷ []) []) e ∙ append-nil (kept n t)

-- ---- a loop that keeps what passes of a list

pub filter_with : (p : ℕ → Bool) (xs items next : List ℕ) (i x : ℕ) → i < length xs → x ≡ get_or xs i x → items ≡ filter p (take i xs)
    → true ≡ p x → next ≡ items ++ x ∷ [] → next ≡ filter p (take (i + 1) xs)
filter_with p xs items next i x l is e t g =
    let m = filter_more p xs i x l in
    let c : cond (p x) (x ∷ []) [] ≡ x ∷ [] = ap (λ b. cond b (x ∷ []) []) (sym t) in
    let q : cond (p (get_or xs i x)) (get_or xs i x ∷ []) [] ≡ cond (p x) (x ∷ []) [] = ap (λ z. cond (p z) (z ∷ []) []) (sym is) in
    g ∙ ap (λ l. l ++ x ∷ []) e ∙ sym (m ∙ ap (λ l. filter p (take i xs) ++ l) (q ∙ c))

pub filter_without : (p : ℕ → Bool) (xs items next : List ℕ) (i x : ℕ) → i < length xs → x ≡ get_or xs i x → items ≡ filter p (take i xs)
    → false ≡ p x → next ≡ items → next ≡ filter p (take (i + 1) xs)
filter_without p xs items next i x l is e t g =
    let m = filter_more p xs i x l in
    let c : cond (p x) (x ∷ []) [] ≡ [] = ap (λ b. cond b (x ∷ []) []) (sym t) in
    let q : cond (p (get_or xs i x)) (get_or xs i x ∷ []) [] ≡ cond (p x) (x ∷ []) [] = ap (λ z. cond (p z) (z ∷ []) []) (sym is) in
    g ∙ e ∙ sym (m ∙ ap (λ l. filter p (take i xs) ++ l) (q ∙ c) ∙ append-nil (filter p (take i xs)))
