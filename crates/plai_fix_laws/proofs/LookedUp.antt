-- What names that were looked up tell: the rows of those that have one, and all that have none.
use Rattle.std.proofs.Common.{◌≡◌, ◌⊎◌, ◌↔◌, ℕ, Bool, true, false, nat_eq, eqb-true, ◌||◌, List, [], ◌∷◌, ◌++◌, map, Option, Some, None, IsSome, sym, refl}
use Rattle.std.proofs.Common.{ap, ◌∙◌, subst, inl, inr}
use Rattle.std.specs.List.{list_any}
use Rattle.std.proofs.lemmas.Bool.{eq-eqb}
use Rattle.plai_theory.specs.Words.{IsIn, HasSome, item}
use Rattle.plai_theory.specs.Domain.{Domain}
use Rattle.plai_theory.specs.Evaluation.{NameOf}
use Rattle.plai_theory.proofs.Options.{by_test}
use Rattle.plai_fix_laws.specs.WorkStates.{KeptRow, IsNamed}
use Rattle.plai_fix_laws.specs.LookUps.{Looks, Begin, Found, Missed}

pub any_push : (p : ℕ → Bool) (xs : List ℕ) (x : ℕ) → list_any p (xs ++ x ∷ []) ≡ (list_any p xs || p x)
any_push p [] x = by_test (p x) (λ t. rw t refl) (λ t. rw t refl)
any_push p (y ∷ xs) x = by_test (p y) (λ t. rw t refl) (λ t. rw t (any_push p xs x))

or_left : (p q : Bool) → p ≡ true → (p || q) ≡ true
or_left true q e = refl
or_left false q e = cc

or_right : (p q : Bool) → q ≡ true → (p || q) ≡ true
or_right true q e = refl
or_right false q e = e

or_cases : {P : Type 0} (p q : Bool) → (p || q) ≡ true → (p ≡ true → P) → (q ≡ true → P) → P
or_cases true q e h k = h refl
or_cases false q e h k = k e

pub in_left : {A : Type 0} (xs ys : List A) (x : A) → IsIn x xs → IsIn x (xs ++ ys)
in_left [] ys x i = absurd i
in_left (y ∷ xs) ys x (inl e) = inl e
in_left (y ∷ xs) ys x (inr i) = inr (in_left xs ys x i)

pub in_last : {A : Type 0} (xs : List A) (x : A) → IsIn x (xs ++ x ∷ [])
in_last [] x = inl refl
in_last (y ∷ xs) x = inr (in_last xs x)

pub in_push : {A : Type 0} {P : Type 0} (xs : List A) (y x : A) → IsIn x (xs ++ y ∷ []) → (IsIn x xs → P) → (y ≡ x → P) → P
in_push [] y x (inl e) h k = k e
in_push [] y x (inr i) h k = absurd i
in_push (z ∷ xs) y x (inl e) h k = h (inl e)
in_push (z ∷ xs) y x (inr i) h k = in_push xs y x i (λ j. h (inr j)) k

pub names_push : {A B : Type 0} (f : A → B) (xs : List A) (x : A) → map f (xs ++ x ∷ []) ≡ map f xs ++ f x ∷ []
names_push f [] x = refl
names_push f (y ∷ xs) x = ap (λ rest. f y ∷ rest) (names_push f xs x)

module _ (d : Domain) (kept : List (KeptRow d)) where
  one_name : (j : ℕ) (x y : NameOf d) → IsNamed d kept j x → IsNamed d kept j y → x ≡ y
  one_name j x y e f = at_kept (item kept j) e f
    where
      at_kept : (o : Option (KeptRow d)) → HasSome (λ (k : KeptRow d). k.name ≡ x) o → HasSome (λ (k : KeptRow d). k.name ≡ y) o → x ≡ y
      at_kept None e f = absurd e
      at_kept (Some k) e f = sym e ∙ f

  is_row : (j : ℕ) (y : NameOf d) → IsNamed d kept j y → IsSome (item kept j)
  is_row j y e = at_kept (item kept j) e
    where
      at_kept : (o : Option (KeptRow d)) → HasSome (λ (k : KeptRow d). k.name ≡ y) o → IsSome o
      at_kept None e = absurd e
      at_kept (Some k) e = refl

  -- a row that was found is one of a name
  pub looks_sound : (names : List (NameOf d)) (rows : List ℕ) (missing : List (NameOf d)) → Looks d kept names rows missing → (j : ℕ)
      → list_any (nat_eq j) rows ≡ true
      → (y : NameOf d) × IsIn y names × IsNamed d kept j y
  looks_sound [] [] [] Begin j e = cc
  looks_sound names rows missing (Found {names = ns} {missing = ms} {rows = rs} y i looks named) j e =
      or_cases (list_any (nat_eq j) rs) (nat_eq j i) (sym (any_push (nat_eq j) rs i) ∙ e)
      (λ t. let (x, inside, n) = looks_sound ns rs ms looks j t in (x, in_left ns (y ∷ []) x inside, n))
      (λ t. (y, in_last ns y, subst (λ z. IsNamed d kept z y) (sym (eqb-true j i t)) named))
  looks_sound names rows missing (Missed {names = ns} {missing = ms} {rows = rs} y looks none) j e =
      let (x, inside, n) = looks_sound ns rs ms looks j e in (x, in_left ns (y ∷ []) x inside, n)

  pub looks_inside : (names : List (NameOf d)) (rows : List ℕ) (missing : List (NameOf d)) → Looks d kept names rows missing → (j : ℕ)
      → list_any (nat_eq j) rows ≡ true → IsSome (item kept j)
  looks_inside names rows missing looks j e = let (y, inside, n) = looks_sound names rows missing looks j e in is_row j y n

  -- each name has a row that was found, or is missing
  pub looks_whole : (names : List (NameOf d)) (rows : List ℕ) (missing : List (NameOf d)) → Looks d kept names rows missing → (y : NameOf d) → IsIn y names
      → ((j : ℕ) × (list_any (nat_eq j) rows ≡ true) × IsNamed d kept j y) ⊎ (IsIn y missing × ((j : ℕ) → IsNamed d kept j y → ⊥))
  looks_whole [] [] [] Begin y i = absurd i
  looks_whole names rows missing (Found {names = ns} {missing = ms} {rows = rs} x i looks named) y inside =
      in_push ns x y inside (λ k. more (looks_whole ns rs ms looks y k))
      (λ e. inl (i, any_push (nat_eq i) rs i ∙ or_right (list_any (nat_eq i) rs) (nat_eq i i) (eq-eqb i i refl), subst (IsNamed d kept i) e named))
    where
      more : ((j : ℕ) × (list_any (nat_eq j) rs ≡ true) × IsNamed d kept j y) ⊎ (IsIn y ms × ((j : ℕ) → IsNamed d kept j y → ⊥))
          → ((j : ℕ) × (list_any (nat_eq j) (rs ++ i ∷ []) ≡ true) × IsNamed d kept j y) ⊎ (IsIn y ms × ((j : ℕ) → IsNamed d kept j y → ⊥))
      more (inl (j, t, n)) = inl (j, any_push (nat_eq j) rs i ∙ or_left (list_any (nat_eq j) rs) (nat_eq j i) t, n)
      more (inr h) = inr h
  looks_whole names rows missing (Missed {names = ns} {missing = ms} {rows = rs} x looks none) y inside =
      in_push ns x y inside (λ k. more (looks_whole ns rs ms looks y k))
      (λ e. inr (subst (λ z. IsIn z (ms ++ x ∷ [])) e (in_last ms x), λ j n. none j (subst (IsNamed d kept j) (sym e) n)))
    where
      more : ((j : ℕ) × (list_any (nat_eq j) rs ≡ true) × IsNamed d kept j y) ⊎ (IsIn y ms × ((j : ℕ) → IsNamed d kept j y → ⊥))
          → ((j : ℕ) × (list_any (nat_eq j) rs ≡ true) × IsNamed d kept j y) ⊎ (IsIn y (ms ++ x ∷ []) × ((j : ℕ) → IsNamed d kept j y → ⊥))
      more (inl h) = inl h
      more (inr h) = inr (in_left ms (x ∷ []) y h.0, h.1)

  -- Theorem: where each name has at most one row, the rows that were found are those of the names.
  pub looks_right : ((i j : ℕ) (y : NameOf d) → IsNamed d kept i y → IsNamed d kept j y → i ≡ j)
      → (names : List (NameOf d)) (rows : List ℕ) (missing : List (NameOf d)) → Looks d kept names rows missing
      → (j : ℕ) (y : NameOf d) → IsNamed d kept j y → (list_any (nat_eq j) rows ≡ true) ↔ IsIn y names
  looks_right own names rows missing looks j y named = (
    λ t. let (x, inside, n) = looks_sound names rows missing looks j t in subst (λ z. IsIn z names) (one_name j x y n named) inside,
    λ inside. at_name (looks_whole names rows missing looks y inside),
  )
    where
      at_name : ((i : ℕ) × (list_any (nat_eq i) rows ≡ true) × IsNamed d kept i y) ⊎ (IsIn y missing × ((i : ℕ) → IsNamed d kept i y → ⊥))
          → list_any (nat_eq j) rows ≡ true
      at_name (inl (i, t, n)) = subst (λ z. list_any (nat_eq z) rows ≡ true) (own i j y n named) t
      at_name (inr h) = absurd (h.1 j named)

  -- a missing name is one of the names, and has no row
  pub looks_missing : (names : List (NameOf d)) (rows : List ℕ) (missing : List (NameOf d)) → Looks d kept names rows missing → (y : NameOf d) → IsIn y missing
      → IsIn y names × ((j : ℕ) → IsNamed d kept j y → ⊥)
  looks_missing [] [] [] Begin y i = absurd i
  looks_missing names rows missing (Found {names = ns} {missing = ms} {rows = rs} x i looks named) y inside =
      let (k, none) = looks_missing ns rs ms looks y inside in (in_left ns (x ∷ []) y k, none)
  looks_missing names rows missing (Missed {names = ns} {missing = ms} {rows = rs} x looks none) y inside =
      in_push ms x y inside
      (λ k. let (l, not_there) = looks_missing ns rs ms looks y k in (in_left ns (x ∷ []) y l, not_there))
      (λ e. (subst (λ z. IsIn z (ns ++ x ∷ [])) e (in_last ns x), λ j n. none j (subst (IsNamed d kept j) (sym e) n)))

  pub looks_none : (rows : List ℕ) (missing : List (NameOf d)) → rows ≡ [] → missing ≡ [] → Looks d kept [] rows missing
  looks_none rows missing e f = subst (λ rs. Looks d kept [] rs missing) (sym e) (subst (λ ms. Looks d kept [] [] ms) (sym f) Begin)

  -- one more name that has a row, and one that has none
  pub found_one : (y : NameOf d) (j : ℕ) (names : List (NameOf d)) (rows found : List ℕ) (missing : List (NameOf d)) → found ≡ rows ++ j ∷ []
      → IsNamed d kept j y
      → Looks d kept names rows missing → Looks d kept (names ++ y ∷ []) found missing
  found_one y j names rows found missing e named looks = subst (λ rs. Looks d kept (names ++ y ∷ []) rs missing) (sym e) (Found y j looks named)

  pub missed_one : {A : Type 0} (f : A → NameOf d) (x : A) (names : List (NameOf d)) (rows : List ℕ) (keys missed : List A) → missed ≡ keys ++ x ∷ []
      → ((j : ℕ) → IsNamed d kept j (f x) → ⊥)
      → Looks d kept names rows (map f keys) → Looks d kept (names ++ f x ∷ []) rows (map f missed)
  missed_one f x names rows keys missed e none looks =
      subst (λ ms. Looks d kept (names ++ f x ∷ []) rows ms) (sym (ap (map f) e ∙ names_push f keys x)) (Missed (f x) looks none)

  pub looks_push : {A : Type 0} (f : A → NameOf d) (keys : List A) (x : A) (rows : List ℕ) (missing : List (NameOf d))
      → Looks d kept (map f keys ++ f x ∷ []) rows missing → Looks d kept (map f (keys ++ x ∷ [])) rows missing
  looks_push f keys x rows missing looks = subst (λ ns. Looks d kept ns rows missing) (sym (names_push f keys x)) looks

  pub looks_all : {A : Type 0} (f : A → NameOf d) (keys all : List A) (rows : List ℕ) (missing : List (NameOf d)) → keys ≡ all
      → Looks d kept (map f keys) rows missing → Looks d kept (map f all) rows missing
  looks_all f keys all rows missing e looks = subst (λ ks. Looks d kept (map f ks) rows missing) e looks

pub map_same : {A : Type 0} (xs : List A) → map (λ x. x) xs ≡ xs
map_same [] = refl
map_same (x ∷ xs) = ap (λ rest. x ∷ rest) (map_same xs)
