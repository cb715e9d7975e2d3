-- Lists by place, as slices and as lists of the theory.
use Rattle.std.proofs.Common.{◌≡◌, ℕ, zero, suc, ◌+◌, ◌<◌, Bool, cond, count_by, List, [], ◌∷◌, ◌++◌, map, length, slice_get, Some, IsSome, sym, refl, ap}
use Rattle.std.proofs.Common.{◌∙◌, arith}
use Rattle.std.proofs.lemmas.List.Sums.{sum_by-cons}
use Rattle.plai_theory.specs.Words.{item}

pub length_map : {A B : Type 0} (f : A → B) (xs : List A) → length (map f xs) ≡ length xs
length_map f [] = refl
length_map f (x ∷ xs) = ap suc (length_map f xs)

pub length_push : {A : Type 0} (xs : List A) (x : A) → length (xs ++ x ∷ []) ≡ length xs + 1
length_push [] x = refl
length_push (y ∷ xs) x = let k : length (xs ++ x ∷ []) ≡ length xs + 1 = length_push xs x in omega arith

pub item_within : {A : Type 0} (xs : List A) (i : ℕ) → IsSome (item xs i) → i < length xs
item_within [] i h = cc
item_within (x ∷ xs) zero h = omega arith
item_within (x ∷ xs) (suc i) h = let k : i < length xs = item_within xs i h in omega arith

pub slice_item : {A : Type 0} (xs : List A) (i : ℕ) (x : A) → slice_get xs i ≡ Some x → item xs i ≡ Some x
slice_item [] i x e = cc
slice_item (y ∷ xs) zero x e = e
slice_item (y ∷ xs) (suc i) x e = slice_item xs i x e

pub item_slice : {A : Type 0} (xs : List A) (i : ℕ) (x : A) → item xs i ≡ Some x → slice_get xs i ≡ Some x
item_slice [] i x e = cc
item_slice (y ∷ xs) zero x e = e
item_slice (y ∷ xs) (suc i) x e = item_slice xs i x e

pub count_cons : {A : Type 0} (p : A → Bool) (x : A) (xs : List A) → count_by p (x ∷ xs) ≡ cond (p x) 1 0 + count_by p xs
count_cons p x xs = sum_by-cons (λ y. cond (p y) 1 0) x xs

pub count_map : {A B : Type 0} (f : A → B) (p : B → Bool) (xs : List A) → count_by p (map f xs) ≡ count_by (λ x. p (f x)) xs
count_map f p [] = refl
count_map f p (x ∷ xs) = count_cons p (f x) (map f xs) ∙ ap (λ n. cond (p (f x)) 1 0 + n) (count_map f p xs) ∙ sym (count_cons (λ y. p (f y)) x xs)

pub count_push : {A : Type 0} (p : A → Bool) (xs : List A) (x : A) → count_by p (xs ++ x ∷ []) ≡ count_by p xs + cond (p x) 1 0
count_push p [] x = count_cons p x [] ∙ omega arith
count_push p (y ∷ xs) x =
    let a = count_cons p y (xs ++ x ∷ []) in
    let b = count_push p xs x in
    let c = count_cons p y xs in omega arith
