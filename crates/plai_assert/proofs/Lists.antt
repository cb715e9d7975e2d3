-- Tests of all members of a list, of those that are left in, and of a list in another order.
use Rattle.std.proofs.Common.{◌≡◌, ◌∙◌, ℕ, zero, suc, ◌+◌, ◌<◌, Bool, true, false, not, ◌&&◌, ◌||◌, cond, List, [], ◌∷◌, ◌++◌, map, filter, length, get_or}
use Rattle.std.proofs.Common.{All, refl, sym, ap, inl, inr, arith}
use Rattle.std.specs.List.{list_all, list_any, AllByRecursion}
use Rattle.std.specs.List.Sorted.{IsPermutation}
use Rattle.std.proofs.lemmas.List.Sorted.{list_any-IsPermutation}
use Rattle.std.proofs.lemmas.List.Elements.{recursion_from_All, All-from_recursion}
use Rattle.plai_theory.specs.Words.{IsIn}
use Rattle.plai_theory.proofs.Options.{by_test}

-- of those that are left in
pub all_filter : {A : Type 0} (f t : A → Bool) (xs : List A) → list_all t (filter f xs) ≡ list_all (λ x. not (f x) || t x) xs
all_filter f t [] = refl
all_filter f t (x ∷ xs) = by_test (f x) (λ e. rw e (ap (λ b. t x && b) (all_filter f t xs))) (λ e. rw e (all_filter f t xs))

pub all_kept : {A : Type 0} (out t : A → Bool) (xs : List A) → list_all t (filter (λ x. not (out x)) xs) ≡ list_all (λ x. out x || t x) xs
all_kept out t [] = refl
all_kept out t (x ∷ xs) = by_test (out x) (λ e. rw e (all_kept out t xs)) (λ e. rw e (ap (λ b. t x && b) (all_kept out t xs)))

-- in another order
all_by_none : {A : Type 0} (t : A → Bool) (xs : List A) → list_all t xs ≡ not (list_any (λ x. not (t x)) xs)
all_by_none t [] = refl
all_by_none t (x ∷ xs) = by_test (t x) (λ e. rw e (all_by_none t xs)) (λ e. rw e refl)

pub all_moved : {A : Type 0} (t : A → Bool) (xs ys : List A) → IsPermutation xs ys → list_all t xs ≡ list_all t ys
all_moved t xs ys moved = all_by_none t xs ∙ ap not (list_any-IsPermutation (λ x. not (t x)) xs ys moved) ∙ sym (all_by_none t ys)

-- of those that are left in, in another order
pub filter_moved : {A : Type 0} (f t : A → Bool) (xs ys : List A) → IsPermutation xs ys → list_all t (filter f xs) ≡ list_all t (filter f ys)
filter_moved f t xs ys moved = all_filter f t xs ∙ all_moved (λ x. not (f x) || t x) xs ys moved ∙ sym (all_filter f t ys)

pub filters_moved : {A : Type 0} (g f t : A → Bool) (xs ys : List A) → IsPermutation xs ys
    → list_all t (filter g (filter f xs)) ≡ list_all t (filter g (filter f ys))
filters_moved g f t xs ys moved = all_filter g t (filter f xs) ∙ filter_moved f (λ x. not (g x) || t x) xs ys moved ∙ sym (all_filter g t (filter f ys))

-- a member of a list passes a test that all pass
pub all_in_list : {A : Type 0} (t : A → Bool) (xs : List A) → list_all t xs ≡ true → (x : A) → IsIn x xs → t x ≡ true
all_in_list t [] h x i = absurd i
all_in_list t (y ∷ xs) h x (inl e) = by_test (t y) (λ u. ap t (sym e) ∙ u) (λ u. let no' : false ≡ true = rw u at h in cc)
all_in_list t (y ∷ xs) h x (inr i) = by_test (t y) (λ u. all_in_list t xs (rw u at h) x i) (λ u. let no' : false ≡ true = rw u at h in cc)

-- one that some member passes
pub any_in_list : {A : Type 0} (t : A → Bool) (xs : List A) → list_any t xs ≡ true → (x : A) × IsIn x xs × (t x ≡ true)
any_in_list t [] h = cc
any_in_list t (y ∷ xs) h = by_test (t y) (λ u. (y, inl refl, u)) (λ u. let (x, i, e) = any_in_list t xs (rw u at h) in (x, inr i, e))

-- members that are left in
pub in_filter : {A : Type 0} (f : A → Bool) (xs : List A) (x : A) → IsIn x xs → f x ≡ true → IsIn x (filter f xs)
in_filter f [] x i e = absurd i
in_filter f (y ∷ xs) x (inl same) e = let u : f y ≡ true = ap f same ∙ e in rw u (inl same)
in_filter f (y ∷ xs) x (inr i) e = by_test (f y) (λ u. rw u (inr (in_filter f xs x i e))) (λ u. rw u (in_filter f xs x i e))

pub in_at : {A : Type 0} (xs : List A) (n : ℕ) (x : A) → n < length xs → x ≡ get_or xs n x → IsIn x xs
in_at [] n x h e = absurd (omega arith)
in_at (y ∷ xs) zero x h e = inl (sym e)
in_at (y ∷ xs) (suc n) x h e = inr (in_at xs n x (omega arith) e)

-- what holds of all members that are left in
filtered : {A : Type 0} (P Q : A → Type 0) (f : A → Bool) (xs : List A) → ((x : A) → f x ≡ true → P x → Q x) → AllByRecursion P xs
    → AllByRecursion Q (filter f xs)
filtered P Q f [] k h = tt
filtered P Q f (x ∷ xs) k h = by_test (f x) (λ u. rw u (k x u h.0, filtered P Q f xs k h.1)) (λ u. rw u (filtered P Q f xs k h.1))

pub all_filtered : {A : Type 0} (P Q : A → Type 0) (f : A → Bool) (xs : List A) → ((x : A) → f x ≡ true → P x → Q x) → All P xs → All Q (filter f xs)
all_filtered P Q f xs k h = All-from_recursion Q (filter f xs) (filtered P Q f xs k (recursion_from_All P xs h))

pub map_push : {A B : Type 0} (f : A → B) (xs : List A) (x : A) → map f (xs ++ x ∷ []) ≡ map f xs ++ f x ∷ []
map_push f [] x = refl
map_push f (y ∷ xs) x = ap (λ rest. f y ∷ rest) (map_push f xs x)
