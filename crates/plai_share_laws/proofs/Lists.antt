-- Members of lists, and ascending lists.
use Rattle.std.proofs.Common.{◌≡◌, ◌⊎◌, ℕ, ◌<◌, Bool, true, false, nat_eq, nat_lt, List, [], ◌∷◌, ◌++◌, map, filter, refl, sym, ap, subst, inl, inr, arith}
use Rattle.std.proofs.lemmas.Bool.{eq-eqb, eqb-true}
use Rattle.std.proofs.lemmas.Bool.Decides.{nat_tests}
use Rattle.plai_share_laws.proofs.Members.{IsIn, IsWithin, AreAbove, IsAscending}
use Rattle.plai_base.specs.Sets.{has}
use Rattle.plai_share_laws.specs.Groups.{put, normal}
use Rattle.plai_share_laws.proofs.Masks.{by_test}

-- a choice of two: two cases
pub by_either : {A B C : Type 0} → A ⊎ B → (A → C) → (B → C) → C
by_either (inl a) f g = f a
by_either (inr b) f g = g b

pub in_append : {A : Type 0} (xs ys : List A) (x : A) → IsIn x (xs ++ ys) → IsIn x xs ⊎ IsIn x ys
in_append [] ys x i = inr i
in_append (a ∷ xs) ys x (inl e) = inl (inl e)
in_append (a ∷ xs) ys x (inr i) = by_either (in_append xs ys x i) (λ j. inl (inr j)) (λ j. inr j)

pub append_left : {A : Type 0} (xs ys : List A) (x : A) → IsIn x xs → IsIn x (xs ++ ys)
append_left [] ys x i = absurd i
append_left (a ∷ xs) ys x (inl e) = inl e
append_left (a ∷ xs) ys x (inr i) = inr (append_left xs ys x i)

pub append_right : {A : Type 0} (xs ys : List A) (x : A) → IsIn x ys → IsIn x (xs ++ ys)
append_right [] ys x i = i
append_right (a ∷ xs) ys x i = inr (append_right xs ys x i)

pub in_map : {A B : Type 0} (f : A → B) (xs : List A) (y : B) → IsIn y (map f xs) → (x : A) × IsIn x xs × (f x ≡ y)
in_map f [] y i = absurd i
in_map f (x ∷ xs) y (inl e) = (x, inl refl, e)
in_map f (x ∷ xs) y (inr i) = let (z, j, e) = in_map f xs y i in (z, inr j, e)

pub map_in : {A B : Type 0} (f : A → B) (xs : List A) (x : A) → IsIn x xs → IsIn (f x) (map f xs)
map_in f [] x i = absurd i
map_in f (a ∷ xs) x (inl e) = inl (ap f e)
map_in f (a ∷ xs) x (inr i) = inr (map_in f xs x i)

pub in_filter : {A : Type 0} (p : A → Bool) (xs : List A) (x : A) → IsIn x (filter p xs) → IsIn x xs × (p x ≡ true)
in_filter p [] x i = absurd i
in_filter p (a ∷ xs) x i = by_test (p a)
    (λ t. by_either (let j : (a ≡ x) ⊎ IsIn x (filter p xs) = rw t at i in j)
    (λ e. (inl e, subst (λ y. p y ≡ true) e t))
    (λ j. let (k, e) = in_filter p xs x j in (inr k, e)))
    (λ t. let (j, e) = in_filter p xs x (rw t at i) in (inr j, e))

pub filter_in : {A : Type 0} (p : A → Bool) (xs : List A) (x : A) → IsIn x xs → p x ≡ true → IsIn x (filter p xs)
filter_in p [] x i e = absurd i
filter_in p (a ∷ xs) x (inl d) e = let t : p a ≡ true = subst (λ y. p y ≡ true) (sym d) e in rw t (inl d)
filter_in p (a ∷ xs) x (inr i) e = by_test (p a) (λ t. rw t (inr (filter_in p xs x i e))) (λ t. rw t (filter_in p xs x i e))

-- put and normal keep the members
pub in_put : (m : ℕ) (xs : List ℕ) (x : ℕ) → IsIn x (put m xs) → (m ≡ x) ⊎ IsIn x xs
in_put m [] x i = i
in_put m (a ∷ xs) x i = by_test (nat_lt m a) (λ t. rw t at i)
    (λ t. by_test (nat_lt a m)
    (λ s. by_either (let j : (a ≡ x) ⊎ IsIn x (put m xs) = rw (t, s) at i in j)
    (λ e. inr (inl e))
    (λ j. by_either (in_put m xs x j) (λ e. inl e) (λ k. inr (inr k))))
    (λ s. inr (rw (t, s) at i)))

equal_when : (a b : ℕ) → nat_lt a b ≡ false → nat_lt b a ≡ false → a ≡ b
equal_when a b p q = grind (arith, nat_tests)

pub put_here : (m : ℕ) (xs : List ℕ) → IsIn m (put m xs)
put_here m [] = inl refl
put_here m (a ∷ xs) = by_test (nat_lt m a) (λ t. rw t (inl refl))
    (λ t. by_test (nat_lt a m) (λ s. rw (t, s) (inr (put_here m xs))) (λ s. rw (t, s) (inl (sym (equal_when m a t s)))))

pub put_there : (m : ℕ) (xs : List ℕ) (x : ℕ) → IsIn x xs → IsIn x (put m xs)
put_there m [] x i = absurd i
put_there m (a ∷ xs) x i = by_test (nat_lt m a) (λ t. rw t (inr i))
    (λ t. by_test (nat_lt a m) (λ s. rw (t, s) (by_either i (λ e. inl e) (λ j. inr (put_there m xs x j)))) (λ s. rw (t, s) i))

pub in_normal : (xs : List ℕ) (x : ℕ) → IsIn x (normal xs) → IsIn x xs
in_normal [] x i = i
in_normal (a ∷ xs) x i = by_either (in_put a (normal xs) x i) (λ e. inl e) (λ j. inr (in_normal xs x j))

pub normal_in : (xs : List ℕ) (x : ℕ) → IsIn x xs → IsIn x (normal xs)
normal_in [] x i = i
normal_in (a ∷ xs) x (inl e) = subst (λ y. IsIn y (put a (normal xs))) e (put_here a (normal xs))
normal_in (a ∷ xs) x (inr i) = put_there a (normal xs) x (normal_in xs x i)

above_when : (a b : ℕ) → nat_lt a b ≡ true → a < b
above_when a b t = grind (arith, nat_tests)

pub put_ascending : (m : ℕ) (xs : List ℕ) → IsAscending xs → IsAscending (put m xs)
put_ascending m [] h = (λ x i. absurd i, tt)
put_ascending m (a ∷ xs) h = by_test (nat_lt m a)
    (λ t. rw t (over (above_when m a t), h))
    (λ t. by_test (nat_lt a m) (λ s. rw (t, s) (both (above_when a m s), put_ascending m xs h.1)) (λ s. rw (t, s) h))
  where
    over : m < a → AreAbove m (a ∷ xs)
    over l x (inl e) = omega arith
    over l x (inr i) = let k : a < x = h.0 x i in omega arith

    both : a < m → AreAbove a (put m xs)
    both l x i = later (in_put m xs x i)
      where
        later : (m ≡ x) ⊎ IsIn x xs → a < x
        later (inl e) = omega arith
        later (inr j) = h.0 x j

pub normal_ascending : (xs : List ℕ) → IsAscending (normal xs)
normal_ascending [] = tt
normal_ascending (a ∷ xs) = put_ascending a (normal xs) (normal_ascending xs)

-- two ascending lists with the same members are equal
pub same_list : (xs ys : List ℕ) → IsAscending xs → IsAscending ys → IsWithin xs ys → IsWithin ys xs → xs ≡ ys
same_list [] [] p q f g = refl
same_list [] (y ∷ ys) p q f g = absurd (g y (inl refl))
same_list (x ∷ xs) [] p q f g = absurd (f x (inl refl))
same_list (x ∷ xs) (y ∷ ys) p q f g =
    let e : x ≡ y = heads (f x (inl refl)) (g y (inl refl)) in
    let rest : xs ≡ ys = same_list xs ys p.1 q.1 (λ z i. tail_in x y xs ys e p.0 z i (f z (inr i)))
    (λ z i. tail_in y x ys xs (sym e) q.0 z i (g z (inr i))) in cc
  where
    heads : IsIn x (y ∷ ys) → IsIn y (x ∷ xs) → x ≡ y
    heads (inl e) j = sym e
    heads (inr i) (inl e) = e
    heads (inr i) (inr j) = let k : y < x = q.0 x i in let l : x < y = p.0 y j in omega arith

    tail_in : (x y : ℕ) (xs ys : List ℕ) → x ≡ y → AreAbove x xs → (z : ℕ) → IsIn z xs → IsIn z (y ∷ ys) → IsIn z ys
    tail_in x y xs ys e ab z i (inl d) = let k : x < z = ab z i in absurd (omega arith)
    tail_in x y xs ys e ab z i (inr j) = j

pub normal_same : (xs : List ℕ) → IsAscending xs → normal xs ≡ xs
normal_same xs h = same_list (normal xs) xs (normal_ascending xs) h (in_normal xs) (normal_in xs)

pub contains_in : (xs : List ℕ) (m : ℕ) → has xs m ≡ true → IsIn m xs
contains_in [] m e = cc
contains_in (x ∷ xs) m e = by_test (nat_eq x m) (λ t. inl (eqb-true x m t)) (λ f. inr (contains_in xs m (rw f at e)))

pub in_contains : (xs : List ℕ) (m : ℕ) → IsIn m xs → has xs m ≡ true
in_contains [] m i = absurd i
in_contains (x ∷ xs) m (inl e) = rw (eq-eqb x m e)
in_contains (x ∷ xs) m (inr i) = by_test (nat_eq x m) (λ t. rw t) (λ f. rw f (in_contains xs m i))
