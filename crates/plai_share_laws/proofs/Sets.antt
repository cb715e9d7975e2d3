-- Members of rel, star, bin and near, and that they grow with the groups.
use Rattle.std.proofs.Common.{◌≡◌, ℕ, Bool, true, bit_or, List, [], ◌∷◌, ◌++◌, map, filter, refl, sym, ◌∙◌, ap, subst, inl, inr}
use Rattle.plai_share_laws.proofs.Members.{IsIn, IsWithin}
use Rattle.plai_share_laws.specs.Groups.{Has, IsPart, meets, normal, star, bin, near}
use Rattle.plai_share_laws.proofs.Masks.{by_test, same_mask, has_or, or_left, or_right, has_zero}
use Rattle.plai_share_laws.proofs.Lists.{by_either, in_append, append_left, append_right, in_map, map_in, in_filter, filter_in, in_normal, normal_in}

pub part_or : (a b c : ℕ) → IsPart a c → IsPart b c → IsPart (bit_or a b) c
part_or a b c f g k h = by_either (has_or a b k h) (f k) (g k)

pub or_comm : (a b : ℕ) → bit_or a b ≡ bit_or b a
or_comm a b = same_mask _ _ (part_or a b (bit_or b a) (or_right b a) (or_left b a)) (part_or b a (bit_or a b) (or_right a b) (or_left a b))

pub or_same : (a : ℕ) → bit_or a a ≡ a
or_same a = same_mask _ _ (part_or a a a (λ k h. h) (λ k h. h)) (or_left a a)

pub or_zero : (a : ℕ) → bit_or a 0 ≡ a
or_zero a = same_mask _ _ (part_or a 0 a (λ k h. h) (λ k h. absurd (has_zero k h))) (or_left a 0)

pub or_assoc : (a b c : ℕ) → bit_or (bit_or a b) c ≡ bit_or a (bit_or b c)
or_assoc a b c = same_mask _ _
    (part_or (bit_or a b) c _ (part_or a b _ (or_left a _) (λ k h. or_right a _ k (or_left b c k h))) (λ k h. or_right a _ k (or_right b c k h)))
    (part_or a (bit_or b c) _ (λ k h. or_left (bit_or a b) c k (or_left a b k h))
    (part_or b c _ (λ k h. or_left (bit_or a b) c k (or_right a b k h)) (or_right (bit_or a b) c)))

-- star
pub star_member : (xs : List ℕ) (x : ℕ) → IsIn x xs → IsIn x (star xs)
star_member [] x i = i
star_member (a ∷ xs) x (inl e) = inl e
star_member (a ∷ xs) x (inr i) = inr (append_left (star xs) _ x (star_member xs x i))

-- the union of a member with a union
pub star_join : (xs : List ℕ) (a m : ℕ) → IsIn a xs → IsIn m (star xs) → IsIn (bit_or a m) (star xs)
star_join [] a m i j = i
star_join (b ∷ xs) a m i j = by_either i (λ e. subst (λ x. IsIn (bit_or x m) (star (b ∷ xs))) e (own j)) (λ k. other k (star_join xs a) j)
  where
    own : IsIn m (star (b ∷ xs)) → IsIn (bit_or b m) (star (b ∷ xs))
    own (inl e) = inl (sym (or_same b) ∙ ap (bit_or b) e)
    own (inr j) = by_either (in_append (star xs) _ m j)
        (λ k. inr (append_right (star xs) _ _ (map_in (bit_or b) (star xs) m k)))
        (λ k. let (n, l, e) = in_map (bit_or b) (star xs) m k in
        inr (append_right (star xs) _ _ (subst (λ x. IsIn x (map (bit_or b) (star xs)))
        (sym (ap (λ x. bit_or x n) (or_same b)) ∙ or_assoc b b n ∙ ap (bit_or b) e) (map_in (bit_or b) (star xs) n l))))

    other : IsIn a xs → ((m : ℕ) → IsIn a xs → IsIn m (star xs) → IsIn (bit_or a m) (star xs)) → IsIn m (star (b ∷ xs)) → IsIn (bit_or a m) (star (b ∷ xs))
    other k f (inl e) = inr (append_right (star xs) _ _ (subst (λ x. IsIn x (map (bit_or b) (star xs)))
        (or_comm b a ∙ ap (bit_or a) e) (map_in (bit_or b) (star xs) a (star_member xs a k))))
    other k f (inr j) = by_either (in_append (star xs) _ m j)
        (λ l. inr (append_left (star xs) _ _ (f m k l)))
        (λ l. let (n, p, e) = in_map (bit_or b) (star xs) m l in
        inr (append_right (star xs) _ _ (subst (λ x. IsIn x (map (bit_or b) (star xs)))
        (sym (or_assoc b a n) ∙ ap (λ x. bit_or x n) (or_comm b a) ∙ or_assoc a b n ∙ ap (bit_or a) e)
        (map_in (bit_or b) (star xs) (bit_or a n) (f n k p)))))

-- what holds of the members, and of a union of a member with one of which it holds, holds of star
pub in_star : (P : ℕ → Type 0) (xs : List ℕ) → ((a : ℕ) → IsIn a xs → P a) → ((a m : ℕ) → IsIn a xs → P m → P (bit_or a m))
    → (m : ℕ) → IsIn m (star xs) → P m
in_star P [] f g m i = absurd i
in_star P (b ∷ xs) f g m (inl e) = f m (inl e)
in_star P (b ∷ xs) f g m (inr i) = by_either (in_append (star xs) _ m i)
    (λ k. in_star P xs (λ a j. f a (inr j)) (λ a n j. g a n (inr j)) m k)
    (λ k. let (n, p, e) = in_map (bit_or b) (star xs) m k in
    subst P e (g b n (inl refl) (in_star P xs (λ a j. f a (inr j)) (λ a n j. g a n (inr j)) n p)))

pub star_within : (xs ys : List ℕ) → IsWithin xs ys → IsWithin (star xs) (star ys)
star_within xs ys f = in_star (λ m. IsIn m (star ys)) xs (λ a i. star_member ys a (f a i)) (λ a m i j. star_join ys a m (f a i) j)

-- bin
pub in_bin : (xs ys : List ℕ) (m : ℕ) → IsIn m (bin xs ys) → (a : ℕ) × (b : ℕ) × IsIn a xs × IsIn b ys × (bit_or a b ≡ m)
in_bin [] ys m i = absurd i
in_bin (a ∷ xs) ys m i = by_either (in_append (map (bit_or a) ys) _ m i)
    (λ j. let (b, k, e) = in_map (bit_or a) ys m j in (a, b, inl refl, k, e))
    (λ j. let (c, b, p, q, e) = in_bin xs ys m j in (c, b, inr p, q, e))

pub bin_in : (xs ys : List ℕ) (a b : ℕ) → IsIn a xs → IsIn b ys → IsIn (bit_or a b) (bin xs ys)
bin_in [] ys a b i j = absurd i
bin_in (c ∷ xs) ys a b (inl e) j = append_left _ (bin xs ys) _ (subst (λ x. IsIn (bit_or x b) (map (bit_or c) ys)) e (map_in (bit_or c) ys b j))
bin_in (c ∷ xs) ys a b (inr i) j = append_right (map (bit_or c) ys) _ _ (bin_in xs ys a b i j)

pub bin_within : (xs ys us vs : List ℕ) → IsWithin xs us → IsWithin ys vs → IsWithin (bin xs ys) (bin us vs)
bin_within xs ys us vs f g m i = let (a, b, p, q, e) = in_bin xs ys m i in subst (λ x. IsIn x (bin us vs)) e (bin_in us vs a b (f a p) (g b q))

-- near
pub in_near : (set : ℕ) (gs : List ℕ) (k : ℕ) → Has (near set gs) k → (g : ℕ) × IsIn g gs × (meets set g ≡ true) × Has g k
in_near set [] k h = absurd (has_zero k h)
in_near set (g ∷ gs) k h = by_test (meets set g)
    (λ t. by_either (has_or g (near set gs) k (let u : Has (bit_or g (near set gs)) k = rw t at h in u)) (λ l. (g, inl refl, t, l))
    (λ l. let (c, i, e, p) = in_near set gs k l in (c, inr i, e, p)))
    (λ t. let (c, i, e, p) = in_near set gs k (rw t at h) in (c, inr i, e, p))

pub near_in : (set : ℕ) (gs : List ℕ) (g k : ℕ) → IsIn g gs → meets set g ≡ true → Has g k → Has (near set gs) k
near_in set [] g k i e h = absurd i
near_in set (c ∷ gs) g k (inl d) e h = let t : meets set c ≡ true = subst (λ x. meets set x ≡ true) (sym d) e in
    rw t (or_left c (near set gs) k (subst (λ x. Has x k) (sym d) h))
near_in set (c ∷ gs) g k (inr i) e h = by_test (meets set c) (λ t. rw t (or_right c (near set gs) k (near_in set gs g k i e h)))
    (λ t. rw t (near_in set gs g k i e h))

pub near_part : (set : ℕ) (gs hs : List ℕ) → IsWithin gs hs → IsPart (near set gs) (near set hs)
near_part set gs hs f k h = let (g, i, e, p) = in_near set gs k h in near_in set hs g k (f g i) e p

-- the rest
pub filter_within : {A : Type 0} (p : A → Bool) (xs ys : List A) → IsWithin xs ys → IsWithin (filter p xs) (filter p ys)
filter_within p xs ys f x i = let (j, e) = in_filter p xs x i in filter_in p ys x (f x j) e

pub map_within : {A B : Type 0} (g : A → B) (xs ys : List A) → IsWithin xs ys → IsWithin (map g xs) (map g ys)
map_within {B} g xs ys f y i = let (x, j, e) = in_map g xs y i in subst (λ (z : B). IsIn z (map g ys)) e (map_in g ys x (f x j))

pub append_within : {A : Type 0} (xs ys us vs : List A) → IsWithin xs us → IsWithin ys vs → IsWithin (xs ++ ys) (us ++ vs)
append_within xs ys us vs f g x i = by_either (in_append xs ys x i) (λ j. append_left us vs x (f x j)) (λ j. append_right us vs x (g x j))

pub normal_within : (xs ys : List ℕ) → IsWithin xs ys → IsWithin (normal xs) (normal ys)
normal_within xs ys f x i = normal_in ys x (f x (in_normal xs x i))

pub member_star : (xs ys : List ℕ) → IsWithin xs ys → IsWithin xs (star ys)
member_star xs ys f x i = star_member ys x (f x i)
