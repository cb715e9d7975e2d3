-- How many unions there are of groups each of which has a slot of its own.
use Rattle.std.proofs.Common.{◌≡◌, ◌⊎◌, ℕ, suc, ◌-◌, ◌^◌, false, nat_lt, bit_or, List, [], ◌∷◌, ◌++◌, map, length, refl, sym, ap, subst, ◌∙◌, inl, inr, arith}
use Rattle.std.proofs.Common.{pow-suc}
use Rattle.std.proofs.lemmas.Nat.{pow_pos}
use Rattle.std.proofs.lemmas.Bool.Decides.{nat_tests}
use Rattle.std.proofs.lemmas.List.{length-map, length-append}
use Rattle.plai_base.specs.Mask.{mask_of}
use Rattle.plai_share_laws.specs.Groups.{Has, put, normal, star}
use Rattle.plai_share_laws.proofs.Members.{IsIn}
use Rattle.plai_share_laws.proofs.Masks.{by_test, same_mask, has_or, or_left, or_right, has_of, of_has}
use Rattle.plai_share_laws.proofs.Lists.{by_either, in_append, in_map, in_normal}
use Rattle.plai_share_laws.proofs.Sets.{in_star}

-- ---- lists without repeats

abbrev pub AreApart : List ℕ → Type 0
AreApart [] = Unit {0}
AreApart (x ∷ xs) = (IsIn x xs → ⊥) × AreApart xs

apart_append : (xs ys : List ℕ) → AreApart xs → AreApart ys → ((x : ℕ) → IsIn x xs → IsIn x ys → ⊥) → AreApart (xs ++ ys)
apart_append [] ys p q f = q
apart_append (x ∷ xs) ys p q f = (
  λ i. by_either (in_append xs ys x i) p.0 (f x (inl refl)),
  apart_append xs ys p.1 q (λ z i j. f z (inr i) j),
)

apart_map : (f : ℕ → ℕ) (xs : List ℕ) → AreApart xs → ((x y : ℕ) → IsIn x xs → IsIn y xs → f x ≡ f y → x ≡ y) → AreApart (map f xs)
apart_map f [] p h = tt
apart_map f (x ∷ xs) p h = (
  λ i. let (y, j, e) = in_map f xs (f x) i in p.0 (subst (λ z. IsIn z xs) (h y x (inr j) (inl refl) e) j),
  apart_map f xs p.1 (λ a b i j. h a b (inr i) (inr j)),
)

equal_when : (a b : ℕ) → nat_lt a b ≡ false → nat_lt b a ≡ false → a ≡ b
equal_when a b p q = grind (arith, nat_tests)

put_longer : (m : ℕ) (xs : List ℕ) → (IsIn m xs → ⊥) → length (put m xs) ≡ suc (length xs)
put_longer m [] n = refl
put_longer m (x ∷ xs) n = by_test (nat_lt m x) (λ t. rw t refl)
    (λ t. by_test (nat_lt x m) (λ s. rw (t, s) (ap suc (put_longer m xs (λ i. n (inr i))))) (λ s. absurd (n (inl (sym (equal_when m x t s))))))

-- none of them is lost in the ascending list
pub normal_long : (xs : List ℕ) → AreApart xs → length (normal xs) ≡ length xs
normal_long [] p = refl
normal_long (x ∷ xs) p = put_longer x (normal xs) (λ i. p.0 (in_normal xs x i)) ∙ ap suc (normal_long xs p.1)

-- ---- all unions

pub star_long : (xs : List ℕ) → length (star xs) ≡ 2 ^ length xs - 1
star_long [] = refl
star_long (a ∷ xs) =
    let e = star_long xs in
    let f = length-append (star xs) (map (bit_or a) (star xs)) in
    let g = length-map (star xs) (bit_or a) in
    let h = pow-suc 2 (length xs) in
    let p = pow_pos (length xs) in
    omega (arith, e, f, g, h, p)

-- groups that have these slots in common, and one of their own each
module _ (c : ℕ) where
  abbrev pub with_slot : ℕ → ℕ
  with_slot s = bit_or c (mask_of s)

  -- slots that the common ones lack
  abbrev pub AreOwn : List ℕ → Type 0
  AreOwn ss = (s : ℕ) → IsIn s ss → Has c s → ⊥

  pub record IsUnion (ss : List ℕ) (m : ℕ) : Type 0 where
    pub common : (k : ℕ) → Has c k → Has m k
    pub some : (s : ℕ) × IsIn s ss × Has m s
    pub only : (k : ℕ) → Has m k → Has c k ⊎ IsIn k ss

  one : (ss : List ℕ) (s : ℕ) → IsIn s ss → IsUnion ss (with_slot s)
  one ss s i = record {
    common = λ k h. or_left c (mask_of s) k h;
    some = (s, i, or_right c (mask_of s) s (has_of s));
    only = λ k h. by_either (has_or c (mask_of s) k h) inl (λ p. inr (subst (λ z. IsIn z ss) (sym (of_has s k p)) i));
  }

  both : (ss : List ℕ) (a b : ℕ) → IsUnion ss a → IsUnion ss b → IsUnion ss (bit_or a b)
  both ss a b p q = record {
    common = λ k h. or_left a b k (p.common k h);
    some = let (s, i, h) = p.some in (s, i, or_left a b s h);
    only = λ k h. by_either (has_or a b k h) (p.only k) (q.only k);
  }

  pub unions_are : (ss : List ℕ) (m : ℕ) → IsIn m (star (map with_slot ss)) → IsUnion ss m
  unions_are ss = in_star (IsUnion ss) (map with_slot ss)
      (λ a i. let (s, j, e) = in_map with_slot ss a i in subst (IsUnion ss) e (one ss s j))
      (λ a m i p. let (s, j, e) = in_map with_slot ss a i in both ss a m (subst (IsUnion ss) e (one ss s j)) p)

  pub star_apart : (ss : List ℕ) → AreApart ss → AreOwn ss → AreApart (star (map with_slot ss))
  star_apart [] p own = tt
  star_apart (s ∷ ss) p own =
      let a = with_slot s in
      let ys = star (map with_slot ss) in
      let here : Has a s = or_right c (mask_of s) s (has_of s) in
      let lacks : (m : ℕ) → IsIn m ys → Has m s → ⊥ = λ m i h. by_either ((unions_are ss m i).only s h) (own s (inl refl)) p.0 in
      let rest = star_apart ss p.1 (λ t i. own t (inr i)) in (
        λ i. by_either (in_append ys (map (bit_or a) ys) a i)
            (λ j. lacks a j here)
            (λ j. let (m, k, e) = in_map (bit_or a) ys a j in
            let (t, l, h) = (unions_are ss m k).some in
            let q : Has a t = subst (λ z. Has z t) e (or_right a m t h) in
            by_either (has_or c (mask_of s) t q) (own t (inr l)) (λ o. p.0 (subst (λ z. IsIn z ss) (of_has s t o) l))),
        apart_append ys (map (bit_or a) ys) rest
            (apart_map (bit_or a) ys rest (λ x y i j e. same_mask x y (inside s ss a ys x y refl refl lacks i j e)
            (inside s ss a ys y x refl refl lacks j i (sym e))))
            (λ m i j. let (x, k, e) = in_map (bit_or a) ys m j in lacks m i (subst (λ z. Has z s) e (or_left a x s here))),
      )
    where
      inside : (s : ℕ) (ss : List ℕ) (a : ℕ) (ys : List ℕ) (x y : ℕ) → a ≡ with_slot s → ys ≡ star (map with_slot ss) → ((m : ℕ) → IsIn m ys → Has m s → ⊥)
          → IsIn x ys → IsIn y ys
          → bit_or a x ≡ bit_or a y → (k : ℕ) → Has x k → Has y k
      inside s ss a ys x y d f lacks i j e k h =
          by_either (has_or a y k (subst (λ z. Has z k) e (or_right a x k h)))
          (λ q. by_either (has_or c (mask_of s) k (subst (λ z. Has z k) d q))
          (λ r. (unions_are ss y (subst (λ z. IsIn y z) f j)).common k r)
          (λ r. absurd (lacks x i (subst (λ z. Has x z) (of_has s k r) h))))
          (λ q. q)

  -- the size of the set of all unions
  pub star_size : (ss : List ℕ) → AreApart ss → AreOwn ss → length (normal (star (map with_slot ss))) ≡ 2 ^ length ss - 1
  star_size ss p own =
      normal_long (star (map with_slot ss)) (star_apart ss p own) ∙ star_long (map with_slot ss) ∙ ap (λ z. 2 ^ z - 1) (length-map ss with_slot)
