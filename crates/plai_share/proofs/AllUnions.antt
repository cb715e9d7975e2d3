-- Unions of groups, one more group at a time.
use Rattle.std.proofs.Common.{◌≡◌, ℕ, ◌+◌, ◌<◌, ◌≤◌, true, bit_or, List, [], ◌∷◌, ◌++◌, map, length, take, drop, get_or, Option, None, Some, refl, sym, ap}
use Rattle.std.proofs.Common.{subst, ◌∙◌, inl, inr, arith}
use Rattle.std.proofs.lemmas.List.{take_more, take_all, take-append-drop}
use Rattle.plai_base.specs.Sets.{has}
use Rattle.plai_domain.specs.Outcomes.{most_groups}
use Rattle.plai_share_laws.specs.Groups.{normal, star, bin}
use Rattle.plai_share_laws.proofs.Members.{IsIn, IsWithin}
use Rattle.plai_share_laws.proofs.Lists.{by_either, in_append, append_left, append_right, in_map, map_in, in_normal, normal_in, normal_ascending, contains_in}
use Rattle.plai_share_laws.proofs.Sets.{or_comm, or_assoc, star_join, in_star, star_within, in_bin, bin_in, bin_within, map_within, append_within}
use Rattle.plai_share_laws.proofs.Sets.{normal_within}
use Rattle.plai_share_laws.proofs.Order.{less_long}
use Rattle.plai_share_laws.proofs.Loops.{star_push, star_so_far}
use Rattle.plai_share.specs.Formed.{IsFormed, IsShortened}
use Rattle.plai_share.proofs.InOrder.{same_normal, normal_twice}

-- ---- lists with one ascending list

pub members : (xs ys : List ℕ) → normal xs ≡ normal ys → IsWithin xs ys
members xs ys e x i = in_normal ys x (subst (λ zs. IsIn x zs) e (normal_in xs x i))

pub formed_same : (xs ys : List ℕ) → normal xs ≡ normal ys → (o : Option (List ℕ)) → IsFormed xs o → IsFormed ys o
formed_same xs ys e None h = subst (λ zs. most_groups < length zs) e h
formed_same xs ys e (Some set) h = (h.0 ∙ e, subst (λ zs. length zs ≤ most_groups) e h.1)

take_within : (xs : List ℕ) (i : ℕ) → IsWithin (take i xs) xs
take_within xs i x j = subst (λ zs. IsIn x zs) (take-append-drop i xs) (append_left (take i xs) (drop i xs) x j)

pub less_far : (xs ys : List ℕ) → IsWithin xs ys → length (normal xs) ≤ length (normal ys)
less_far xs ys f = less_long _ _ (normal_ascending xs) (normal_ascending ys) (normal_within xs ys f)

step : (xs : List ℕ) (i x : ℕ) → i < length xs → x ≡ get_or xs i x → take (i + 1) xs ≡ take i xs ++ (x ∷ [])
step xs i x l e = take_more xs i x l ∙ ap (λ y. take i xs ++ (y ∷ [])) (sym e)

-- ---- all unions

star_union : (xs : List ℕ) (b : ℕ) → IsIn b (star xs) → (a : ℕ) → IsIn a (star xs) → IsIn (bit_or a b) (star xs)
star_union xs b j = in_star (λ a. IsIn (bit_or a b) (star xs)) xs (λ a i. star_join xs a b i j)
    (λ a m i k. subst (λ z. IsIn z (star xs)) (sym (or_assoc a m b)) (star_join xs a (bit_or m b) i k))

-- with one more group
abbrev pub more : ℕ → List ℕ → List ℕ
more g all = g ∷ (all ++ map (bit_or g) all)

more_within : (g : ℕ) (xs ys : List ℕ) → IsWithin xs ys → IsWithin (more g xs) (more g ys)
more_within g xs ys f x (inl e) = inl e
more_within g xs ys f x (inr i) = inr (append_within xs _ ys _ f (map_within (bit_or g) xs ys f) x i)

pub more_same : (g : ℕ) (xs ys : List ℕ) → normal xs ≡ normal ys → normal (more g xs) ≡ normal (more g ys)
more_same g xs ys e = same_normal (more g xs) (more g ys) (more_within g xs ys (members xs ys e)) (more_within g ys xs (members ys xs (sym e)))

-- a union of groups adds nothing
known_within : (xs : List ℕ) (g : ℕ) → IsIn g (star xs) → IsWithin (more g (star xs)) (star xs)
known_within xs g k x (inl e) = subst (λ z. IsIn z (star xs)) e k
known_within xs g k x (inr i) = by_either (in_append (star xs) _ x i) (λ j. j)
    (λ j. let (m, l, e) = in_map (bit_or g) (star xs) x j in subst (λ z. IsIn z (star xs)) e (star_union xs m l g k))

pub star_known : (xs : List ℕ) (g : ℕ) → IsIn g (star xs) → normal (star (xs ++ (g ∷ []))) ≡ normal (star xs)
star_known xs g k = star_push xs g ∙ same_normal (more g (star xs)) (star xs) (known_within xs g k)
    (λ x i. inr (append_left (star xs) (map (bit_or g) (star xs)) x i))

module _ (groups : List ℕ) (i g : ℕ) (l : i < length groups) (at : g ≡ get_or groups i g) (all base : List ℕ)
    (is : all ≡ normal (star (take i groups))) (same : normal (star base) ≡ normal (star (take i groups))) where
  old : List ℕ
  old = star (take i groups)

  next : normal (more g old) ≡ normal (star (take (i + 1) groups))
  unfolding old
  next = sym (star_push (take i groups) g) ∙ ap (λ xs. normal (star xs)) (sym (step groups i g l at))

  grown : normal (more g all) ≡ normal (star (take (i + 1) groups))
  unfolding old
  grown = more_same g all old (ap normal is ∙ normal_twice old) ∙ next

  pub star_stops : most_groups < length (normal (more g all)) → most_groups < length (normal (star groups))
  star_stops h = let k = star_so_far (take (i + 1) groups) groups (take_within groups (i + 1)) in
      let m = subst (λ zs. most_groups < length zs) grown h in omega (arith, k, m)

  pub star_grows : (set : List ℕ) → IsFormed (more g all) (Some set) → (set ≡ normal (star (take (i + 1) groups))) × (length set ≤ most_groups)
  star_grows set h = (h.0 ∙ grown, subst (λ zs. length zs ≤ most_groups) (sym h.0) h.1)

  pub base_grows : normal (star (base ++ (g ∷ []))) ≡ normal (star (take (i + 1) groups))
  unfolding old
  base_grows = star_push base g ∙ more_same g (star base) old same ∙ next

  pub star_stays : has all g ≡ true → normal (star (take i groups)) ≡ normal (star (take (i + 1) groups))
  star_stays h = sym (ap (λ xs. normal (star xs)) (step groups i g l at)
      ∙ star_known (take i groups) g (in_normal _ g (subst (λ zs. IsIn g zs) is (contains_in all g h))))

pub star_whole : (groups : List ℕ) (i : ℕ) → length groups ≤ i → normal (star (take i groups)) ≡ normal (star groups)
star_whole groups i l = ap (λ xs. normal (star xs)) (take_all i groups l)

-- ---- unions of two sides

pub bin_comm : (xs ys : List ℕ) → normal (bin xs ys) ≡ normal (bin ys xs)
bin_comm xs ys = same_normal _ _ (turned xs ys) (turned ys xs)
  where
    turned : (xs ys : List ℕ) → IsWithin (bin xs ys) (bin ys xs)
    turned xs ys m i = let (a, b, p, q, e) = in_bin xs ys m i in subst (λ z. IsIn z (bin ys xs)) (or_comm b a ∙ e) (bin_in ys xs b a q p)

pub bin_same : (xs ys us vs : List ℕ) → normal xs ≡ normal us → normal ys ≡ normal vs → normal (bin xs ys) ≡ normal (bin us vs)
bin_same xs ys us vs e f = same_normal _ _ (bin_within xs ys us vs (members xs us e) (members ys vs f))
    (bin_within us vs xs ys (members us xs (sym e)) (members vs ys (sym f)))

-- one more mask of the first side
bin_push : (xs ys : List ℕ) (m : ℕ) (masks : List ℕ) → normal masks ≡ normal (bin xs ys)
    → normal (masks ++ map (bit_or m) ys) ≡ normal (bin (xs ++ (m ∷ [])) ys)
bin_push xs ys m masks e = same_normal _ _ there back
  where
    there : IsWithin (masks ++ map (bit_or m) ys) (bin (xs ++ (m ∷ [])) ys)
    there x i = by_either (in_append masks _ x i)
        (λ j. bin_within xs ys (xs ++ (m ∷ [])) ys (λ y k. append_left xs _ y k) (λ y k. k) x (members masks (bin xs ys) e x j))
        (λ j. let (b, k, d) = in_map (bit_or m) ys x j in
        subst (λ z. IsIn z (bin (xs ++ (m ∷ [])) ys)) d (bin_in (xs ++ (m ∷ [])) ys m b (append_right xs (m ∷ []) m (inl refl)) k))

    back : IsWithin (bin (xs ++ (m ∷ [])) ys) (masks ++ map (bit_or m) ys)
    back x i = let (a, b, p, q, d) = in_bin (xs ++ (m ∷ [])) ys x i in
        by_either (in_append xs (m ∷ []) a p)
        (λ j. append_left masks _ x (members (bin xs ys) masks (sym e) x (subst (λ z. IsIn z (bin xs ys)) d (bin_in xs ys a b j q))))
        (λ j. by_either j (λ f. append_right masks _ x (subst (λ z. IsIn z (map (bit_or m) ys)) (ap (λ z. bit_or z b) f ∙ d) (map_in (bit_or m) ys b q)))
        (λ k. absurd k))

module _ (few many : List ℕ) (i : ℕ) where
  pub bin_stops : (masks : List ℕ) → normal masks ≡ normal (bin (take i few) many) → most_groups < length (normal masks)
      → most_groups < length (normal (bin few many))
  bin_stops masks e h = let k = less_far (bin (take i few) many) (bin few many) (bin_within _ many few many (take_within few i) (λ x j. j)) in
      let m = subst (λ zs. most_groups < length zs) e h in omega (arith, k, m)

  pub bin_more : (m : ℕ) → i < length few → m ≡ get_or few i m → (masks : List ℕ) → normal masks ≡ normal (bin (take i few) many)
      → normal (masks ++ map (bit_or m) many) ≡ normal (bin (take (i + 1) few) many)
  bin_more m l at masks e = bin_push (take i few) many m masks e ∙ ap (λ xs. normal (bin xs many)) (sym (step few i m l at))

  pub bin_whole : length few ≤ i → normal (bin (take i few) many) ≡ normal (bin few many)
  bin_whole l = ap (λ xs. normal (bin xs many)) (take_all i few l)

-- ---- unions with one or more groups

-- with one more group
abbrev pub wider : ℕ → List ℕ → List ℕ → List ℕ
wider g all masks = (all ++ map (bit_or g) all) ++ map (bit_or g) masks

wider_push : (masks xs : List ℕ) (g : ℕ) (all : List ℕ) → normal all ≡ normal (bin masks (star xs))
    → normal (wider g all masks) ≡ normal (bin masks (star (xs ++ (g ∷ []))))
wider_push masks xs g all e = same_normal (wider g all masks) (bin masks (star (xs ++ (g ∷ [])))) there back
  where
    into : IsWithin (more g (star xs)) (star (xs ++ (g ∷ [])))
    into = members (more g (star xs)) (star (xs ++ (g ∷ []))) (sym (star_push xs g))

    out : IsWithin (star (xs ++ (g ∷ []))) (more g (star xs))
    out = members (star (xs ++ (g ∷ []))) (more g (star xs)) (star_push xs g)

    raised : (x : ℕ) → IsIn x (bin masks (star xs)) → IsIn (bit_or g x) (bin masks (star (xs ++ (g ∷ []))))
    raised x i = let (a, b, p, q, d) = in_bin masks (star xs) x i in
        subst (λ z. IsIn z (bin masks (star (xs ++ (g ∷ [])))))
        (sym (or_assoc a g b) ∙ ap (λ z. bit_or z b) (or_comm a g) ∙ or_assoc g a b ∙ ap (bit_or g) d)
        (bin_in masks _ a (bit_or g b) p (into (bit_or g b) (inr (append_right (star xs) _ _ (map_in (bit_or g) (star xs) b q)))))

    there : IsWithin (wider g all masks) (bin masks (star (xs ++ (g ∷ []))))
    there x i = by_either (in_append (all ++ map (bit_or g) all) _ x i)
        (λ j. by_either (in_append all _ x j)
        (λ k. bin_within masks (star xs) masks _ (λ y m. m) (λ y m. into y (inr (append_left (star xs) _ y m))) x (members all _ e x k))
        (λ k. let (y, m, d) = in_map (bit_or g) all x k in subst (λ z. IsIn z (bin masks (star (xs ++ (g ∷ []))))) d (raised y (members all _ e y m))))
        (λ j. let (a, k, d) = in_map (bit_or g) masks x j in
        subst (λ z. IsIn z (bin masks (star (xs ++ (g ∷ []))))) (or_comm a g ∙ d) (bin_in masks _ a g k (into g (inl refl))))

    back : IsWithin (bin masks (star (xs ++ (g ∷ [])))) (wider g all masks)
    back x i = let (a, b, p, q, d) = in_bin masks _ x i in from a b p d (out b q)
      where
        from : (a b : ℕ) → IsIn a masks → bit_or a b ≡ x → IsIn b (more g (star xs)) → IsIn x (wider g all masks)
        from a b p d (inl f) = append_right (all ++ map (bit_or g) all) _ x
            (subst (λ z. IsIn z (map (bit_or g) masks)) (or_comm g a ∙ ap (bit_or a) f ∙ d) (map_in (bit_or g) masks a p))
        from a b p d (inr j) = append_left (all ++ map (bit_or g) all) _ x (by_either (in_append (star xs) _ b j)
            (λ k. append_left all _ x (members _ all (sym e) x (subst (λ z. IsIn z (bin masks (star xs))) d (bin_in masks (star xs) a b p k))))
            (λ k. let (n, m, f) = in_map (bit_or g) (star xs) b k in
            append_right all _ x (subst (λ z. IsIn z (map (bit_or g) all))
            (sym (or_assoc g a n) ∙ ap (λ z. bit_or z n) (or_comm g a) ∙ or_assoc a g n ∙ ap (bit_or a) f ∙ d)
            (map_in (bit_or g) all (bit_or a n) (members _ all (sym e) (bit_or a n) (bin_in masks (star xs) a n p m))))))

module _ (masks groups : List ℕ) (i g : ℕ) (l : i < length groups) (at : g ≡ get_or groups i g) (all : List ℕ)
    (is : all ≡ normal (bin masks (star (take i groups)))) where
  widened : normal (wider g all masks) ≡ normal (bin masks (star (take (i + 1) groups)))
  widened = wider_push masks (take i groups) g all (ap normal is ∙ normal_twice (bin masks (star (take i groups))))
      ∙ ap (λ xs. normal (bin masks (star xs))) (sym (step groups i g l at))

  pub wide_stops : most_groups < length (normal (wider g all masks)) → most_groups < length (normal (bin masks (star groups)))
  wide_stops h = let k = less_far (bin masks (star (take (i + 1) groups))) (bin masks (star groups))
      (bin_within masks _ masks _ (λ x j. j) (star_within _ _ (take_within groups (i + 1)))) in
      let m = subst (λ zs. most_groups < length zs) widened h in omega (arith, k, m)

  pub wide_grows : (set : List ℕ) → IsFormed (wider g all masks) (Some set)
      → (set ≡ normal (bin masks (star (take (i + 1) groups)))) × (length set ≤ most_groups)
  wide_grows set h = (h.0 ∙ widened, subst (λ zs. length zs ≤ most_groups) (sym h.0) h.1)

pub wide_whole : (masks groups : List ℕ) (i : ℕ) → length groups ≤ i → normal (bin masks (star (take i groups))) ≡ normal (bin masks (star groups))
wide_whole masks groups i l = ap (λ xs. normal (bin masks (star xs))) (take_all i groups l)

bin_none : (xs : List ℕ) → bin xs [] ≡ []
bin_none [] = refl
bin_none (x ∷ xs) = bin_none xs

pub wide_none : (masks : List ℕ) → normal (bin masks []) ≡ []
wide_none masks = ap normal (bin_none masks)

-- ---- repeats dropped

pub formed_shortened : (xs : List ℕ) (o : Option (List ℕ)) → IsFormed xs o → IsShortened xs o
formed_shortened xs None h = h
formed_shortened xs (Some set) h = ap normal h.0 ∙ normal_twice xs
