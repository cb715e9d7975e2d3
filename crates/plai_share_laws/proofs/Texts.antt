-- Texts of pieces with separators are read in one way.
use Rattle.std.proofs.Common.{◌≡◌, ℕ, ◌+◌, ◌^◌, ◌<◌, ◌≤◌, ◌%◌, List, [], ◌∷◌, ◌++◌, map, length, refl, sym, ap, subst, inl, inr, arith}
use Rattle.std.specs.Fmt.{decimal}
use Rattle.std.specs.List.{join_with_byte, range_with_len}
use Rattle.std.specs.Ordering.{nat_cmp, is_le}
use Rattle.std.specs.Cmp.Lexicographic.{slice_cmp}
use Rattle.std.proofs.lemmas.Fmt.{decimal_injective, decimal_by_steps, decimal_nonempty}
use Rattle.plai_base.specs.Mask.{has_slot, slots_below, slots_of}
use Rattle.plai_terms.specs.Groups.{placed, ordered, slot_text, group_text}
use Rattle.plai_share_laws.specs.Groups.{Has}
use Rattle.plai_share_laws.proofs.Members.{IsIn}
use Rattle.plai_share_laws.proofs.Masks.{by_test, same_mask}
use Rattle.plai_share_laws.proofs.Lists.{by_either, in_append, append_right, in_map, in_filter, filter_in}
use Rattle.plai_share_laws.proofs.Rank.{run_low, run_has}

-- ---- separators

abbrev pub Lacks : ℕ → List ℕ → Type 0
Lacks c xs = IsIn c xs → ⊥

-- at the first separator
pub cut : (c : ℕ) (xs ys us vs : List ℕ) → Lacks c xs → Lacks c ys → xs ++ c ∷ us ≡ ys ++ c ∷ vs → (xs ≡ ys) × (us ≡ vs)
cut c [] [] us vs h k e = (refl, cc)
cut c [] (y ∷ ys) us vs h k e = let q : c ≡ y = cc in absurd (k (inl (sym q)))
cut c (x ∷ xs) [] us vs h k e = let q : x ≡ c = cc in absurd (h (inl q))
cut c (x ∷ xs) (y ∷ ys) us vs h k e =
    let q : x ≡ y = cc in
    let t : xs ++ c ∷ us ≡ ys ++ c ∷ vs = cc in
    let (p, r) = cut c xs ys us vs (λ i. h (inr i)) (λ i. k (inr i)) t in
    (cc, r)

-- a piece is not empty, and lacks the separator
pub record IsPiece (c : ℕ) (x : List ℕ) : Type 0 where
  pub lacks : Lacks c x
  pub some : x ≡ [] → ⊥

abbrev pub ArePieces : ℕ → List (List ℕ) → Type 0
ArePieces c xs = (x : List ℕ) → IsIn x xs → IsPiece c x

joined_some : (c : ℕ) (x : List ℕ) (xs : List (List ℕ)) → IsPiece c x → join_with_byte c (x ∷ xs) ≡ [] → ⊥
joined_some c x [] p e = p.some e
joined_some c [] (y ∷ ys) p e = p.some refl
joined_some c (b ∷ bs) (y ∷ ys) p e = cc

pub joined_same : (c : ℕ) (xs ys : List (List ℕ)) → ArePieces c xs → ArePieces c ys → join_with_byte c xs ≡ join_with_byte c ys → xs ≡ ys
joined_same c [] [] f g e = refl
joined_same c [] (y ∷ ys) f g e = absurd (joined_some c y ys (g y (inl refl)) (sym e))
joined_same c (x ∷ xs) [] f g e = absurd (joined_some c x xs (f x (inl refl)) e)
joined_same c (x ∷ []) (y ∷ []) f g e = ap (λ z. z ∷ []) e
joined_same c (x ∷ []) (y ∷ z ∷ zs) f g e =
    absurd ((f x (inl refl)).lacks (subst (λ l. IsIn c l) (sym e) (append_right y (c ∷ join_with_byte c (z ∷ zs)) c (inl refl))))
joined_same c (x ∷ w ∷ ws) (y ∷ []) f g e =
    absurd ((g y (inl refl)).lacks (subst (λ l. IsIn c l) e (append_right x (c ∷ join_with_byte c (w ∷ ws)) c (inl refl))))
joined_same c (x ∷ w ∷ ws) (y ∷ z ∷ zs) f g e =
    let (p, q) = cut c x y (join_with_byte c (w ∷ ws)) (join_with_byte c (z ∷ zs)) (f x (inl refl)).lacks (g y (inl refl)).lacks e in
    let r = joined_same c (w ∷ ws) (z ∷ zs) (λ l i. f l (inr i)) (λ l i. g l (inr i)) q in
    λ i. p i ∷ r i

-- the bytes of what is joined
pub joined_bytes : (P : ℕ → Type 0) (c : ℕ) (xs : List (List ℕ)) → P c → ((x : List ℕ) → IsIn x xs → (b : ℕ) → IsIn b x → P b)
    → (b : ℕ) → IsIn b (join_with_byte c xs) → P b
joined_bytes P c [] h f b i = absurd i
joined_bytes P c (x ∷ []) h f b i = f x (inl refl) b i
joined_bytes P c (x ∷ y ∷ ys) h f b i =
    by_either (in_append x (c ∷ join_with_byte c (y ∷ ys)) b i) (f x (inl refl) b)
    (λ j. by_either j (λ e. subst P e h) (joined_bytes P c (y ∷ ys) h (λ z k. f z (inr k)) b))

-- what is made of items of which it tells all
pub map_same : {A : Type 0} (f : A → List ℕ) (xs ys : List A) → ((x y : A) → IsIn x xs → IsIn y ys → f x ≡ f y → x ≡ y) → map f xs ≡ map f ys → xs ≡ ys
map_same f [] [] h e = refl
map_same f [] (y ∷ ys) h e = cc
map_same f (x ∷ xs) [] h e = cc
map_same f (x ∷ xs) (y ∷ ys) h e =
    let p : f x ≡ f y = cc in
    let q : map f xs ≡ map f ys = cc in
    let s = h x y (inl refl) (inl refl) p in
    let r = map_same f xs ys (λ a b i j. h a b (inr i) (inr j)) q in
    λ i. s i ∷ r i

-- ---- slots

pub slot_in : (m k : ℕ) → IsIn k (slots_of m) → (k < 64) × Has m k
unfolding slots_below
slot_in m k i =
    let (j, h) = in_filter (has_slot m) (range_with_len 0 64) k i in
    let (a, b) = run_low 0 64 k j in (omega (arith, b), h)

pub in_slots : (m k : ℕ) → k < 64 → Has m k → IsIn k (slots_of m)
unfolding slots_below
in_slots m k l h = filter_in (has_slot m) (range_with_len 0 64) k (run_has 0 64 k (omega arith) (omega (arith, l))) h

-- sets of slots below 64 are known by their lists
pub slots_tell : (a b : ℕ) → ((k : ℕ) → Has a k → k < 64) → ((k : ℕ) → Has b k → k < 64) → slots_of a ≡ slots_of b → a ≡ b
slots_tell a b f g e = same_mask a b
    (λ k h. (slot_in b k (subst (λ l. IsIn k l) e (in_slots a k (f k h) h))).1)
    (λ k h. (slot_in a k (subst (λ l. IsIn k l) (sym e) (in_slots b k (g k h) h))).1)

-- ---- texts of slots and groups

abbrev pub IsDigit : ℕ → Type 0
IsDigit b = (48 ≤ b) × (b ≤ 57)

digits : (n : ℕ) → n < 2 ^ 64 → (b : ℕ) → IsIn b (decimal n) → IsDigit b
digits n l =
    decimal_by_steps (λ m ds. (b : ℕ) → IsIn b ds → IsDigit b)
    (λ m h b i. by_either i (λ e. (omega (arith, h, e), omega (arith, h, e))) (λ j. absurd j))
    (λ m ds h k b i. by_either (in_append ds ((48 + m % 10) ∷ []) b i) (k b)
    (λ j. by_either j (λ e. (omega (arith, e), omega (arith, e))) (λ j. absurd j)))
    n l

not_empty : {A : Type 0} (xs : List A) → 0 < length xs → xs ≡ [] → ⊥
not_empty [] l e = omega (arith, l)
not_empty (x ∷ xs) l e = cc

small : (k : ℕ) → k < 64 → k + 1 < 2 ^ 64
small k l = omega (arith, l)

slot_bytes : (k : ℕ) → k < 64 → (b : ℕ) → IsIn b (slot_text k) → IsDigit b
slot_bytes k l = digits (k + 1) (small k l)

slot_some : (k : ℕ) → k < 64 → slot_text k ≡ [] → ⊥
slot_some k l = not_empty (slot_text k) (decimal_nonempty (k + 1) (small k l))

pub slot_piece : (c k : ℕ) → (IsDigit c → ⊥) → k < 64 → IsPiece c (slot_text k)
slot_piece c k n l = record { lacks = λ i. n (slot_bytes k l c i); some = slot_some k l }

pub slots_same : (xs ys : List ℕ) → ((k : ℕ) → IsIn k xs → k < 64) → ((k : ℕ) → IsIn k ys → k < 64) → map slot_text xs ≡ map slot_text ys → xs ≡ ys
slots_same xs ys f g = map_same slot_text xs ys
    (λ x y i j e. let q = decimal_injective (x + 1) (y + 1) (small x (f x i)) (small y (g y j)) e in omega (arith, q))

abbrev pub AreSlots : List ℕ → Type 0
AreSlots xs = (k : ℕ) → IsIn k xs → k < 64

slot_pieces : (c : ℕ) (xs : List ℕ) → (IsDigit c → ⊥) → AreSlots xs → ArePieces c (map slot_text xs)
slot_pieces c xs n f x i = let (k, j, e) = in_map slot_text xs x i in subst (IsPiece c) e (slot_piece c k n (f k j))

-- joined by a byte that is no digit
pub joined_slots : (c : ℕ) (xs ys : List ℕ) → (IsDigit c → ⊥) → AreSlots xs → AreSlots ys
    → join_with_byte c (map slot_text xs) ≡ join_with_byte c (map slot_text ys) → xs ≡ ys
joined_slots c xs ys n f g e =
    slots_same xs ys f g (joined_same c (map slot_text xs) (map slot_text ys) (slot_pieces c xs n f) (slot_pieces c ys n g) e)

pub slots_bytes : (P : ℕ → Type 0) (c : ℕ) (xs : List ℕ) → P c → ((b : ℕ) → IsDigit b → P b) → AreSlots xs → (b : ℕ)
    → IsIn b (join_with_byte c (map slot_text xs)) → P b
slots_bytes P c xs h d f = joined_bytes P c (map slot_text xs) h
    (λ x i b j. let (k, l, e) = in_map slot_text xs x i in d b (slot_bytes k (f k l) b (subst (λ z. IsIn b z) (sym e) j)))

-- digits and dots
abbrev pub IsInner : ℕ → Type 0
IsInner b = (46 ≤ b) × (b ≤ 57)

group_bytes : (xs : List ℕ) → AreSlots xs → (b : ℕ) → IsIn b (group_text xs) → IsInner b
group_bytes xs = slots_bytes IsInner 46 xs (omega arith, omega arith) (λ b d. (omega (arith, d.0), omega (arith, d.1)))

pub group_piece : (xs : List ℕ) → AreSlots xs → (xs ≡ [] → ⊥) → IsPiece 44 (group_text xs)
group_piece [] f n = absurd (n refl)
group_piece (x ∷ xs) f n = record {
  lacks = λ i. let (a, b) = group_bytes (x ∷ xs) f 44 i in omega (arith, a);
  some = joined_some 46 (slot_text x) (map slot_text xs) (slot_piece 46 x (λ d. omega (arith, d.0)) (f x (inl refl)));
}

pub group_same : (xs ys : List ℕ) → AreSlots xs → AreSlots ys → group_text xs ≡ group_text ys → xs ≡ ys
group_same xs ys f g = joined_slots 46 xs ys (λ d. omega (arith, d.0)) f g

-- what stands between the brackets has none
pub groups_bytes : (xss : List (List ℕ)) → ((xs : List ℕ) → IsIn xs xss → AreSlots xs) → Lacks 125 (join_with_byte 44 (map group_text xss))
groups_bytes xss f i =
    let b : 125 ≤ 57 = joined_bytes (λ b. b ≤ 57) 44 (map group_text xss) (omega arith)
    (λ x j b k. let (xs, l, e) = in_map group_text xss x j in (group_bytes xs (f xs l) b (subst (λ z. IsIn b z) (sym e) k)).1) 125 i in
    omega (arith, b)

pub free_bytes : (xs : List ℕ) → AreSlots xs → Lacks 125 (join_with_byte 44 (map slot_text xs))
free_bytes xs f i =
    let b : 125 ≤ 57 = slots_bytes (λ b. b ≤ 57) 44 xs (omega arith) (λ b d. d.1) f 125 i in omega (arith, b)

-- ---- the order of lists of slots

in_placed : (x : List ℕ) (ys : List (List ℕ)) (z : List ℕ) → IsIn z (placed x ys) → IsIn z (x ∷ ys)
in_placed x [] z i = i
in_placed x (y ∷ ys) z i = by_test (is_le (slice_cmp nat_cmp x y)) (λ t. rw t at i)
    (λ t. by_either (let j : IsIn z (y ∷ placed x ys) = rw t at i in j) (λ e. inr (inl e))
    (λ j. by_either (in_placed x ys z j) inl (λ k. inr (inr k))))

placed_in : (x : List ℕ) (ys : List (List ℕ)) (z : List ℕ) → IsIn z (x ∷ ys) → IsIn z (placed x ys)
placed_in x [] z i = i
placed_in x (y ∷ ys) z i = by_test (is_le (slice_cmp nat_cmp x y)) (λ t. rw t i)
    (λ t. rw t (by_either i (λ e. inr (placed_in x ys z (inl e))) (λ j. by_either j inl (λ k. inr (placed_in x ys z (inr k))))))

pub in_ordered : (xs : List (List ℕ)) (z : List ℕ) → IsIn z (ordered xs) → IsIn z xs
in_ordered [] z i = i
in_ordered (x ∷ xs) z i = by_either (in_placed x (ordered xs) z i) inl (λ j. inr (in_ordered xs z j))

pub ordered_in : (xs : List (List ℕ)) (z : List ℕ) → IsIn z xs → IsIn z (ordered xs)
ordered_in [] z i = i
ordered_in (x ∷ xs) z i = placed_in x (ordered xs) z (by_either i inl (λ j. inr (ordered_in xs z j)))
