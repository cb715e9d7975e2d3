-- Shapes of functions that agree, and of the parts of a table of truths.
use Rattle.std.proofs.Common.{◌≡◌, ℕ, zero, suc, ◌+◌, ◌-◌, ◌*◌, ◌^◌, ◌<◌, ◌≤◌, Bool, true, false, ◌||◌, not, cond, nat_eq, List, [], ◌∷◌, ◌++◌, length, take}
use Rattle.std.proofs.Common.{set, get_or, inl, inr, refl, sym, ap, ◌∙◌, arith, subst, append_assoc, decimal, slice_index_or, le_refl}
use Rattle.std.specs.Bool.{beq}
use Rattle.std.proofs.Math.Nat.{pow-suc}
use Rattle.std.proofs.lemmas.Bool.{or_left, or_right, cases_eq, eq-eqb, ne_eqb}
use Rattle.std.proofs.lemmas.Nat.{mul-le, mul-add-lt}
use Rattle.std.proofs.lemmas.List.{take_more, get_or-set_same, get_or-set_other}
use Rattle.std.proofs.Math.ListN.{length-set}
use Rattle.plai_base.proofs.Sets.{has-append}
use Rattle.plai_base.specs.Sets.{has}
use Rattle.plai_terms.specs.Shape.{Shape, All, None, Node, depends, shape, shape_text, entry}
use Rattle.plai_terms.proofs.Shapes.{double_lt}

depends_same : (b : ℕ) (f g : ℕ → Bool) → ((m : ℕ) → m < b → f (2 * m) ≡ g (2 * m)) → ((m : ℕ) → m < b → f (2 * m + 1) ≡ g (2 * m + 1))
    → depends b f ≡ depends b g
unfolding depends
depends_same zero f g h k = refl
depends_same (suc b) f g h k =
    let p = h b (omega arith) in
    let q = k b (omega arith) in
    let r = depends_same b f g (λ m l. h m (omega (arith, l))) (λ m l. k m (omega (arith, l))) in
    cc

pub shape_same : (k i : ℕ) (f g : ℕ → Bool) → ((m : ℕ) → m < 2 ^ k → f m ≡ g m) → shape k i f ≡ shape k i g
unfolding shape
shape_same zero i f g h = ap (λ b. cond b All None) (h 0 (omega arith))
shape_same (suc k) i f g h =
    let even : (m : ℕ) → m < 2 ^ k → f (2 * m) ≡ g (2 * m) = λ m l. h (2 * m) (subst (λ z. 2 * m < z) (sym (pow-suc 2 k)) (double_lt m (2 ^ k) l).0) in
    let odd : (m : ℕ) → m < 2 ^ k → f (2 * m + 1) ≡ g (2 * m + 1) =
    λ m l. h (2 * m + 1) (subst (λ z. 2 * m + 1 < z) (sym (pow-suc 2 k)) (double_lt m (2 ^ k) l).1) in
    let p = depends_same (2 ^ k) f g even odd in
    let q = shape_same k (suc i) (λ m. f (2 * m + 1)) (λ m. g (2 * m + 1)) odd in
    let r = shape_same k (suc i) (λ m. f (2 * m)) (λ m. g (2 * m)) even in
    cc

pub shape_none : (c i : ℕ) (f : ℕ → Bool) (b : Bool) → c ≡ 0 → b ≡ f 0 → shape c i f ≡ cond b All None
unfolding shape
shape_none c i f b e h = ap (λ k. shape k i f) e ∙ ap (λ b. cond b All None) (sym h)

-- ---- the places of a table

pub scaled : (s k : ℕ) → 0 < s → k ≤ s * k
scaled s k h = omega (arith, mul-le 1 k s k (omega arith) (le_refl k))

pub place_lt : (first step k size : ℕ) → first < step → k < size → first + step * k < step * size
place_lt first step k size f l = omega (arith, mul-add-lt k step first size l f)

doubled : (c : ℕ) → 0 < c → 2 * 2 ^ (c - 1) ≡ 2 ^ c
doubled c h = let e : c ≡ suc (c - 1) = omega arith in let p = pow-suc 2 (c - 1) in omega (arith, p, ap (λ k. 2 ^ k) e)

-- half of the places, each twice as far from the next
pub halved : (step c : ℕ) → 0 < c → (2 * step * 2 ^ (c - 1) ≡ step * 2 ^ c) × (step * (2 * 2 ^ (c - 1)) ≡ step * 2 ^ c)
halved step c h = let e = ap (λ k. step * k) (doubled c h) in (omega (arith, e), e)

module _ (flags : List Bool) (first step m : ℕ) where
  entry_even : entry flags first step (2 * m) ≡ entry flags first (2 * step) m
  entry_even = let e : first + step * (2 * m) ≡ first + 2 * step * m = omega arith in ap (λ p. slice_index_or flags p false) e

  entry_odd : entry flags first step (2 * m + 1) ≡ entry flags (first + step) (2 * step) m
  entry_odd = let e : first + step * (2 * m + 1) ≡ first + step + 2 * step * m = omega arith in ap (λ p. slice_index_or flags p false) e

-- ---- the shape of a table, by its halves

module _ (flags : List Bool) (first step c i : ℕ) (some : 0 < c) where
  abbrev here : ℕ → Bool
  here = entry flags first step

  named : shape c i here ≡ cond (depends (2 ^ (c - 1)) here)
      (Node i (shape (c - 1) (i + 1) (λ m. here (2 * m + 1))) (shape (c - 1) (i + 1) (λ m. here (2 * m)))) (shape (c - 1) (i + 1) (λ m. here (2 * m)))
  unfolding shape
  named =
      let e : c ≡ suc (c - 1) = omega arith in
      let s : i + 1 ≡ suc i = omega arith in
      ap (λ k. shape k i here) e
      ∙ ap (λ j. cond (depends (2 ^ (c - 1)) here) (Node i (shape (c - 1) j (λ m. here (2 * m + 1))) (shape (c - 1) j (λ m. here (2 * m))))
      (shape (c - 1) j (λ m. here (2 * m)))) (sym s)

  lower : shape (c - 1) (i + 1) (λ m. here (2 * m)) ≡ shape (c - 1) (i + 1) (entry flags first (2 * step))
  lower = shape_same (c - 1) (i + 1) (λ m. here (2 * m)) (entry flags first (2 * step)) (λ m l. entry_even flags first step m)

  upper : shape (c - 1) (i + 1) (λ m. here (2 * m + 1)) ≡ shape (c - 1) (i + 1) (entry flags (first + step) (2 * step))
  upper = shape_same (c - 1) (i + 1) (λ m. here (2 * m + 1)) (entry flags (first + step) (2 * step)) (λ m l. entry_odd flags first step m)

  pub shape_skips : depends (2 ^ (c - 1)) here ≡ false → shape c i here ≡ shape (c - 1) (i + 1) (entry flags first (2 * step))
  shape_skips e =
      named
      ∙ ap (λ b. cond b (Node i (shape (c - 1) (i + 1) (λ m. here (2 * m + 1))) (shape (c - 1) (i + 1) (λ m. here (2 * m))))
      (shape (c - 1) (i + 1) (λ m. here (2 * m)))) e
      ∙ lower

  pub shape_splits : depends (2 ^ (c - 1)) here ≡ true
      → shape c i here ≡ Node i (shape (c - 1) (i + 1) (entry flags (first + step) (2 * step))) (shape (c - 1) (i + 1) (entry flags first (2 * step)))
  shape_splits e =
      named
      ∙ ap (λ b. cond b (Node i (shape (c - 1) (i + 1) (λ m. here (2 * m + 1))) (shape (c - 1) (i + 1) (λ m. here (2 * m))))
      (shape (c - 1) (i + 1) (λ m. here (2 * m)))) e
      ∙ ap (λ x. Node i x (shape (c - 1) (i + 1) (λ m. here (2 * m)))) upper
      ∙ ap (λ x. Node i (shape (c - 1) (i + 1) (entry flags (first + step) (2 * step))) x) lower

-- the shape of a table is that of the list of masks that it was made of
pub table_shape : (masks : List ℕ) (flags table : List Bool) (n : ℕ) → table ≡ flags → ((m : ℕ) → m < 2 ^ n → slice_index_or flags m false ≡ has masks m)
    → shape n 1 (entry table 0 1) ≡ shape n 1 (has masks)
table_shape masks flags table n is truths = shape_same n 1 (entry table 0 1) (has masks) (λ m l.
    let e : 0 + 1 * m ≡ m = omega arith in ap (λ p. slice_index_or table p false) e ∙ ap (λ t. slice_index_or t m false) is ∙ truths m l)

-- ---- the table of a list of masks

has_more : (masks : List ℕ) (i x m : ℕ) → i < length masks → x ≡ get_or masks i x → has (take (i + 1) masks) m ≡ (has (take i masks) m || nat_eq x m)
has_more masks i x m l is =
    ap (λ l. has l m) (take_more masks i x l ∙ ap (λ y. take i masks ++ y ∷ []) (sym is))
    ∙ has-append (take i masks) (x ∷ []) m
    ∙ ap (λ b. has (take i masks) m || b) (or-false (nat_eq x m))
  where
    or-false : (b : Bool) → (b || false) ≡ b
    or-false true = refl
    or-false false = refl

or_here : (b c : Bool) → c ≡ true → (b || c) ≡ true
or_here b c e = or_right b c e

or_there : (b c : Bool) → c ≡ false → (b || c) ≡ b
or_there true c e = refl
or_there false c e = e

module _ (masks : List ℕ) (flags : List Bool) (i x : ℕ) (within : i < length masks) (is : x ≡ get_or masks i x)
    (before : (m : ℕ) → m < length flags → get_or flags m false ≡ has (take i masks) m) where
  pub noted : (next : List Bool) → x < length flags → next ≡ set flags x true → (m : ℕ) → m < length next → get_or next m false ≡ has (take (i + 1) masks) m
  noted next l e m k =
      let long : length next ≡ length flags = ap length e ∙ length-set flags x true in
      elim (cases_eq m x) [
        | inl q ↦
            let yes : nat_eq x m ≡ true = eq-eqb x m (sym q) in
            let here : get_or next m false ≡ true = ap (λ f. get_or f m false) e ∙ ap (λ p. get_or (set flags x true) p false) q
            ∙ get_or-set_same flags x true false l in
            here ∙ sym (has_more masks i x m within is ∙ or_here _ _ yes)
        | inr q ↦
            let no : nat_eq x m ≡ false = ne_eqb x m (λ z. absurd (q (sym z))) in
            ap (λ f. get_or f m false) e ∙ get_or-set_other flags x m true false q ∙ before m (omega arith)
            ∙ sym (has_more masks i x m within is ∙ or_there _ _ no)
      ]

  pub passed_by : length flags ≤ x → (m : ℕ) → m < length flags → get_or flags m false ≡ has (take (i + 1) masks) m
  passed_by l m k =
      let no : nat_eq x m ≡ false = ne_eqb x m (omega arith) in
      before m k ∙ sym (has_more masks i x m within is ∙ or_there _ _ no)

-- ---- the test

pub depends_none : (f : ℕ → Bool) → depends 0 f ≡ false
unfolding depends
depends_none f = refl

pub depends_next : (b : ℕ) (f : ℕ → Bool) → depends b f ≡ false → false ≡ not (beq (f (2 * b + 1)) (f (2 * b))) → depends (b + 1) f ≡ false
unfolding depends
depends_next b f h e = let s : b + 1 ≡ suc b = omega arith in ap (λ k. depends k f) s ∙ rw (← e) h

pub depends_from : (b m : ℕ) (f : ℕ → Bool) → m < b → true ≡ not (beq (f (2 * m + 1)) (f (2 * m))) → depends b f ≡ true
unfolding depends
depends_from zero m f l e = absurd (omega (arith, l))
depends_from (suc b) m f l e = elim (cases_eq m b) [
  | inl q ↦ or_left _ _ (subst (λ k. not (beq (f (2 * k + 1)) (f (2 * k))) ≡ true) q (sym e))
  | inr q ↦ or_right _ _ (depends_from b m f (omega (arith, l, q)) e)
]

joined : (old d p q : List ℕ) → ((((old ++ 40 ∷ (d ++ 32 ∷ [])) ++ p) ++ 32 ∷ []) ++ q) ++ 41 ∷ [] ≡ old ++ 40 ∷ (d ++ 32 ∷ (p ++ 32 ∷ (q ++ 41 ∷ [])))
joined old d p q = simp append_assoc

pub node_written : (x y z : Shape) (i : ℕ) (old a b c d e : List ℕ) → x ≡ Node i y z → a ≡ old ++ 40 ∷ (decimal i ++ 32 ∷ []) → b ≡ a ++ shape_text y
    → c ≡ b ++ 32 ∷ [] → d ≡ c ++ shape_text z → e ≡ d ++ 41 ∷ []
    → e ≡ old ++ shape_text x
node_written x y z i old a b c d e is p q r s t =
    t ∙ ap (λ l. l ++ 41 ∷ []) (s ∙ ap (λ l. l ++ shape_text z) (r ∙ ap (λ l. l ++ 32 ∷ []) (q ∙ ap (λ l. l ++ shape_text y) p)))
    ∙ joined old (decimal i) (shape_text y) (shape_text z)
    ∙ ap (λ w. old ++ shape_text w) (sym is)
