-- The text of a diagram is that of its models.
use Rattle.std.proofs.Common.{◌≡◌, ℕ, zero, suc, ◌+◌, ◌-◌, ◌*◌, ◌/◌, ◌%◌, ◌^◌, ◌<◌, ◌≤◌, Bool, true, false, cond, nat_eq, List, [], ◌∷◌, ◌++◌, ◌⊎◌, inl, inr}
use Rattle.std.proofs.Common.{refl, sym, ap, subst, ◌∙◌, arith}
use Rattle.std.specs.Fmt.{decimal}
use Rattle.std.proofs.Math.Nat.{pow-suc}
use Rattle.std.proofs.lemmas.Bool.{eq-eqb}
use Rattle.std.proofs.lemmas.Nat.Bits.{bit_at_lowest}
use Rattle.plai_base.specs.Mask.{has_slot}
use Rattle.plai_base.specs.Sets.{has}
use Rattle.plai_base.proofs.Sets.{has-kept}
use Rattle.plai_base.proofs.Bits.{slot_high}
use Rattle.plai_bdd.specs.declared.node.Node.{Node}
use Rattle.plai_bdd.specs.Assignment.{Assignment, IsFree}
use Rattle.plai_bdd.specs.Tree.{Tree, Tip, Fork, value, IsReduced}
use Rattle.plai_bdd.specs.Change.{AllSlots}
use Rattle.plai_bdd.specs.Nodes.{root_of, holds, is_model, IsCanonical, IsOver}
use Rattle.plai_bdd.specs.Text.{tree_text}
use Rattle.plai_bdd.proofs.Trees.{same_below}
use Rattle.plai_bdd.proofs.Depends.{AllSlots-depends}
use Rattle.plai_bdd.proofs.Models.{mask_below, mask_below-lt, mask_below-slot}
use Rattle.plai_terms.specs.Shape.{Shape, All, None, Node as Split, depends, shape, shape_text, set_text}
use Rattle.plai_terms.proofs.Shapes.{not_depends, depends_of, double_lt}
use Rattle.plai_pos.specs.Values.{models_of}
use Rattle.plai_pos.proofs.Alike.{below_or_from}

-- the mask's slots, from slot i on
abbrev seen : ℕ → ℕ → Assignment
seen i mask slot = has_slot mask (slot - i)

-- a tree of slots in a range answers alike where the assignments agree there
value_within : (t : Tree) (low high : ℕ) → IsReduced low t → AllSlots (λ slot. slot < high) t → (at other : Assignment)
    → ((slot : ℕ) → low ≤ slot → slot < high → at slot ≡ other slot) → value t at ≡ value t other
value_within (Tip b) low high r a at other same = refl
value_within (Fork s l u) low high r a at other same =
    let here = same s r.0 a.0 in
    let lows = value_within l (s + 1) high r.3 a.1 at other (λ slot le lt. same slot (omega (arith, le, r.0)) lt) in
    let highs = value_within u (s + 1) high r.4 a.2 at other (λ slot le lt. same slot (omega (arith, le, r.0)) lt) in
    (λ x. cond (here x) (highs x) (lows x))

-- later slots of a mask are the slots of its half
seen_half : (i y m slot : ℕ) → y / 2 ≡ m → i < slot → seen i y slot ≡ seen (suc i) m slot
seen_half i y m slot e l =
    let f : slot - i ≡ 1 + (slot - suc i) = omega (arith, l) in
    ap (has_slot y) f ∙ sym (slot_high y 1 (slot - suc i)) ∙ ap (λ z. has_slot z (slot - suc i)) e

value_half : (i n y m : ℕ) (t : Tree) → y / 2 ≡ m → IsReduced (i + 1) t → AllSlots (λ slot. slot < n) t → value t (seen i y) ≡ value t (seen (suc i) m)
value_half i n y m t e r a = value_within t (i + 1) n r a (seen i y) (seen (suc i) m) (λ slot le lt. seen_half i y m slot e (omega (arith, le)))

first_of_odd : (m : ℕ) → has_slot (2 * m + 1) 0 ≡ true
first_of_odd m = eq-eqb _ 1 (let e : (2 * m + 1) % 2 ≡ 1 = omega arith in bit_at_lowest (2 * m + 1) ∙ e)

first_of_even : (m : ℕ) → has_slot (2 * m) 0 ≡ false
first_of_even m = let e : (2 * m) % 2 ≡ 0 = omega arith in ap (λ z. nat_eq z 1) (bit_at_lowest (2 * m) ∙ e)

-- a tree answers at an assignment as at a mask of the slots from i on
value_mask : (i k n : ℕ) (t : Tree) → suc i + k ≡ n → IsReduced (i + 1) t → AllSlots (λ slot. slot < n) t → (at : Assignment)
    → value t at ≡ value t (seen (suc i) (mask_below k (λ j. at (suc i + j))))
value_mask i k n t e r a at =
    value_within t (i + 1) n r a at (seen (suc i) (mask_below k (λ j. at (suc i + j))))
    (λ slot le lt.
    let f : slot ≡ suc i + (slot - suc i) = omega (arith, le) in
    let inside : slot - suc i < k = omega (arith, le, lt, e) in
    ap at f ∙ sym (mask_below-slot k (λ j. at (suc i + j)) (slot - suc i) inside))

leaf_text : (b : Bool) → shape_text (cond b All None) ≡ tree_text (Tip b)
leaf_text true = refl
leaf_text false = refl

even_lt : (k m : ℕ) → m < 2 ^ k → 2 * m < 2 ^ suc k
even_lt k m l = subst (λ z. 2 * m < z) (sym (pow-suc 2 k)) (double_lt m (2 ^ k) l).0

odd_lt : (k m : ℕ) → m < 2 ^ k → 2 * m + 1 < 2 ^ suc k
odd_lt k m l = subst (λ z. 2 * m + 1 < z) (sym (pow-suc 2 k)) (double_lt m (2 ^ k) l).1

half_even : (m : ℕ) → 2 * m / 2 ≡ m
half_even m = omega arith

half_odd : (m : ℕ) → (2 * m + 1) / 2 ≡ m
half_odd m = omega arith

-- a tree that doesn't ask for the slot
module _ (k i n : ℕ) (f : ℕ → Bool) (t : Tree) (r : IsReduced (i + 1) t) (a : AllSlots (λ slot. slot < n) t)
    (h : (m : ℕ) → m < 2 ^ suc k → f m ≡ value t (seen i m)) where
  later : (m : ℕ) → m < 2 ^ k → f (2 * m) ≡ value t (seen (suc i) m)
  later m l = h (2 * m) (even_lt k m l) ∙ value_half i n (2 * m) m t (half_even m) r a

  independent : (b : Bool) → depends (2 ^ k) f ≡ b → b ≡ false
  independent false e = refl
  independent true e =
      let (m, l, differs) = depends_of (2 ^ k) f e in
      absurd (differs (h (2 * m + 1) (odd_lt k m l) ∙ value_half i n (2 * m + 1) m t (half_odd m) r a ∙ sym (later m l)))

  skipped : (whole : Shape) → whole ≡ cond (depends (2 ^ k) f)
      (Split (suc i) (shape k (suc (suc i)) (λ m. f (2 * m + 1))) (shape k (suc (suc i)) (λ m. f (2 * m)))) (shape k (suc (suc i)) (λ m. f (2 * m)))
      → shape_text (shape k (suc (suc i)) (λ m. f (2 * m))) ≡ tree_text t → shape_text whole ≡ tree_text t
  skipped whole e ih =
      let no = independent (depends (2 ^ k) f) refl in
      ap shape_text
      (e ∙ ap (λ b. cond b (Split (suc i) (shape k (suc (suc i)) (λ m. f (2 * m + 1))) (shape k (suc (suc i)) (λ m. f (2 * m))))
      (shape k (suc (suc i)) (λ m. f (2 * m)))) no)
      ∙ ih

-- a tree that asks for the slot first
module _ (k i n s : ℕ) (f : ℕ → Bool) (low high : Tree) (whole : i + suc k ≡ n) (is : s ≡ i) (r : IsReduced i (Fork s low high))
    (a : AllSlots (λ slot. slot < n) (Fork s low high))
    (h : (m : ℕ) → m < 2 ^ suc k → f m ≡ value (Fork s low high) (seen i m)) where
  none : s - i ≡ 0
  none = omega arith

  low_reduced : IsReduced (i + 1) low
  low_reduced = subst (λ x. IsReduced (x + 1) low) is r.3

  high_reduced : IsReduced (i + 1) high
  high_reduced = subst (λ x. IsReduced (x + 1) high) is r.4

  evens : (m : ℕ) → m < 2 ^ k → f (2 * m) ≡ value low (seen (suc i) m)
  evens m l =
      h (2 * m) (even_lt k m l)
      ∙ ap (λ b. cond b (value high (seen i (2 * m))) (value low (seen i (2 * m)))) (ap (has_slot (2 * m)) none ∙ first_of_even m)
      ∙ value_half i n (2 * m) m low (half_even m) low_reduced a.1

  odds : (m : ℕ) → m < 2 ^ k → f (2 * m + 1) ≡ value high (seen (suc i) m)
  odds m l =
      h (2 * m + 1) (odd_lt k m l)
      ∙ ap (λ b. cond b (value high (seen i (2 * m + 1))) (value low (seen i (2 * m + 1)))) (ap (has_slot (2 * m + 1)) none ∙ first_of_odd m)
      ∙ value_half i n (2 * m + 1) m high (half_odd m) high_reduced a.2

  later_whole : suc i + k ≡ n
  later_whole = omega arith

  dependent : (b : Bool) → depends (2 ^ k) f ≡ b → b ≡ true
  dependent true e = refl
  dependent false e =
      absurd (r.2 (same_below low high (i + 1) low_reduced high_reduced
      (λ at.
      let m = mask_below k (λ j. at (suc i + j)) in
      let l : m < 2 ^ k = mask_below-lt k (λ j. at (suc i + j)) in
      value_mask i k n low later_whole low_reduced a.1 at ∙ sym (evens m l) ∙ sym (not_depends (2 ^ k) f e m l) ∙ odds m l
      ∙ sym (value_mask i k n high later_whole high_reduced a.2 at))))

  forked : (all : Shape) → all ≡ cond (depends (2 ^ k) f)
      (Split (suc i) (shape k (suc (suc i)) (λ m. f (2 * m + 1))) (shape k (suc (suc i)) (λ m. f (2 * m)))) (shape k (suc (suc i)) (λ m. f (2 * m)))
      → shape_text (shape k (suc (suc i)) (λ m. f (2 * m + 1))) ≡ tree_text high → shape_text (shape k (suc (suc i)) (λ m. f (2 * m))) ≡ tree_text low
      → shape_text all ≡ tree_text (Fork s low high)
  forked all e p q =
      let yes_it = dependent (depends (2 ^ k) f) refl in
      let number : suc i ≡ s + 1 = omega arith in
      ap shape_text
      (e ∙ ap (λ b. cond b (Split (suc i) (shape k (suc (suc i)) (λ m. f (2 * m + 1))) (shape k (suc (suc i)) (λ m. f (2 * m))))
      (shape k (suc (suc i)) (λ m. f (2 * m)))) yes_it)
      ∙ (λ x. 40 ∷ (decimal (number x) ++ 32 ∷ (p x ++ 32 ∷ (q x ++ 41 ∷ []))))

first_or_later : (s i : ℕ) → i ≤ s → (s ≡ i) ⊎ (i < s)
first_or_later s i l = grind arith

shape-more : (k i : ℕ) (f : ℕ → Bool) → shape (suc k) i f
    ≡ cond (depends (2 ^ k) f) (Split i (shape k (suc i) (λ m. f (2 * m + 1))) (shape k (suc i) (λ m. f (2 * m)))) (shape k (suc i) (λ m. f (2 * m)))
unfolding shape
shape-more k i f = refl

shape-none : (i : ℕ) (f : ℕ → Bool) → shape zero i f ≡ cond (f 0) All None
unfolding shape
shape-none i f = refl

more_reduced : (i : ℕ) (t : Tree) → IsReduced (i + 1) t → IsReduced (suc i) t
more_reduced i t r = let e : i + 1 ≡ suc i = omega arith in subst (λ n. IsReduced n t) e r

printed : (k i n : ℕ) (f : ℕ → Bool) (t : Tree) → i + k ≡ n → IsReduced i t → AllSlots (λ slot. slot < n) t → ((m : ℕ) → m < 2 ^ k → f m ≡ value t (seen i m))
    → shape_text (shape k (suc i) f) ≡ tree_text t
printed zero i n f (Tip b) e r a h = ap shape_text (shape-none (suc i) f ∙ ap (λ x. cond x All None) (h 0 (omega arith))) ∙ leaf_text b
printed zero i n f (Fork s l u) e r a h = absurd (omega (arith, r.0, a.0, e))
printed (suc k) i n f (Tip b) e r a h =
    skipped k i n f (Tip b) tt tt h (shape (suc k) (suc i) f) (shape-more k (suc i) f)
    (printed k (suc i) n (λ m. f (2 * m)) (Tip b) (omega (arith, e)) tt tt (later k i n f (Tip b) tt tt h))
printed (suc k) i n f (Fork s l u) e r a h = by (λ g t q b w. printed k (suc i) n g t (omega (arith, e)) q b w) (first_or_later s i r.0)
  where
    by : ((g : ℕ → Bool) (t : Tree) → IsReduced (suc i) t → AllSlots (λ slot. slot < n) t → ((m : ℕ) → m < 2 ^ k → g m ≡ value t (seen (suc i) m))
        → shape_text (shape k (suc (suc i)) g) ≡ tree_text t) → (s ≡ i) ⊎ (i < s) → shape_text (shape (suc k) (suc i) f) ≡ tree_text (Fork s l u)
    by rest (inl same) =
        forked k i n s f l u e same r a h (shape (suc k) (suc i) f) (shape-more k (suc i) f)
        (rest (λ m. f (2 * m + 1)) u (more_reduced i u (high_reduced k i n s f l u e same r a h)) a.2 (odds k i n s f l u e same r a h))
        (rest (λ m. f (2 * m)) l (more_reduced i l (low_reduced k i n s f l u e same r a h)) a.1 (evens k i n s f l u e same r a h))
    by rest (inr less) =
        let q : IsReduced (i + 1) (Fork s l u) = (omega (arith, less), r.1, r.2, r.3, r.4) in
        skipped k i n f (Fork s l u) q a h (shape (suc k) (suc i) f) (shape-more k (suc i) f)
        (rest (λ m. f (2 * m)) (Fork s l u) (more_reduced i (Fork s l u) q) a (later k i n f (Fork s l u) q a h))

pub models_text : (n : ℕ) (nodes : List Node) → IsCanonical nodes → IsOver n nodes → tree_text (root_of nodes) ≡ set_text n (models_of n nodes)
models_text n nodes c over =
    sym (printed n 0 n (has (models_of n nodes)) (root_of nodes) (omega arith) c.reduced
    (AllSlots-depends (λ slot. slot < n) (root_of nodes) 0 c.reduced (λ slot depends. by slot depends (below_or_from slot n)))
    (λ m l. has-kept (2 ^ n) (is_model nodes) m l ∙ ap (holds nodes) (λ x slot. has_slot m (from_none slot x))))
  where
    by : (slot : ℕ) → (IsFree (holds nodes) slot → ⊥) → (slot < n) ⊎ (n ≤ slot) → slot < n
    by slot depends (inl l) = l
    by slot depends (inr l) = absurd (depends (over slot l))

    from_none : (slot : ℕ) → slot ≡ slot - 0
    from_none slot = omega arith
