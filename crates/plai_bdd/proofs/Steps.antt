-- The steps of combining two places: leaves, a slot that is placed, and a slot that is fixed.
use Rattle.std.proofs.Common.{true≢false, Result, Ok, Err, IfOk, OnOk, ◌≡◌, ◌≢◌, ℕ, ◌+◌, ◌<◌, ◌≤◌, Bool, true, false, cond, nat_eq, min, ◌||◌, List, get_or}
use Rattle.std.proofs.Common.{refl, sym, ap, subst, ◌∙◌, arith, ◌⊎◌, inl, inr}
use Rattle.std.proofs.lemmas.Bool.{or_cases}
use Rattle.std.proofs.Math.Bool.{and-false, or-true}
use Rattle.plai_bdd.specs.Assignment.{Assignment}
use Rattle.plai_bdd.specs.declared.node.Node.{Node}
use Rattle.plai_bdd.specs.declared.node.Node.TheVariants.{Leaf, Branch}
use Rattle.plai_bdd.specs.declared.change.Connective.{Connective}
use Rattle.plai_bdd.specs.declared.change.Connective.TheVariants.{And, Or, Iff}
use Rattle.plai_bdd.specs.declared.change.Change.{Change}
use Rattle.plai_bdd.specs.declared.change.Placed.TheVariants.{At, Fixed, Parted}
use Rattle.plai_bdd.specs.Change.{absorbs, answer_of, placed, can_place, moved, changed, top_of}
use Rattle.plai_bdd.specs.Tree.{value}
use Rattle.plai_bdd.specs.Nodes.{place_of, put, tree_at}
use Rattle.plai_bdd.specs.Table.{no_node, IsTable, IsGrown, IsSource, Adds, slot_of, leaf_answer, is_absorbing, children_of, joined_place, joined_table}
use Rattle.plai_bdd.specs.Table.{least_of, function_of}
use Rattle.plai_bdd.proofs.Adding.{Adds-as, Adds-leaf, Adds-join}
use Rattle.plai_bdd.proofs.Tables.{IsGrown-same, put_grown}
use Rattle.plai_bdd.proofs.Splits.{IsSplit, top_at_most, top_is, leaf_is, children_split, top_fits, placed_at, placed_fixed, placed_parted, moved_more}

answers_split : (c : Connective) (b : Bool) (x y z w : Bool) → answer_of c (cond b x y) (cond b z w) ≡ cond b (answer_of c x z) (answer_of c y w)
answers_split c true x y z w = refl
answers_split c false x y z w = refl

least_is : (m n : ℕ) → (min m n ≡ m) ⊎ (min m n ≡ n)
least_is m n = grind arith

-- an answer that decides the connective's, on the left and on the right
absorbed_left : (c : Connective) (x y z : Bool) → absorbs c x ≡ true → answer_of c x y ≡ answer_of c x z
absorbed_left And true y z h = absurd (true≢false (sym h))
absorbed_left And false y z h = refl
absorbed_left Or true y z h = refl
absorbed_left Or false y z h = absurd (true≢false (sym h))
absorbed_left Iff x y z h = absurd (true≢false (sym h))

absorbed_right : (c : Connective) (x y z : Bool) → absorbs c z ≡ true → answer_of c x z ≡ answer_of c y z
absorbed_right And x y true h = absurd (true≢false (sym h))
absorbed_right And x y false h = and-false x ∙ sym (and-false y)
absorbed_right Or x y true h = or-true x ∙ sym (or-true y)
absorbed_right Or x y false h = absurd (true≢false (sym h))
absorbed_right Iff x y z h = absurd (true≢false (sym h))

-- a leaf that decides, on the left and on the right
decides_left : (c : Connective) (a b : Node) (u v : Bool) → is_absorbing c a ≡ true → (64 ≤ slot_of a → u ≡ leaf_answer a)
    → answer_of c (leaf_answer a) (leaf_answer b) ≡ answer_of c u v
decides_left c (Leaf x) b u v h is = absorbed_left c x (leaf_answer b) v h ∙ ap (λ z. answer_of c z v) (sym (is (omega arith)))
decides_left c (Branch s i j) b u v h is = absurd (true≢false (sym h))

decides_right : (c : Connective) (a b : Node) (u v : Bool) → is_absorbing c b ≡ true → (64 ≤ slot_of b → v ≡ leaf_answer b)
    → answer_of c (leaf_answer a) (leaf_answer b) ≡ answer_of c u v
decides_right c a (Leaf y) u v h is = absorbed_right c (leaf_answer a) u y h ∙ ap (λ z. answer_of c u z) (sym (is (omega arith)))
decides_right c a (Branch s i j) u v h is = absurd (true≢false (sym h))

module _ (connective : Connective) (change : Change) (left right : List Node) (i j : ℕ) (a b : Node)
    (left_is : IsSource change left i) (right_is : IsSource change right j) (a_is : get_or left i no_node ≡ a) (b_is : get_or right j no_node ≡ b) where
  tops_are : min (top_of (tree_at left i)) (top_of (tree_at right j)) ≡ min (slot_of a) (slot_of b)
  tops_are = (λ x. min (top_is change left i a left_is a_is x) (top_is change right j b right_is b_is x))

  -- a leaf whose answer is that of the two at each assignment
  answered : (t : List Node) (node : Node) → IsTable t → node ≡ Leaf (answer_of connective (leaf_answer a) (leaf_answer b))
      → ((at : Assignment) → answer_of connective (leaf_answer a) (leaf_answer b) ≡ function_of connective change left right i j at)
      → Adds t (place_of node t) (put node t) (least_of change left right i j) (function_of connective change left right i j)
  answered t node ok is all =
      let x : Bool = answer_of connective (leaf_answer a) (leaf_answer b) in
      let P : Node → Type 0 = λ n. Adds t (place_of n t) (put n t) (least_of change left right i j) (function_of connective change left right i j) in
      subst P (sym is) (Adds-as (omega arith) all (Adds-leaf x t (least_of change left right i j) ok))

  -- two leaves
  pub leaves : (t : List Node) (node : Node) (slot : ℕ) → IsTable t → slot ≡ min (slot_of a) (slot_of b) → slot ≡ 64
      → node ≡ Leaf (answer_of connective (leaf_answer a) (leaf_answer b))
      → Adds t (place_of node t) (put node t) (least_of change left right i j) (function_of connective change left right i j)
  leaves t node slot ok slot_is e is =
      let one = leaf_is change left i a left_is a_is (omega arith) in
      let two = leaf_is change right j b right_is b_is (omega arith) in
      answered t node ok is (λ at z. answer_of connective (sym (one (changed change false at)) z) (sym (two (changed change true at)) z))

  -- a leaf that decides
  pub decided : (t : List Node) (node : Node) (r : Bool) → IsTable t → r ≡ (is_absorbing connective a || is_absorbing connective b) → r ≡ true
      → node ≡ Leaf (answer_of connective (leaf_answer a) (leaf_answer b))
      → Adds t (place_of node t) (put node t) (least_of change left right i j) (function_of connective change left right i j)
  decided t node r ok r_is holds is = answered t node ok is (λ at. by at (or_cases _ _ (sym r_is ∙ holds)))
    where
      by : (at : Assignment) → (is_absorbing connective a ≡ true) ⊎ (is_absorbing connective b ≡ true)
          → answer_of connective (leaf_answer a) (leaf_answer b) ≡ function_of connective change left right i j at
      by at (inl h) = decides_left connective a b _ _ h (λ leaf. leaf_is change left i a left_is a_is leaf (changed change false at))
      by at (inr h) = decides_right connective a b _ _ h (λ leaf. leaf_is change right j b right_is b_is leaf (changed change true at))

  module _ (slot : ℕ) (slot_is : slot ≡ min (slot_of a) (slot_of b)) (other : slot ≢ 64) (cl cr : ℕ × ℕ) (cl_is : cl ≡ children_of a slot i)
      (cr_is : cr ≡ children_of b slot j) where
    lt : slot < 64
    lt = omega (
      arith,
      other,
      top_is change left i a left_is a_is,
      top_at_most (tree_at left i) 0 left_is.reduced,
      top_is change right j b right_is b_is,
      top_at_most (tree_at right j) 0 right_is.reduced,
    )

    pub left_split : IsSplit change left i slot cl.0 cl.1
    left_split = let P : ℕ × ℕ → Type 0 = λ p. IsSplit change left i slot p.0 p.1 in
        subst P (sym cl_is) (children_split change left i a slot left_is a_is (omega arith) lt)

    pub right_split : IsSplit change right j slot cr.0 cr.1
    right_split = let P : ℕ × ℕ → Type 0 = λ p. IsSplit change right j slot p.0 p.1 in
        subst P (sym cr_is) (children_split change right j b slot right_is b_is (omega arith) lt)

    pub can_be : can_place change slot
    can_be = by (least_is (slot_of a) (slot_of b))
      where
        by : (min (slot_of a) (slot_of b) ≡ slot_of a) ⊎ (min (slot_of a) (slot_of b) ≡ slot_of b) → can_place change slot
        by (inl e) = top_fits change (tree_at left i) slot left_is.fits (top_is change left i a left_is a_is ∙ sym e ∙ sym slot_is) lt
        by (inr e) = top_fits change (tree_at right j) slot right_is.fits (top_is change right j b right_is b_is ∙ sym e ∙ sym slot_is) lt

    -- the children are earlier
    pub low_falls : cl.0 + cr.0 < i + j
    low_falls = by (least_is (slot_of a) (slot_of b))
      where
        by : (min (slot_of a) (slot_of b) ≡ slot_of a) ⊎ (min (slot_of a) (slot_of b) ≡ slot_of b) → cl.0 + cr.0 < i + j
        by (inl e) = omega (arith, left_split.low_below (top_is change left i a left_is a_is ∙ sym e ∙ sym slot_is), right_split.low_within)
        by (inr e) = omega (arith, right_split.low_below (top_is change right j b right_is b_is ∙ sym e ∙ sym slot_is), left_split.low_within)

    pub high_falls : cl.1 + cr.1 < i + j
    high_falls = by (least_is (slot_of a) (slot_of b))
      where
        by : (min (slot_of a) (slot_of b) ≡ slot_of a) ⊎ (min (slot_of a) (slot_of b) ≡ slot_of b) → cl.1 + cr.1 < i + j
        by (inl e) = omega (arith, left_split.high_below (top_is change left i a left_is a_is ∙ sym e ∙ sym slot_is), right_split.high_within)
        by (inr e) = omega (arith, right_split.high_below (top_is change right j b right_is b_is ∙ sym e ∙ sym slot_is), left_split.high_within)

    pub parted_falls : cl.0 + cr.1 < i + j
    parted_falls = by (least_is (slot_of a) (slot_of b))
      where
        by : (min (slot_of a) (slot_of b) ≡ slot_of a) ⊎ (min (slot_of a) (slot_of b) ≡ slot_of b) → cl.0 + cr.1 < i + j
        by (inl e) = omega (arith, left_split.low_below (top_is change left i a left_is a_is ∙ sym e ∙ sym slot_is), right_split.high_within)
        by (inr e) = omega (arith, right_split.high_below (top_is change right j b right_is b_is ∙ sym e ∙ sym slot_is), left_split.low_within)

    low_least : moved change slot + 1 ≤ least_of change left right cl.0 cr.0
    low_least = moved_more change slot _ can_be (omega (arith, left_split.low_top, right_split.low_top))

    high_least : moved change slot + 1 ≤ least_of change left right cl.1 cr.1
    high_least = moved_more change slot _ can_be (omega (arith, left_split.high_top, right_split.high_top))

    parted_least : moved change slot + 1 ≤ least_of change left right cl.0 cr.1
    parted_least = moved_more change slot _ can_be (omega (arith, left_split.low_top, right_split.high_top))

    least_here : least_of change left right i j ≡ moved change slot
    least_here = ap (moved change) (tops_are ∙ sym slot_is)

    -- the function at the two, by the children's, where the slot's answers on the two sides are known
    split_at : (at : Assignment) (b c : Bool) → changed change false at slot ≡ b → changed change true at slot ≡ c
        → function_of connective change left right i j at
        ≡ answer_of connective (cond b (value (tree_at left cl.1) (changed change false at)) (value (tree_at left cl.0) (changed change false at)))
        (cond c (value (tree_at right cr.1) (changed change true at)) (value (tree_at right cr.0) (changed change true at)))
    split_at at b c e f =
        (λ x. answer_of connective (left_split.splits (changed change false at) x) (right_split.splits (changed change true at) x))
        ∙ (λ x. answer_of connective (cond (e x) (value (tree_at left cl.1) (changed change false at)) (value (tree_at left cl.0) (changed change false at)))
        (cond (f x) (value (tree_at right cr.1) (changed change true at)) (value (tree_at right cr.0) (changed change true at))))

    split_alike : (at : Assignment) (b : Bool) → ((side : Bool) → changed change side at slot ≡ b) → function_of connective change left right i j at
        ≡ cond b (function_of connective change left right cl.1 cr.1 at)
        (function_of connective change left right cl.0 cr.0 at)
    split_alike at b e = split_at at b b (e false) (e true) ∙ answers_split connective b _ _ _ _

    -- a slot that is placed
    pub step_placed : (m p q : ℕ) (t u v : List Node) → placed change slot ≡ At m
        → Adds t p u (least_of change left right cl.0 cr.0) (function_of connective change left right cl.0 cr.0)
        → Adds u q v (least_of change left right cl.1 cr.1) (function_of connective change left right cl.1 cr.1)
        → Adds t (joined_place m p q v) (joined_table m p q v) (least_of change left right i j) (function_of connective change left right i j)
    step_placed m p q t u v at_m low high =
        let here = placed_at change slot m at_m can_be lt in
        let low2 : Adds t p u (m + 1) (function_of connective change left right cl.0 cr.0) = Adds-as (omega (arith, low_least, here.0)) (λ at. refl) low in
        let high2 : Adds u q v (m + 1) (function_of connective change left right cl.1 cr.1) = Adds-as (omega (arith, high_least, here.0)) (λ at. refl) high in
        let joins : (at : Assignment) → function_of connective change left right i j at
        ≡ cond (at m) (function_of connective change left right cl.1 cr.1 at)
        (function_of connective change left right cl.0 cr.0 at) =
        λ at. split_alike at (at m) (λ side. here.2 side at) in
        Adds-as (omega (arith, least_here, here.0)) (λ at. refl) (Adds-join low2 high2 here.1 joins)

    -- a slot that is fixed
    pub step_true : (p : ℕ) (t u : List Node) → placed change slot ≡ Fixed true
        → Adds t p u (least_of change left right cl.1 cr.1) (function_of connective change left right cl.1 cr.1)
        → Adds t p u (least_of change left right i j) (function_of connective change left right i j)
    step_true p t u is done =
        let here = placed_fixed change slot true is in
        Adds-as (omega (arith, least_here, high_least)) (λ at. sym (split_alike at true (λ side. here.1 side at))) done

    pub step_false : (p : ℕ) (t u : List Node) → placed change slot ≡ Fixed false
        → Adds t p u (least_of change left right cl.0 cr.0) (function_of connective change left right cl.0 cr.0)
        → Adds t p u (least_of change left right i j) (function_of connective change left right i j)
    step_false p t u is done =
        let here = placed_fixed change slot false is in
        Adds-as (omega (arith, least_here, low_least)) (λ at. sym (split_alike at false (λ side. here.1 side at))) done

    -- a slot that is false on the left and true on the right
    pub step_parted : (p : ℕ) (t u : List Node) → placed change slot ≡ Parted
        → Adds t p u (least_of change left right cl.0 cr.1) (function_of connective change left right cl.0 cr.1)
        → Adds t p u (least_of change left right i j) (function_of connective change left right i j)
    step_parted p t u is done =
        let here = placed_parted change slot is in
        Adds-as (omega (arith, least_here, parted_least)) (λ at. sym (split_at at false true (here.1 false at) (here.1 true at))) done

-- facts on a result's value, taken together
pub ok_both : {A E : Type 0} (P Q R : A → Type 0) → ((a : A) → P a → Q a → R a) → (r : Result A E) → IfOk r P → IfOk r Q → IfOk r R
ok_both P Q R f (Ok a) p q = f a p q
ok_both P Q R f (Err e) p q = p

pub ok_from : {A E : Type 0} (P : A → Type 0) (R : Type 0) → ((a : A) → P a → R) → (r : Result A E) → IfOk r P → OnOk r R
ok_from P R f (Ok a) p = f a p
ok_from P R f (Err e) p = tt

pub ok_then : {A E : Type 0} (P R : A → Type 0) → ((a : A) → P a → R a) → (r : Result A E) → IfOk r P → IfOk r R
ok_then P R f (Ok a) p = f a p
ok_then P R f (Err e) p = tt

pub placed_ok : {E : Type 0} {t v : List Node} {k least : ℕ} {f : Assignment → Bool} (u : List Node) (r : Result ℕ E) → IfOk r (λ p. p ≡ k) → OnOk r (u ≡ v)
    → Adds t k v least f
    → IfOk r (λ p. Adds t p u least f)
placed_ok {E} {t} {v} {k} {least} {f} u (Ok p) e s a =
    let P : List Node → Type 0 = λ w. Adds t p w least f in
    subst P (sym s) (subst (λ n. Adds t n v least f) (sym e) a)
placed_ok u (Err x) e s a = tt

pub join_grown : (slot low high : ℕ) (t : List Node) → IsGrown t (joined_table slot low high t)
join_grown slot low high t =
    elim (nat_eq low high) as (λ b. IsGrown t (cond b t (put (Branch slot low high) t))) [ true ↦ IsGrown-same t | false ↦ put_grown t (Branch slot low high) ]
