-- What is kept of a term is built of what is kept of its arguments.
use Rattle.std.proofs.Common.{◌≡◌, ℕ, ℤ, ◌+◌, ◌≤◌, ◌<◌, min, max, fold, Bool, true, false, cond, List, [], ◌∷◌, ◌++◌, map, length, refl, ap, sym, ◌∙◌, arith}
use Rattle.std.proofs.Common.{rules}
use Rattle.std.specs.Prelude.{◌||◌, nat_lt, nat_le}
use Rattle.std.specs.List.{list_any, flat_map}
use Rattle.std.proofs.lemmas.Bool.Decides.{nat_tests}
use Rattle.std.proofs.lemmas.List.{length-map}
use Rattle.plai_terms.specs.declared.term.Term.{Term, Var, Int, Atom, Compound, the_lemmas}
use Rattle.plai_terms.specs.Term.{depth_of}
use Rattle.plai_terms.specs.Readable.{is_wide}
use Rattle.plai_reader.specs.declared.tree.Tree.TheVariants.{Whole, Wide, Deep}
use Rattle.plai_reader.specs.Limits.{limited, kept, depth_in, is_wide_tree, terms_in, deepest, is_wide_over, kept_trees}

test_le : (n : ℕ) → nat_le n 1999 ≡ true → n ≤ 1999
test_le n e = grind (arith, nat_tests)

test_gt : (n : ℕ) → nat_le n 1999 ≡ false → 1999 < n
test_gt n e = grind (arith, nat_tests)

depth_of-Compound : (name : List ℕ) (args : List Term) → depth_of (Compound name args) ≡ 1 + fold max 0 (map depth_of args)
depth_of-Compound name args = search (rules, the_lemmas)

is_wide-Compound : (name : List ℕ) (args : List Term)
    → is_wide (Compound name args) ≡ (nat_lt 255 (length (map is_wide args)) || list_any (λ b. b) (map is_wide args))
is_wide-Compound name args = search (rules, the_lemmas)

-- the greatest of these and a start
abbrev greatest_depth : ℕ → List Term → ℕ
greatest_depth a ts = fold max a (map depth_of ts)

start-greatest : (a : ℕ) (ts : List Term) → a ≤ greatest_depth a ts
start-greatest a [] = omega arith
start-greatest a (t ∷ ts) = let p = start-greatest (max a (depth_of t)) ts in omega arith

depth_in-limited : (d : ℕ) (w : Bool) (t : Term) → depth_in (limited d w t) ≡ min d 2001
depth_in-limited d w t =
    let goal : Bool → Type 0 = λ b. nat_le d 2000 ≡ b → depth_in (cond b (cond w (Wide d) (Whole t d)) Deep) ≡ min d 2001 in
    let split : goal (nat_le d 2000) = elim (nat_le d 2000) as goal [
      | true ↦ λ e. within_depth e
      | false ↦ λ e. grind (arith, nat_tests)
    ] in
    split refl
  where
    within_depth : nat_le d 2000 ≡ true → depth_in (cond w (Wide d) (Whole t d)) ≡ min d 2001
    within_depth e =
        let small : d ≡ min d 2001 = grind (arith, nat_tests) in
        elim w as (λ b. depth_in (cond b (Wide d) (Whole t d)) ≡ min d 2001) [ true ↦ small | false ↦ small ]

deepest-kept : (a : ℕ) (ts : List Term) → fold max (min a 2001) (map depth_in (map kept ts)) ≡ min (greatest_depth a ts) 2001
deepest-kept a [] = refl
deepest-kept a (t ∷ ts) =
    let here : max (min a 2001) (depth_in (kept t)) ≡ min (max a (depth_of t)) 2001 =
    ap (max (min a 2001)) (depth_in-limited (depth_of t) (is_wide t) t) ∙ omega arith in
    ap (λ n. fold max n (map depth_in (map kept ts))) here ∙ deepest-kept (max a (depth_of t)) ts

-- of terms that are not too deep, the wide ones and the terms are known
kept-shallow : (t : Term) → depth_of t ≤ 2000 → kept t ≡ cond (is_wide t) (Wide (depth_of t)) (Whole t (depth_of t))
kept-shallow t p =
    let e : nat_le (depth_of t) 2000 ≡ true = grind (arith, nat_tests) in
    ap (λ b. cond b (cond (is_wide t) (Wide (depth_of t)) (Whole t (depth_of t))) Deep) e

is_wide-kept : (t : Term) → depth_of t ≤ 2000 → is_wide_tree (kept t) ≡ is_wide t
is_wide-kept t p =
    ap is_wide_tree (kept-shallow t p)
    ∙ elim (is_wide t) as (λ b. is_wide_tree (cond b (Wide (depth_of t)) (Whole t (depth_of t))) ≡ b) [ true ↦ refl | false ↦ refl ]

terms_in-kept : (t : Term) → depth_of t ≤ 2000 → is_wide t ≡ false → terms_in (kept t) ≡ t ∷ []
terms_in-kept t p e = ap terms_in (kept-shallow t p) ∙ ap (λ b. terms_in (cond b (Wide (depth_of t)) (Whole t (depth_of t)))) e

wide-kept : (a : ℕ) (ts : List Term) → greatest_depth a ts ≤ 2000 → list_any is_wide_tree (map kept ts) ≡ list_any (λ b. b) (map is_wide ts)
wide-kept a [] p = refl
wide-kept a (t ∷ ts) p =
    let q = start-greatest (max a (depth_of t)) ts in
    let shallow : depth_of t ≤ 2000 = omega arith in
    ap (λ b. b || list_any is_wide_tree (map kept ts)) (is_wide-kept t shallow)
    ∙ ap (λ b. is_wide t || b) (wide-kept (max a (depth_of t)) ts p)

or-false : (x y : Bool) → (x || y) ≡ false → (x ≡ false) × (y ≡ false)
or-false true y e = absurd (cc)
or-false false y e = (refl, e)

terms-kept : (a : ℕ) (ts : List Term) → greatest_depth a ts ≤ 2000 → list_any (λ b. b) (map is_wide ts) ≡ false → flat_map terms_in (map kept ts) ≡ ts
terms-kept a [] p e = refl
terms-kept a (t ∷ ts) p e =
    let q = start-greatest (max a (depth_of t)) ts in
    let shallow : depth_of t ≤ 2000 = omega arith in
    let both = or-false (is_wide t) (list_any (λ b. b) (map is_wide ts)) e in
    ap (λ xs. xs ++ flat_map terms_in (map kept ts)) (terms_in-kept t shallow both.0)
    ∙ ap (λ xs. t ∷ xs) (terms-kept (max a (depth_of t)) ts p both.1)

-- both are too deep
limited-deep : (d : ℕ) (w : Bool) (t : Term) → 2000 < d → limited d w t ≡ Deep
limited-deep d w t p =
    let e : nat_le d 2000 ≡ false = grind (arith, nat_tests) in
    ap (λ b. cond b (cond w (Wide d) (Whole t d)) Deep) e

-- neither is wide, or both are
limited-same : (d : ℕ) (w : Bool) (t u : Term) → (w ≡ false → t ≡ u) → limited d w t ≡ limited d w u
limited-same d true t u h = refl
limited-same d false t u h = ap (limited d false) (h refl)

module _ (name : List ℕ) (ts : List Term) where
  same_depth : greatest_depth 0 ts ≤ 1999 → deepest (map kept ts) ≡ greatest_depth 0 ts
  same_depth p = let q = deepest-kept 0 ts in omega arith

  same_width : greatest_depth 0 ts ≤ 1999 → is_wide_over (map kept ts) ≡ is_wide (Compound name ts)
  same_width p =
      ap (λ n. nat_lt 255 n || list_any is_wide_tree (map kept ts)) (length-map ts kept ∙ sym (length-map ts is_wide))
      ∙ ap (λ b. nat_lt 255 (length (map is_wide ts)) || b) (wide-kept 0 ts (omega arith)) ∙ sym (is_wide-Compound name ts)

  not_wide : is_wide (Compound name ts) ≡ false → list_any (λ b. b) (map is_wide ts) ≡ false
  not_wide e = (or-false (nat_lt 255 (length (map is_wide ts))) (list_any (λ b. b) (map is_wide ts)) (sym (is_wide-Compound name ts) ∙ e)).1

  shallow_compound : greatest_depth 0 ts ≤ 1999 → kept (Compound name ts) ≡ kept_trees.compound name (map kept ts)
  shallow_compound p =
      ap (λ d. limited d (is_wide (Compound name ts)) (Compound name ts)) (depth_of-Compound name ts)
      ∙ limited-same (1 + greatest_depth 0 ts) (is_wide (Compound name ts)) (Compound name ts) (Compound name (flat_map terms_in (map kept ts)))
      (λ e. ap (Compound name) (sym (terms-kept 0 ts (omega arith) (not_wide e))))
      ∙ ap (λ d. limited (1 + d) (is_wide (Compound name ts)) (Compound name (flat_map terms_in (map kept ts)))) (sym (same_depth p))
      ∙ ap (λ w. limited (1 + deepest (map kept ts)) w (Compound name (flat_map terms_in (map kept ts)))) (sym (same_width p))

  deep_compound : 1999 < greatest_depth 0 ts → kept (Compound name ts) ≡ kept_trees.compound name (map kept ts)
  deep_compound p =
      let q = deepest-kept 0 ts in
      let d = depth_of-Compound name ts in
      limited-deep (depth_of (Compound name ts)) (is_wide (Compound name ts)) (Compound name ts) (omega arith)
      ∙ sym (limited-deep (1 + deepest (map kept ts)) (is_wide_over (map kept ts)) (Compound name (flat_map terms_in (map kept ts))) (omega arith))

  pub kept-Compound : kept (Compound name ts) ≡ kept_trees.compound name (map kept ts)
  kept-Compound =
      let goal : Bool → Type 0 = λ b. nat_le (greatest_depth 0 ts) 1999 ≡ b → kept (Compound name ts) ≡ kept_trees.compound name (map kept ts) in
      let split : goal (nat_le (greatest_depth 0 ts) 1999) = elim (nat_le (greatest_depth 0 ts) 1999) as goal [
        | true ↦ λ e. shallow_compound (test_le (greatest_depth 0 ts) e)
        | false ↦ λ e. deep_compound (test_gt (greatest_depth 0 ts) e)
      ] in
      split refl

-- a variable, an integer or an atom is kept whole
kept-leaf : (t : Term) → depth_of t ≡ 1 → is_wide t ≡ false → kept t ≡ Whole t 1
kept-leaf t d w = ap (λ n. limited n (is_wide t) t) d ∙ ap (λ b. limited 1 b t) w

pub kept-Var : (n : ℕ) → kept (Var n) ≡ kept_trees.variable n
kept-Var n = kept-leaf (Var n) (search (rules, the_lemmas)) (search (rules, the_lemmas))

pub kept-Int : (n : ℤ) → kept (Int n) ≡ kept_trees.integer n
kept-Int n = kept-leaf (Int n) (search (rules, the_lemmas)) (search (rules, the_lemmas))

pub kept-Atom : (name : List ℕ) → kept (Atom name) ≡ kept_trees.atom name
kept-Atom name = kept-leaf (Atom name) (search (rules, the_lemmas)) (search (rules, the_lemmas))
