-- What the move for an equation says of its sides.
use Rattle.std.proofs.Common.{◌≡◌, ◌⊎◌, inl, inr, ℕ, ◌+◌, ◌<◌, ◌≤◌, Bool, true, false, ◌&&◌, ◌==◌, cond, List, [], ◌∷◌, map, sum, length, refl, sym, ap}
use Rattle.std.proofs.Common.{subst, ◌∙◌, rules, arith, nat_eq}
use Rattle.std.specs.List.{AllByRecursion}
use Rattle.std.specs.Cmp.Lexicographic.{pointwise}
use Rattle.std.specs.Ordering.{int_eq}
use Rattle.std.proofs.lemmas.Bool.{eqb-true, eq-eqb}
use Rattle.std.proofs.lemmas.Bool.Decides.{Decides-eqb, Decides-int_eq}
use Rattle.std.proofs.lemmas.Slice.Eq.{slice_eq-Decides}
use Rattle.std.proofs.lemmas.List.{length-map}
use Rattle.std.proofs.lemmas.List.Sums.{sum_by-cons}
use Rattle.plai_terms.specs.Term.{occurs}
use Rattle.plai_terms.proofs.Solutions.{size_of}
use Rattle.plai_terms.proofs.Terms.{induction}
use Rattle.plai_terms.specs.declared.term.Term.{Term, Var, Int, Atom, Compound, out-Term, roll-Term, roll-out-Term, the_lemmas}
use Rattle.plai_terms.specs.declared.term.Term.TheOpen.{Term-F}
use Rattle.plai_terms.specs.declared.term.Term.TheVariants.{rolls-Var, rolls-Compound}
use Rattle.plai_terms.specs.Substitution.{under, occurs_in}
use Rattle.plai_terms.specs.Unification.{Equations, equations, move_of_levels, move_of}
use Rattle.plai_terms.specs.declared.moves.Move.{Move}
use Rattle.plai_terms.specs.declared.moves.Move.TheVariants.{Skip, Bind, Split, Differ, Contain}
use Rattle.plai_terms.proofs.Under.{under-Var, under-Compound, occurs-Var, occurs-Var_same, occurs-args, or_cases}

pub record IsSplit (l r : Term) (ds : Equations) : Type 0 where
  pub name : List ℕ
  pub xs : List Term
  pub ys : List Term
  pub left : l ≡ Compound name xs
  pub right : r ≡ Compound name ys
  pub as_many : length xs ≡ length ys
  pub they : ds ≡ equations xs ys

abbrev pub IsMove : Term → Term → Move → Type 0
IsMove l r Skip = l ≡ r
IsMove l r (Bind v t) = (occurs v t ≡ false) × (((l ≡ Var v) × (r ≡ t)) ⊎ ((l ≡ t) × (r ≡ Var v)))
IsMove l r (Split ds) = IsSplit l r ds
IsMove l r Differ = (f : ℕ → Term) → under f l ≡ under f r → ⊥
IsMove l r Contain = (f : ℕ → Term) → under f l ≡ under f r → ⊥

-- a term under f is at least as large as f at each of its variables
size_of-Compound : (name : List ℕ) (args : List Term) → size_of (Compound name args) ≡ 1 + sum (map size_of args)
size_of-Compound name args = search (rules, the_lemmas)

module _ (f : ℕ → Term) (v : ℕ) where
  abbrev IsLarge : Term → Type 0
  IsLarge t = occurs v t ≡ true → size_of (f v) ≤ size_of (under f t)

  large_all : (args : List Term) → AllByRecursion IsLarge args → occurs_in v args ≡ true → size_of (f v) ≤ sum (map size_of (map (under f) args))
  large_all [] h e = cc
  large_all (a ∷ args) h e =
      let s : sum (map size_of (map (under f) (a ∷ args))) ≡ size_of (under f a) + sum (map size_of (map (under f) args)) =
      sum_by-cons (λ x. x) (size_of (under f a)) (map size_of (map (under f) args)) in
      elim (or_cases (occurs v a) (occurs_in v args) e) [
        | inl o ↦ let p = h.0 o in omega arith
        | inr o ↦ let p = large_all args h.1 o in omega arith
      ]

  large_Compound : (name : List ℕ) (args : List Term) → AllByRecursion IsLarge args → occurs v (Compound name args) ≡ true
      → size_of (f v) < size_of (under f (Compound name args))
  large_Compound name args h e =
      let s : size_of (under f (Compound name args)) ≡ 1 + sum (map size_of (map (under f) args)) =
      ap size_of (under-Compound f name args) ∙ size_of-Compound name (map (under f) args) in
      let m : size_of (f v) ≤ sum (map size_of (map (under f) args)) = large_all args h (sym (occurs-args v name args) ∙ e) in
      omega arith

  large : (t : Term) → IsLarge t
  large = induction IsLarge
      (λ u e. let s : size_of (f v) ≡ size_of (under f (Var u)) = ap (λ w. size_of (f w)) (occurs-Var_same v u e) ∙ ap size_of (sym (under-Var f u)) in
      omega arith)
      (λ n e. let no : occurs v (Int n) ≡ false = search (rules, the_lemmas) in cc)
      (λ a e. let no : occurs v (Atom a) ≡ false = search (rules, the_lemmas) in cc)
      (λ name args h e. let p : size_of (f v) < size_of (under f (Compound name args)) = large_Compound name args h e in omega arith)

  all_large : (args : List Term) → AllByRecursion IsLarge args
  all_large [] = tt
  all_large (a ∷ args) = (large a, all_large args)

  -- no f makes a variable equal to a compound that contains it
  pub contained : (name : List ℕ) (args : List Term) → occurs v (Compound name args) ≡ true → f v ≡ under f (Compound name args) → ⊥
  contained name args e h =
      let p : size_of (f v) < size_of (under f (Compound name args)) = large_Compound name args (all_large args) e in
      let q : size_of (f v) ≡ size_of (under f (Compound name args)) = ap size_of h in
      omega arith

abbrev IsOther : Term-F Term → Type 0
IsOther (Term-F.Var v) = ⊥
IsOther (Term-F.Int n) = Unit {0}
IsOther (Term-F.Atom a) = Unit {0}
IsOther (Term-F.Compound name args) = Unit {0}

-- the layer of a term under f, where the term is no variable
abbrev layer_under : (ℕ → Term) → Term-F Term → Term-F Term
layer_under f (Term-F.Var v) = Term-F.Var v
layer_under f (Term-F.Int n) = Term-F.Int n
layer_under f (Term-F.Atom a) = Term-F.Atom a
layer_under f (Term-F.Compound name args) = Term-F.Compound name (map (under f) args)

out_under : (f : ℕ → Term) (x : Term-F Term) → IsOther x → out-Term (under f (roll-Term x)) ≡ layer_under f x
out_under f (Term-F.Var v) h = absurd h
out_under f (Term-F.Int n) h = search (rules, the_lemmas)
out_under f (Term-F.Atom a) h = search (rules, the_lemmas)
out_under f (Term-F.Compound name args) h = search (rules, the_lemmas)

same_layers : (f : ℕ → Term) (x y : Term-F Term) → IsOther x → IsOther y → under f (roll-Term x) ≡ under f (roll-Term y) → layer_under f x ≡ layer_under f y
same_layers f x y h k e = sym (out_under f x h) ∙ ap out-Term e ∙ out_under f y k

not_contained : (f : ℕ → Term) (v : ℕ) (y : Term-F Term) → IsOther y → occurs v (roll-Term y) ≡ true → f v ≡ under f (roll-Term y) → ⊥
not_contained f v (Term-F.Var w) h o e = h
not_contained f v (Term-F.Int n) h o e = let no : occurs v (roll-Term (Term-F.Int n)) ≡ false = search (rules, the_lemmas) in cc
not_contained f v (Term-F.Atom a) h o e = let no : occurs v (roll-Term (Term-F.Atom a)) ≡ false = search (rules, the_lemmas) in cc
not_contained f v (Term-F.Compound name args) h o e =
    contained f v name args (ap (occurs v) (sym (rolls-Compound name args)) ∙ o) (e ∙ ap (under f) (rolls-Compound name args))

chosen : {A : Type 0} (P : A → Type 0) (b : Bool) (x y : A) → (b ≡ true → P x) → (b ≡ false → P y) → P (cond b x y)
chosen P true x y f g = f refl
chosen P false x y f g = g refl

var_left : (v : ℕ) (y : Term-F Term) → IsOther y
    → IsMove (roll-Term (Term-F.Var v)) (roll-Term y) (cond (occurs v (roll-Term y)) Contain (Bind v (roll-Term y)))
var_left v y h =
    chosen (IsMove (roll-Term (Term-F.Var v)) (roll-Term y)) (occurs v (roll-Term y)) Contain (Bind v (roll-Term y))
    (λ o f e. not_contained f v y h o (sym (ap (under f) (rolls-Var v) ∙ under-Var f v) ∙ e))
    (λ o. (o, inl (rolls-Var v, refl)))

var_right : (w : ℕ) (x : Term-F Term) → IsOther x
    → IsMove (roll-Term x) (roll-Term (Term-F.Var w)) (cond (occurs w (roll-Term x)) Contain (Bind w (roll-Term x)))
var_right w x h =
    chosen (IsMove (roll-Term x) (roll-Term (Term-F.Var w))) (occurs w (roll-Term x)) Contain (Bind w (roll-Term x))
    (λ o f e. not_contained f w x h o (sym (ap (under f) (rolls-Var w) ∙ under-Var f w) ∙ sym e))
    (λ o. (o, inr (refl, rolls-Var w)))

names : (xs ys : List ℕ) → (pointwise nat_eq xs ys ≡ true → xs ≡ ys) × (xs ≡ ys → pointwise nat_eq xs ys ≡ true)
names xs ys = slice_eq-Decides Decides-eqb xs ys (pointwise nat_eq xs ys) refl

pub both : (p q : Bool) → (p && q) ≡ true → (p ≡ true) × (q ≡ true)
both true q e = (refl, e)
both false q e = cc

and_true : (p q : Bool) → p ≡ true → q ≡ true → (p && q) ≡ true
and_true true q e h = h
and_true false q e h = cc

same_lengths : (f : ℕ → Term) (xs ys : List Term) → map (under f) xs ≡ map (under f) ys → length xs ≡ length ys
same_lengths f xs ys e = sym (length-map xs (under f)) ∙ ap length e ∙ length-map ys (under f)

layers_are : (x y : Term-F Term) → IsMove (roll-Term x) (roll-Term y) (move_of_levels (roll-Term x) (roll-Term y) x y)
layers_are (Term-F.Var v) (Term-F.Var w) =
    chosen (IsMove (roll-Term (Term-F.Var v)) (roll-Term (Term-F.Var w))) (v == w) Skip (Bind v (roll-Term (Term-F.Var w)))
    (λ e. ap (λ u. roll-Term (Term-F.Var u)) (eqb-true v w e))
    (λ e. (ap (occurs v) (rolls-Var w) ∙ occurs-Var v w ∙ e, inl (rolls-Var v, refl)))
layers_are (Term-F.Var v) (Term-F.Int n) = var_left v (Term-F.Int n) tt
layers_are (Term-F.Var v) (Term-F.Atom a) = var_left v (Term-F.Atom a) tt
layers_are (Term-F.Var v) (Term-F.Compound name args) = var_left v (Term-F.Compound name args) tt
layers_are (Term-F.Int n) (Term-F.Var w) = var_right w (Term-F.Int n) tt
layers_are (Term-F.Atom a) (Term-F.Var w) = var_right w (Term-F.Atom a) tt
layers_are (Term-F.Compound name args) (Term-F.Var w) = var_right w (Term-F.Compound name args) tt
layers_are (Term-F.Int m) (Term-F.Int n) =
    chosen (IsMove (roll-Term (Term-F.Int m)) (roll-Term (Term-F.Int n))) (int_eq m n) Skip Differ
    (λ e. ap (λ k. roll-Term (Term-F.Int k)) ((Decides-int_eq m n).0 e))
    (λ e f h.
    let s = same_layers f (Term-F.Int m) (Term-F.Int n) tt tt h in
    let k : m ≡ n = cc in
    let b = (Decides-int_eq m n).1 k in cc)
layers_are (Term-F.Int m) (Term-F.Atom b) = λ f h. let s = same_layers f (Term-F.Int m) (Term-F.Atom b) tt tt h in cc
layers_are (Term-F.Int m) (Term-F.Compound b ys) = λ f h. let s = same_layers f (Term-F.Int m) (Term-F.Compound b ys) tt tt h in cc
layers_are (Term-F.Atom a) (Term-F.Int n) = λ f h. let s = same_layers f (Term-F.Atom a) (Term-F.Int n) tt tt h in cc
layers_are (Term-F.Atom a) (Term-F.Atom b) =
    chosen (IsMove (roll-Term (Term-F.Atom a)) (roll-Term (Term-F.Atom b))) (pointwise nat_eq a b) Skip Differ
    (λ e. ap (λ k. roll-Term (Term-F.Atom k)) ((names a b).0 e))
    (λ e f h.
    let s = same_layers f (Term-F.Atom a) (Term-F.Atom b) tt tt h in
    let k : a ≡ b = cc in
    let t = (names a b).1 k in cc)
layers_are (Term-F.Atom a) (Term-F.Compound b ys) = λ f h. let s = same_layers f (Term-F.Atom a) (Term-F.Compound b ys) tt tt h in cc
layers_are (Term-F.Compound a xs) (Term-F.Int n) = λ f h. let s = same_layers f (Term-F.Compound a xs) (Term-F.Int n) tt tt h in cc
layers_are (Term-F.Compound a xs) (Term-F.Atom b) = λ f h. let s = same_layers f (Term-F.Compound a xs) (Term-F.Atom b) tt tt h in cc
layers_are (Term-F.Compound a xs) (Term-F.Compound b ys) =
    chosen (IsMove (roll-Term (Term-F.Compound a xs)) (roll-Term (Term-F.Compound b ys))) (pointwise nat_eq a b && nat_eq (length xs) (length ys))
    (Split (equations xs ys)) Differ
    (λ e.
    let t = both (pointwise nat_eq a b) (nat_eq (length xs) (length ys)) e in
    let k : a ≡ b = (names a b).0 t.0 in
    record {
      name = a;
      xs = xs;
      ys = ys;
      left = rolls-Compound a xs;
      right = ap (λ n. roll-Term (Term-F.Compound n ys)) (sym k) ∙ rolls-Compound a ys;
      as_many = eqb-true (length xs) (length ys) t.1;
      they = refl;
    })
    (λ e f h.
    let s = same_layers f (Term-F.Compound a xs) (Term-F.Compound b ys) tt tt h in
    let k : a ≡ b = cc in
    let m : map (under f) xs ≡ map (under f) ys = cc in
    let t = and_true (pointwise nat_eq a b) (nat_eq (length xs) (length ys)) ((names a b).1 k) (eq-eqb (length xs) (length ys) (same_lengths f xs ys m)) in
    cc)

pub move_is : (l r : Term) → IsMove l r (move_of l r)
unfolding move_of
move_is l r =
    let P : Term → Term → Type 0 = λ x y. IsMove x y (move_of_levels x y (out-Term l) (out-Term r)) in
    subst (λ x. P x r) (roll-out-Term l) (subst (λ y. P (roll-Term (out-Term l)) y) (roll-out-Term r) (layers_are (out-Term l) (out-Term r)))
