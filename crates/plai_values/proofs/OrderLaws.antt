-- The standard order is total, and ties equal terms alone.
use Rattle.std.proofs.Common.{◌≡◌, ◌↔◌, ℕ, ℤ, pos, Bool, true, List, [], ◌∷◌, map, length, refl, sym, ap, ◌∙◌, subst}
use Rattle.std.specs.List.{AllByRecursion}
use Rattle.std.specs.declared.cmp.Ordering.{Ordering}
use Rattle.std.specs.declared.cmp.Ordering.TheVariants.{Less, Equal, Greater}
use Rattle.std.specs.Ordering.{ordering_then, ordering_reverse, then_cmp, on, nat_cmp, int_cmp, is_eq}
use Rattle.std.specs.Cmp.{IsTotalOrder}
use Rattle.std.specs.Cmp.Lexicographic.{slice_cmp, nat_list_cmp_total, lists_total}
use Rattle.std.proofs.lemmas.Cmp.{int_ranked, nat_cmp_total, int_cmp_total, on_total, then_total, tied_itself}
use Rattle.plai_terms.specs.RowOrder.{text_order}
use Rattle.plai_terms.specs.Preorder.{preorder}
use Rattle.plai_terms.specs.declared.term.Term.{Term, roll-Term, out-Term, roll-out-Term}
use Rattle.plai_terms.specs.declared.term.Term.TheOpen.{Term-F}
use Rattle.plai_terms.proofs.Terms.{arguments, induction_by_levels}
use Rattle.plai_terms.proofs.GroupOrder.{texts_tie}
use Rattle.plai_values.specs.Nodes.{node_level}
use Rattle.plai_values.specs.TermOrder.{level_order, term_order}
use Rattle.plai_values.proofs.TermOrders.{lifted, term_order-roll, order_by_subterms, numbers_tie, then_Equal}

-- ---- ties

both_tied : (a b : Ordering) → ordering_then a b ≡ Equal → (a ≡ Equal) × (b ≡ Equal)
both_tied Less b e = cc
both_tied Equal b e = (refl, e)
both_tied Greater b e = cc

integers_tie : (m n : ℤ) → int_cmp m n ≡ Equal → m ≡ n
integers_tie m n e = int_ranked m n Equal (sym e)

abbrev IsTied : Term → Type 0
IsTied t = (u : Term) → term_order t u ≡ Equal → t ≡ u

arguments_tie : (xs ys : List Term) → AllByRecursion IsTied xs → slice_cmp (λ order t. order t) (map term_order xs) ys ≡ Equal → xs ≡ ys
arguments_tie [] [] h e = refl
arguments_tie [] (y ∷ ys) h e = cc
arguments_tie (x ∷ xs) [] h e = cc
arguments_tie (x ∷ xs) (y ∷ ys) h e =
    let t = both_tied (term_order x y) (slice_cmp (λ order t. order t) (map term_order xs) ys) e in
    let p = h.0 y t.0 in
    let q = arguments_tie xs ys h.1 t.1 in
    cc

levels_tie : (x y : Term-F Term) → AllByRecursion IsTied (arguments x) → level_order (lifted x) y ≡ Equal → x ≡ y
levels_tie (Term-F.Compound a xs) (Term-F.Compound b ys) h e =
    let t = both_tied (nat_cmp (length (map term_order xs)) (length ys))
    (ordering_then (text_order a b) (slice_cmp (λ order t. order t) (map term_order xs) ys)) e in
    let u = both_tied (text_order a b) (slice_cmp (λ order t. order t) (map term_order xs) ys) t.1 in
    let p = texts_tie a b u.0 in
    let q = arguments_tie xs ys h u.1 in
    cc
levels_tie (Term-F.Var v) (Term-F.Var w) h e = ap Term-F.Var (numbers_tie v w e)
levels_tie (Term-F.Int m) (Term-F.Int n) h e = ap Term-F.Int (integers_tie m n e)
levels_tie (Term-F.Atom a) (Term-F.Atom b) h e = ap Term-F.Atom (texts_tie a b e)
levels_tie _ _ h e = cc

terms_tie : (t : Term) → IsTied t
terms_tie = induction_by_levels IsTied (λ x h u e.
    let y = out-Term u in
    let back : roll-Term y ≡ u = roll-out-Term u in
    let seen : level_order (lifted x) y ≡ Equal = sym (term_order-roll x y) ∙ ap (term_order (roll-Term x)) back ∙ e in
    ap roll-Term (levels_tie x y h seen) ∙ back)

-- ---- the order of terms without their arguments, by keys

abbrev kind : Term-F Term → ℕ
kind (Term-F.Var v) = 0
kind (Term-F.Int n) = 1
kind (Term-F.Atom a) = 2
kind (Term-F.Compound a xs) = 3

abbrev number : Term-F Term → ℕ
number (Term-F.Var v) = v
number _ = 0

abbrev integer : Term-F Term → ℤ
integer (Term-F.Int n) = n
integer _ = pos 0

abbrev arity : Term-F Term → ℕ
arity (Term-F.Compound a xs) = length xs
arity _ = 0

abbrev name : Term-F Term → List ℕ
name (Term-F.Atom a) = a
name (Term-F.Compound a xs) = a
name _ = []

abbrev keyed : Term-F Term → Term-F Term → Ordering
keyed = then_cmp (on kind nat_cmp) (then_cmp (on number nat_cmp) (then_cmp (on integer int_cmp) (then_cmp (on arity nat_cmp) (on name text_order))))

keyed_total : IsTotalOrder keyed
keyed_total = then_total (on_total kind nat_cmp_total)
    (then_total (on_total number nat_cmp_total)
    (then_total (on_total integer int_cmp_total) (then_total (on_total arity nat_cmp_total) (on_total name nat_list_cmp_total))))

keyed_is : (x y : Term-F Term) → keyed x y ≡ node_level x y
keyed_is (Term-F.Var v) (Term-F.Var w) = then_Equal (nat_cmp v w)
keyed_is (Term-F.Int m) (Term-F.Int n) = then_Equal (int_cmp m n)
keyed_is (Term-F.Atom a) (Term-F.Atom b) = refl
keyed_is (Term-F.Compound a xs) (Term-F.Compound b ys) = refl
keyed_is _ _ = refl

-- ---- the laws

abbrev by_keys : Term → Term → Ordering
by_keys = on preorder (slice_cmp (on out-Term keyed))

by_keys_total : IsTotalOrder by_keys
by_keys_total = on_total preorder (lists_total (on_total out-Term keyed_total))

is_by_keys : (t u : Term) → term_order t u ≡ by_keys t u
is_by_keys t u = sym ((λ i. slice_cmp (λ x y. keyed_is (out-Term x) (out-Term y) i) (preorder t) (preorder u)) ∙ order_by_subterms t u)

pub term_order_total : IsTotalOrder term_order
term_order_total = record {
  antisymm = λ t u. is_by_keys t u ∙ by_keys_total.antisymm t u ∙ ap ordering_reverse (sym (is_by_keys u t));
  trans = λ t u v h k. is_by_keys t v ∙ by_keys_total.trans t u v (sym (is_by_keys t u) ∙ h) (sym (is_by_keys u v) ∙ k);
  congr = λ t u v h. is_by_keys t v ∙ by_keys_total.congr t u v (sym (is_by_keys t u) ∙ h) ∙ sym (is_by_keys u v);
}

pub ties_equal_terms : (t u : Term) → (term_order t u ≡ Equal) ↔ (t ≡ u)
ties_equal_terms t u = (terms_tie t u, λ e. subst (λ v. term_order t v ≡ Equal) e (tied_itself term_order_total t))

equal_tested : (o : Ordering) → is_eq o ≡ true → o ≡ Equal
equal_tested Less e = cc
equal_tested Equal e = refl
equal_tested Greater e = cc

pub told_by_order : (t u : Term) (o : Ordering) (b : Bool) → o ≡ term_order t u → b ≡ is_eq o → (b ≡ true) ↔ (t ≡ u)
told_by_order t u o b e f = (
  λ h. (ties_equal_terms t u).0 (sym e ∙ equal_tested o (sym f ∙ h)),
  λ h. f ∙ ap is_eq (e ∙ (ties_equal_terms t u).1 h),
)
