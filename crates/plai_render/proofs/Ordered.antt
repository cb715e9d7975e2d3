-- Rows after a sort: no row before an earlier one, and where no two have names of one text, each strictly before the next.
use Rattle.std.proofs.Common.{All, ◌≡◌, ℕ, ◌≤◌, false, cond, List, [], ◌∷◌, refl, sym, ap, ◌∙◌, subst, arith, sum_by, IsPermutation}
use Rattle.std.specs.Cmp.{IsTotalOrder}
use Rattle.std.specs.List.{AllByRecursion}
use Rattle.std.specs.declared.cmp.Ordering.{Ordering}
use Rattle.std.specs.declared.cmp.Ordering.TheVariants.{Less, Equal, Greater}
use Rattle.std.specs.Ordering.{is_gt, is_eq, ordering_reverse}
use Rattle.std.proofs.lemmas.Bool.{false≢true}
use Rattle.std.proofs.lemmas.Cmp.{on_total, tied_itself}
use Rattle.std.proofs.lemmas.List.Elements.{All-nil, All-cons, All-head, All-tail}
use Rattle.std.proofs.lemmas.List.Sums.{sum_by-cons}
use Rattle.std.proofs.lemmas.List.Sorted.{sum_by-IsPermutation}
use Rattle.plai_terms.specs.declared.plain_row.PlainRow.{PlainRow}
use Rattle.plai_terms.specs.Rows.{AreInOrder}
use Rattle.plai_terms.specs.RowOrder.{name_order, IsBefore, HaveSameText}
use Rattle.plai_terms.proofs.RowOrders.{name_total, names_tie}
use Rattle.plai_terms.proofs.Sorted.{IsUp, once, by_ordering}
use Rattle.plai_render.specs.Order.{AreWeaklyInOrder, AreApart}

abbrev pub row_order : PlainRow → PlainRow → Ordering
row_order a b = name_order a.name b.name

pub row_total : IsTotalOrder row_order
row_total = on_total (λ (r : PlainRow). r.name) name_total

not_before : (row later : PlainRow) → is_gt (row_order row later) ≡ false → IsBefore later.name row.name → ⊥
not_before row later n b = false≢true (sym n ∙ ap is_gt (row_total.antisymm row later ∙ ap ordering_reverse b))

none_before : (row : PlainRow) (rows : List PlainRow) → AllByRecursion (λ later. is_gt (row_order row later) ≡ false) rows
    → All (λ later. IsBefore later.name row.name → ⊥) rows
none_before row [] h = All-nil (λ later. IsBefore later.name row.name → ⊥)
none_before row (q ∷ qs) h = All-cons (λ later. IsBefore later.name row.name → ⊥) q qs (not_before row q h.0) (none_before row qs h.1)

pub weakly : (rows : List PlainRow) → IsUp row_order rows → AreWeaklyInOrder rows
weakly [] u = tt
weakly (row ∷ rows) u = (none_before row rows u.0, weakly rows u.1)

abbrev here : PlainRow → PlainRow → ℕ
here = once row_order row_total

-- 1 where the two tie, and 0 where they do not
here_is : (x y : PlainRow) (o : Ordering) → row_order x y ≡ o → here x y ≡ cond (is_eq o) 1 0
here_is x y o e = ap (λ (r : Ordering). cond (is_eq r) 1 0) e

none_tied : (x row : PlainRow) (rows : List PlainRow) → row_order x row ≡ Equal → All (λ later. HaveSameText row.name later.name → ⊥) rows
    → sum_by (here x) rows ≡ 0
none_tied x row [] e h = refl
none_tied x row (q ∷ qs) e h =
    let zero_here : here x q ≡ 0 = by_ordering (row_order x q) (λ l. here_is x q Less l)
    (λ t. absurd (All-head (λ later. HaveSameText row.name later.name → ⊥) q qs h (names_tie row.name q.name (sym (row_total.congr x row q e) ∙ t))))
    (λ g. here_is x q Greater g) in
    omega (arith, sum_by-cons (here x) q qs, zero_here, none_tied x row qs e (All-tail (λ later. HaveSameText row.name later.name → ⊥) q qs h))

apart_once : (x : PlainRow) (rows : List PlainRow) → AreApart rows → sum_by (here x) rows ≤ 1
apart_once x [] h = omega arith
apart_once x (row ∷ rows) h =
    let split = sum_by-cons (here x) row rows in
    by_ordering (row_order x row)
    (λ l. omega (arith, split, here_is x row Less l, apart_once x rows h.1))
    (λ e. omega (arith, split, here_is x row Equal e, none_tied x row rows e h.0))
    (λ g. omega (arith, split, here_is x row Greater g, apart_once x rows h.1))

all_before : (row : PlainRow) (rows : List PlainRow) → AllByRecursion (λ later. is_gt (row_order row later) ≡ false) rows → sum_by (here row) rows ≡ 0
    → All (λ later. IsBefore row.name later.name) rows
all_before row [] h e = All-nil (λ later. IsBefore row.name later.name)
all_before row (q ∷ qs) h e =
    let split = sum_by-cons (here row) q qs in
    All-cons (λ later. IsBefore row.name later.name) q qs
    (by_ordering (row_order row q) (λ l. l) (λ t. absurd (omega (arith, split, e, here_is row q Equal t))) (λ g. absurd (false≢true (sym h.0 ∙ ap is_gt g))))
    (all_before row qs h.1 (omega (arith, split, e)))

strictly : (rows : List PlainRow) → IsUp row_order rows → ((x : PlainRow) → sum_by (here x) rows ≤ 1) → AreInOrder rows
strictly [] u h = tt
strictly (row ∷ rows) u h = (
  all_before row rows u.0 (omega (arith, h row, sum_by-cons (here row) row rows, here_is row row Equal (tied_itself row_total row))),
  strictly rows u.1 (λ x. omega (arith, h x, sum_by-cons (here x) row rows)),
)

-- a permutation of rows that are apart is in order where it is up
pub in_order : (rows sorted : List PlainRow) → IsPermutation rows sorted → IsUp row_order sorted → AreApart rows → AreInOrder sorted
in_order rows sorted p u h = strictly sorted u (λ x. subst (λ n. n ≤ 1) (sym (sum_by-IsPermutation (here x) rows sorted p)) (apart_once x rows h))
