-- The order of rows is a strict order, and total on names whose texts differ.
use Rattle.std.proofs.Common.{◌≡◌, ◌⊎◌, ℕ, List, inl, inr, refl, sym, ap, ◌∙◌}
use Rattle.std.specs.declared.cmp.Ordering.{Ordering}
use Rattle.std.specs.declared.cmp.Ordering.TheVariants.{Less, Equal, Greater}
use Rattle.std.specs.Cmp.{IsTotalOrder}
use Rattle.std.specs.Cmp.Lexicographic.{nat_list_cmp_total}
use Rattle.std.specs.Ordering.{ordering_then, ordering_reverse, nat_cmp}
use Rattle.std.proofs.lemmas.Cmp.{ranked, nat_cmp_total, on_total, then_total, tied_itself}
use Rattle.plai_terms.specs.declared.pred_key.PredKey.{PredKey}
use Rattle.plai_terms.specs.declared.row_name.RowName.{RowName}
use Rattle.plai_terms.specs.Pattern.{pattern_text}
use Rattle.plai_terms.specs.RowOrder.{text_order, pred_order, name_order, IsBefore, HaveSameText}
use Rattle.plai_terms.proofs.GroupOrder.{texts_tie}
use Rattle.plai_terms.proofs.Sorted.{by_ordering}

pub pred_total : IsTotalOrder pred_order
pred_total = then_total (on_total (λ (p : PredKey). p.module) nat_list_cmp_total)
    (then_total (on_total (λ (p : PredKey). p.name) nat_list_cmp_total) (on_total (λ (p : PredKey). p.arity) nat_cmp_total))

pub name_total : IsTotalOrder name_order
name_total = then_total (on_total (λ (x : RowName). x.pred) pred_total) (on_total (λ (x : RowName). pattern_text x.call) nat_list_cmp_total)

pub before_itself : (x : RowName) → IsBefore x x → ⊥
before_itself x h = let e : Less ≡ Equal = sym h ∙ tied_itself name_total x in cc

both_tied : (a b : Ordering) → ordering_then a b ≡ Equal → (a ≡ Equal) × (b ≡ Equal)
both_tied Less b e = cc
both_tied Equal b e = (refl, e)
both_tied Greater b e = cc

numbers_tie : (x y : ℕ) → nat_cmp x y ≡ Equal → x ≡ y
numbers_tie x y e = ranked x y Equal (sym e)

same_key : (m m' n n' : List ℕ) (a a' : ℕ) → m ≡ m' → n ≡ n' → a ≡ a'
    → (let k : PredKey = record { «module» = m; name = n; arity = a } in k) ≡ record { «module» = m'; name = n'; arity = a' }
same_key m m' n n' a a' p q r = cc

preds_tie : (a b : PredKey) → pred_order a b ≡ Equal → a ≡ b
preds_tie a b e =
    let t = both_tied (text_order a.module b.module) (ordering_then (text_order a.name b.name) (nat_cmp a.arity b.arity)) e in
    let u = both_tied (text_order a.name b.name) (nat_cmp a.arity b.arity) t.1 in
    same_key a.module b.module a.name b.name a.arity b.arity (texts_tie a.module b.module t.0) (texts_tie a.name b.name u.0) (numbers_tie a.arity b.arity u.1)

pub names_tie : (x y : RowName) → name_order x y ≡ Equal → HaveSameText x y
names_tie x y e =
    let t = both_tied (pred_order x.pred y.pred) (text_order (pattern_text x.call) (pattern_text y.call)) e in
    (preds_tie x.pred y.pred t.0, texts_tie (pattern_text x.call) (pattern_text y.call) t.1)

pub one_is_before : (x y : RowName) → (HaveSameText x y → ⊥) → IsBefore x y ⊎ IsBefore y x
one_is_before x y h = by_ordering (name_order x y)
    (λ l. inl l)
    (λ e. absurd (h (names_tie x y e)))
    (λ g. inr (name_total.antisymm y x ∙ ap ordering_reverse g))
