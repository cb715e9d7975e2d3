-- Rows of groundness with distinct names are apart.
use Rattle.std.proofs.Common.{All, ◌≡◌, ◌≢◌, List, [], ◌∷◌, sym, ap, subst, arith}
use Rattle.std.proofs.lemmas.List.Elements.{All-cons, All-head, All-nil, All-tail}
use Rattle.plai_terms.specs.declared.abs.Abs.{Abs}
use Rattle.plai_terms.specs.declared.plain_row.PlainRow.{PlainRow}
use Rattle.plai_terms.specs.declared.pred_key.PredKey.{PredKey}
use Rattle.plai_terms.specs.declared.row_name.RowName.{RowName}
use Rattle.plai_terms.specs.Pattern.{IsGroundness}
use Rattle.plai_terms.specs.RowOrder.{HaveSameText}
use Rattle.plai_terms.proofs.PatternTexts.{patterns_differ}
use Rattle.plai_render.specs.Order.{AreApart, HaveDistinctNames, HasGroundnessCall}

same_name : (p q : PredKey) (c d : Abs) → p ≡ q → c ≡ d → (let n : RowName = record { pred = p; call = c } in n) ≡ record { pred = q; call = d }
same_name p q c d e f = cc

tells_apart : (row later : PlainRow) → HasGroundnessCall row → HasGroundnessCall later → row.name ≢ later.name → HaveSameText row.name later.name → ⊥
tells_apart row later h k differ same =
    let n : row.name.pred.arity ≡ later.name.pred.arity = ap (λ (p : PredKey). p.arity) same.0 in
    let calls : row.name.call ≡ later.name.call =
    patterns_differ row.name.pred.arity row.name.call later.name.call (omega (arith, h.0)) h.1
    (subst (λ a. IsGroundness a later.name.call) (sym n) k.1) same.1 in
    differ (same_name row.name.pred later.name.pred row.name.call later.name.call same.0 calls)

all_apart : (row : PlainRow) (rows : List PlainRow) → HasGroundnessCall row → All HasGroundnessCall rows → All (λ later. row.name ≢ later.name) rows
    → All (λ later. HaveSameText row.name later.name → ⊥) rows
all_apart row [] g h d = All-nil (λ later. HaveSameText row.name later.name → ⊥)
all_apart row (q ∷ qs) g h d =
    All-cons (λ later. HaveSameText row.name later.name → ⊥) q qs
    (tells_apart row q g (All-head HasGroundnessCall q qs h) (All-head (λ later. row.name ≢ later.name) q qs d))
    (all_apart row qs g (All-tail HasGroundnessCall q qs h) (All-tail (λ later. row.name ≢ later.name) q qs d))

pub apart : (rows : List PlainRow) → All HasGroundnessCall rows → HaveDistinctNames rows → AreApart rows
apart [] h d = tt
apart (row ∷ rows) h d = (
  all_apart row rows (All-head HasGroundnessCall row rows h) (All-tail HasGroundnessCall row rows h) d.0,
  apart rows (All-tail HasGroundnessCall row rows h) d.1,
)
