-- The test for equal row names answers true exactly at equal names.
use Rattle.std.proofs.Common.{◌≡◌, Bool, true, false, ◌&&◌, nat_eq, eqb-true, sym, refl}
use Rattle.std.specs.Cmp.Lexicographic.{pointwise, same_text}
use Rattle.plai_terms.specs.declared.abs.Abs.{Abs}
use Rattle.plai_terms.specs.declared.abs.Abs.TheVariants.{Nothing, Pos, Groups, Terms}
use Rattle.plai_terms.specs.declared.pred_key.PredKey.{PredKey}
use Rattle.plai_terms.specs.declared.row_name.RowName.{RowName}
use Rattle.plai_terms.specs.contracts.abs.AbsPartialEq.TheImpl as abs_eq
use Rattle.plai_terms.specs.contracts.pred_key.PredKeyPartialEq.TheImpl as pred_eq
use Rattle.plai_terms.specs.contracts.row_name.RowNamePartialEq.TheImpl as row_eq
use Rattle.plai_terms.specs.contracts.row_name.RowNameEq.TheImpl.Laws as row_laws
use Rattle.plai_terms.proofs.Same.{terms-Decides}
use Rattle.plai_clauses.proofs.OneModule.{same_pred-true}

both : (p q : Bool) → (p && q) ≡ true → (p ≡ true) × (q ≡ true)
both true q e = (refl, e)
both false q e = cc

abs_true : (a b : Abs) → (abs_eq.ghosts).eq a b ≡ true → a ≡ b
abs_true Nothing Nothing e = refl
abs_true (Pos m xs) (Pos n ys) e =
    let (k, l) = both (nat_eq m n) (pointwise nat_eq xs ys) e in
    let p : m ≡ n = eqb-true m n k in
    let q : xs ≡ ys = same_text xs ys (sym l) in
    λ i. Pos (p i) (q i)
abs_true (Groups m xs f) (Groups n ys g) e =
    let (k, rest) = both (nat_eq m n) (pointwise nat_eq xs ys && nat_eq f g) e in
    let (l, o) = both (pointwise nat_eq xs ys) (nat_eq f g) rest in
    let p : m ≡ n = eqb-true m n k in
    let q : xs ≡ ys = same_text xs ys (sym l) in
    let r : f ≡ g = eqb-true f g o in
    λ i. Groups (p i) (q i) (r i)
abs_true (Terms as') (Terms bs) e = (terms-Decides as' bs).0 e
abs_true _ _ e = cc

pred_true : (a b : PredKey) → (pred_eq.ghosts).eq a b ≡ true → a ≡ b
pred_true a b e = (same_pred-true a b) e

pub same_name-true : (a b : RowName) → (row_eq.ghosts).eq a b ≡ true → a ≡ b
same_name-true a b e =
    let (k, l) = both ((pred_eq.ghosts).eq a.pred b.pred) ((abs_eq.ghosts).eq a.call b.call) e in
    let p : a.pred ≡ b.pred = pred_true a.pred b.pred k in
    let q : a.call ≡ b.call = abs_true a.call b.call l in
    λ i. record { pred = p i; call = q i }

pub same_name-refl : (a : RowName) → (row_eq.ghosts).eq a a ≡ true
same_name-refl a = row_laws.laws-law.refl a
