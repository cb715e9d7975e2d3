-- Two names, patterns or row names at which `==` answers true are equal, and the other way round.
use Rattle.std.proofs.Common.{◌≡◌, ℕ, true, ◌&&◌, nat_eq, List, refl, subst, ◌↔◌}
use Rattle.std.specs.Cmp.Lexicographic.{pointwise, nat_list_eq_equiv}
use Rattle.std.proofs.lemmas.Bool.{eqb-true}
use Rattle.plai_terms.specs.declared.abs.Abs.{Abs}
use Rattle.plai_terms.specs.declared.abs.Abs.TheVariants.{Nothing, Pos, Groups, Terms}
use Rattle.plai_terms.specs.declared.pred_key.PredKey.{PredKey}
use Rattle.plai_terms.specs.declared.read_term.ReadTerm.{ReadTerm}
use Rattle.plai_terms.specs.declared.row_name.RowName.{RowName}
use Rattle.plai_terms.specs.contracts.abs.AbsPartialEq.TheImpl as abs_eq
use Rattle.plai_terms.specs.contracts.abs.AbsEq.TheImpl.Laws as abs_laws
use Rattle.plai_terms.specs.contracts.pred_key.PredKeyPartialEq.TheImpl as key_eq
use Rattle.plai_terms.specs.contracts.pred_key.PredKeyEq.TheImpl.Laws as key_laws
use Rattle.plai_terms.specs.contracts.read_term.ReadTermPartialEq.TheImpl as read_eq
use Rattle.plai_terms.specs.contracts.read_term.ReadTermEq.TheImpl.Laws as read_laws
use Rattle.plai_terms.specs.contracts.row_name.RowNamePartialEq.TheImpl as row_eq
use Rattle.plai_terms.specs.contracts.row_name.RowNameEq.TheImpl.Laws as row_laws
use Rattle.plai_terms.proofs.Same.{both, names_equal, terms-Decides}
use Rattle.plai_terms.proofs.SameTerms.{same_term, term-Decides}

pub name-Decides : (a b : List ℕ) → (pointwise nat_eq a b ≡ true) ↔ (a ≡ b)
name-Decides a b = (names_equal a b, λ e. subst (λ b. pointwise nat_eq a b ≡ true) e (nat_list_eq_equiv.refl a))

key_true : (a b : PredKey) → (key_eq.ghosts).eq a b ≡ true → a ≡ b
key_true a b e =
    let (k, rest) = both (pointwise nat_eq a.module b.module) (pointwise nat_eq a.name b.name && nat_eq a.arity b.arity) e in
    let (l, m) = both (pointwise nat_eq a.name b.name) (nat_eq a.arity b.arity) rest in
    let p : a.module ≡ b.module = names_equal a.module b.module k in
    let q : a.name ≡ b.name = names_equal a.name b.name l in
    let r : a.arity ≡ b.arity = eqb-true a.arity b.arity m in
    λ i. record { «module» = p i; name = q i; arity = r i }

pub key-Decides : (a b : PredKey) → ((key_eq.ghosts).eq a b ≡ true) ↔ (a ≡ b)
key-Decides a b = (key_true a b, λ e. subst (λ b. (key_eq.ghosts).eq a b ≡ true) e (key_laws.laws-law.refl a))

read_true : (a b : ReadTerm) → (read_eq.ghosts).eq a b ≡ true → a ≡ b
read_true a b e =
    let (k, l) = both (same_term a.term b.term) (nat_eq a.variables b.variables) e in
    let p : a.term ≡ b.term = (term-Decides a.term b.term).0 k in
    let q : a.variables ≡ b.variables = eqb-true a.variables b.variables l in
    λ i. record { term = p i; variables = q i }

pub read-Decides : (a b : ReadTerm) → ((read_eq.ghosts).eq a b ≡ true) ↔ (a ≡ b)
read-Decides a b = (read_true a b, λ e. subst (λ b. (read_eq.ghosts).eq a b ≡ true) e (read_laws.laws-law.refl a))

abs_true : (a b : Abs) → (abs_eq.ghosts).eq a b ≡ true → a ≡ b
abs_true Nothing Nothing e = refl
abs_true (Pos m xs) (Pos n ys) e =
    let (k, l) = both (nat_eq m n) (pointwise nat_eq xs ys) e in
    let p : m ≡ n = eqb-true m n k in
    let q : xs ≡ ys = names_equal xs ys l in
    λ i. Pos (p i) (q i)
abs_true (Groups m xs f) (Groups n ys g) e =
    let (k, rest) = both (nat_eq m n) (pointwise nat_eq xs ys && nat_eq f g) e in
    let (l, o) = both (pointwise nat_eq xs ys) (nat_eq f g) rest in
    let p : m ≡ n = eqb-true m n k in
    let q : xs ≡ ys = names_equal xs ys l in
    let r : f ≡ g = eqb-true f g o in
    λ i. Groups (p i) (q i) (r i)
abs_true (Terms as') (Terms bs) e = (terms-Decides as' bs).0 e
abs_true _ _ e = cc

pub abs-Decides : (a b : Abs) → ((abs_eq.ghosts).eq a b ≡ true) ↔ (a ≡ b)
abs-Decides a b = (abs_true a b, λ e. subst (λ b. (abs_eq.ghosts).eq a b ≡ true) e (abs_laws.laws-law.refl a))

row_true : (a b : RowName) → (row_eq.ghosts).eq a b ≡ true → a ≡ b
row_true a b e =
    let (k, l) = both ((key_eq.ghosts).eq a.pred b.pred) ((abs_eq.ghosts).eq a.call b.call) e in
    let p : a.pred ≡ b.pred = key_true a.pred b.pred k in
    let q : a.call ≡ b.call = abs_true a.call b.call l in
    λ i. record { pred = p i; call = q i }

pub row-Decides : (a b : RowName) → ((row_eq.ghosts).eq a b ≡ true) ↔ (a ≡ b)
row-Decides a b = (row_true a b, λ e. subst (λ b. (row_eq.ghosts).eq a b ≡ true) e (row_laws.laws-law.refl a))
