-- `==` of values is equality of what contracts see of them.
use Rattle.std.proofs.Common.{◌≡◌, ℕ, Bool, true, ◌&&◌, nat_eq, IsTrue, ◌↔◌, List, [], ◌∷◌, refl, sym, ap, ◌∙◌}
use Rattle.std.specs.Cmp.Lexicographic.{pointwise}
use Rattle.std.proofs.lemmas.Bool.{eq-eqb, eqb-true, and_parts, and_from}
use Rattle.plai_terms.specs.declared.abs.Abs.TheVariants.{Groups}
use Rattle.plai_share_laws.specs.Sharing.{shares_of}
use Rattle.plai_share.specs.declared.value.Value.{Value}
use Rattle.plai_share.specs.Values.{value_of}

same_lists : (xs ys : List ℕ) → pointwise nat_eq xs ys ≡ true → xs ≡ ys
same_lists [] [] e = refl
same_lists [] (y ∷ ys) e = cc
same_lists (x ∷ xs) [] e = cc
same_lists (x ∷ xs) (y ∷ ys) e =
    let (p, q) = and_parts (nat_eq x y) (pointwise nat_eq xs ys) e in
    let a = eqb-true x y p in
    let b = same_lists xs ys q in cc

equal_lists : (xs ys : List ℕ) → xs ≡ ys → pointwise nat_eq xs ys ≡ true
equal_lists [] [] e = refl
equal_lists [] (y ∷ ys) e = cc
equal_lists (x ∷ xs) [] e = cc
equal_lists (x ∷ xs) (y ∷ ys) e = let a : x ≡ y = cc in let b : xs ≡ ys = cc in and_from (nat_eq x y) (pointwise nat_eq xs ys) (eq-eqb x y a)
    (equal_lists xs ys b)

same_patterns : (n m : ℕ) (xs ys : List ℕ) (f g : ℕ) → n ≡ m → xs ≡ ys → f ≡ g → Groups n xs f ≡ Groups m ys g
same_patterns n m xs ys f g a b c = cc

pub same_value : (a b : Value) (result : Bool)
    → result ≡ (nat_eq a.sharing.slots b.sharing.slots &&
    (pointwise nat_eq a.sharing.groups.items b.sharing.groups.items && nat_eq a.sharing.free b.sharing.free))
    → IsTrue result ↔ (value_of a ≡ value_of b)
same_value a b result e =
    let x = a.sharing in
    let y = b.sharing in (
      λ yes.
          let (p, q) = and_parts (nat_eq x.slots y.slots) (pointwise nat_eq x.groups.items y.groups.items && nat_eq x.free y.free) (sym e ∙ yes) in
          let (r, s) = and_parts (pointwise nat_eq x.groups.items y.groups.items) (nat_eq x.free y.free) q in
          same_patterns _ _ _ _ _ _ (eqb-true x.slots y.slots p) (same_lists x.groups.items y.groups.items r) (eqb-true x.free y.free s),
      λ same. e ∙ and_from (nat_eq x.slots y.slots) (pointwise nat_eq x.groups.items y.groups.items && nat_eq x.free y.free)
          (eq-eqb x.slots y.slots (ap (λ v. (shares_of v).slots) same))
          (and_from (pointwise nat_eq x.groups.items y.groups.items) (nat_eq x.free y.free)
          (equal_lists x.groups.items y.groups.items (ap (λ v. (shares_of v).groups) same))
          (eq-eqb x.free y.free (ap (λ v. (shares_of v).free) same))),
    )
