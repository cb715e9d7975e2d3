-- Where `==` answers true, the values are equal.
use Rattle.std.proofs.Common.{◌≡◌, ℕ, Bool, true, false, ◌&&◌, nat_eq, List, [], ◌∷◌, rules, refl, sym, ap, ◌∙◌, subst, ◌↔◌}
use Rattle.std.specs.List.{AllByRecursion}
use Rattle.std.specs.Cmp.Lexicographic.{pointwise, lists_equiv}
use Rattle.std.specs.Ordering.{int_eq}
use Rattle.std.proofs.lemmas.Bool.{eqb-true}
use Rattle.std.proofs.lemmas.Bool.Decides.{Decides-int_eq}
use Rattle.plai_terms.specs.declared.skeleton.Skeleton.{Skeleton, roll-Skeleton, out-Skeleton, roll-out-Skeleton, the_lemmas}
use Rattle.plai_terms.specs.declared.skeleton.Skeleton.TheOpen.{Skeleton-F}
use Rattle.plai_terms.specs.contracts.skeleton.SkeletonPartialEq.TheImpl as skeleton_eq
use Rattle.plai_terms.specs.contracts.skeleton.SkeletonPartialEq.TheImpl.Laws as laws
use Rattle.plai_terms.specs.contracts.skeleton.SkeletonEq.TheImpl.Laws as equiv_laws
use Rattle.plai_terms.specs.declared.abs.Abs.TheVariants.{Terms}
use Rattle.plai_terms.proofs.Skeletons.{arguments, induction}

abbrev pub same_skeleton : Skeleton → Skeleton → Bool
same_skeleton = (skeleton_eq.ghosts).eq

abbrev same_layer : Skeleton-F Skeleton → Skeleton-F Skeleton → Bool
same_layer Skeleton-F.Any Skeleton-F.Any = true
same_layer Skeleton-F.Integer Skeleton-F.Integer = true
same_layer (Skeleton-F.Int m) (Skeleton-F.Int n) = int_eq m n
same_layer (Skeleton-F.Atom a) (Skeleton-F.Atom b) = pointwise nat_eq a b
same_layer (Skeleton-F.Compound n as') (Skeleton-F.Compound m bs) = pointwise nat_eq n m && pointwise same_skeleton as' bs
same_layer _ _ = false

same_skeleton-roll : (x y : Skeleton-F Skeleton) → same_skeleton (roll-Skeleton x) (roll-Skeleton y) ≡ same_layer x y
same_skeleton-roll Skeleton-F.Any Skeleton-F.Any = laws.is _ _ ∙ search (rules, the_lemmas)
same_skeleton-roll Skeleton-F.Integer Skeleton-F.Integer = laws.is _ _ ∙ search (rules, the_lemmas)
same_skeleton-roll (Skeleton-F.Int m) (Skeleton-F.Int n) = laws.is _ _ ∙ search (rules, the_lemmas)
same_skeleton-roll (Skeleton-F.Atom a) (Skeleton-F.Atom b) = laws.is _ _ ∙ search (rules, the_lemmas)
same_skeleton-roll (Skeleton-F.Compound n as') (Skeleton-F.Compound m bs) = laws.is _ _ ∙ search (rules, the_lemmas)
same_skeleton-roll _ _ = laws.is _ _ ∙ search (rules, the_lemmas)

pub both : (p q : Bool) → (p && q) ≡ true → (p ≡ true) × (q ≡ true)
both true q e = (refl, e)
both false q e = cc

pub names_equal : (xs ys : List ℕ) → pointwise nat_eq xs ys ≡ true → xs ≡ ys
names_equal [] [] e = refl
names_equal [] (y ∷ ys) e = cc
names_equal (x ∷ xs) [] e = cc
names_equal (x ∷ xs) (y ∷ ys) e =
    let b = both (nat_eq x y) (pointwise nat_eq xs ys) e in
    let p = eqb-true x y b.0 in
    let q = names_equal xs ys b.1 in
    cc

abbrev IsTold : Skeleton → Type 0
IsTold a = (b : Skeleton) → same_skeleton a b ≡ true → a ≡ b

all_equal : (as' bs : List Skeleton) → AllByRecursion IsTold as' → pointwise same_skeleton as' bs ≡ true → as' ≡ bs
all_equal [] [] h e = refl
all_equal [] (b ∷ bs) h e = cc
all_equal (a ∷ as') [] h e = cc
all_equal (a ∷ as') (b ∷ bs) h e =
    let t = both (same_skeleton a b) (pointwise same_skeleton as' bs) e in
    let p = h.0 b t.0 in
    let q = all_equal as' bs h.1 t.1 in
    cc

equal_layers : (x y : Skeleton-F Skeleton) → AllByRecursion IsTold (arguments x) → same_layer x y ≡ true → x ≡ y
equal_layers Skeleton-F.Any Skeleton-F.Any h e = refl
equal_layers Skeleton-F.Integer Skeleton-F.Integer h e = refl
equal_layers (Skeleton-F.Int m) (Skeleton-F.Int n) h e = ap Skeleton-F.Int ((Decides-int_eq m n).0 e)
equal_layers (Skeleton-F.Atom a) (Skeleton-F.Atom b) h e = ap Skeleton-F.Atom (names_equal a b e)
equal_layers (Skeleton-F.Compound n as') (Skeleton-F.Compound m bs) h e =
    let t = both (pointwise nat_eq n m) (pointwise same_skeleton as' bs) e in
    let p = names_equal n m t.0 in
    let q = all_equal as' bs h t.1 in
    cc
equal_layers _ _ h e = cc

-- two skeletons at which `==` answers true are equal
pub same_skeleton-true : (a b : Skeleton) → same_skeleton a b ≡ true → a ≡ b
same_skeleton-true = induction IsTold (λ x h b e.
    let y = out-Skeleton b in
    let back : roll-Skeleton y ≡ b = roll-out-Skeleton b in
    let seen : same_layer x y ≡ true = sym (same_skeleton-roll x y) ∙ ap (same_skeleton (roll-Skeleton x)) back ∙ e in
    ap roll-Skeleton (equal_layers x y h seen) ∙ back)

all_told : (as' : List Skeleton) → AllByRecursion IsTold as'
all_told [] = tt
all_told (a ∷ as') = (same_skeleton-true a, all_told as')

-- two lists of skeletons at which `==` answers true are equal, and the other way round
pub skeletons-Decides : (as' bs : List Skeleton) → (pointwise same_skeleton as' bs ≡ true) ↔ (as' ≡ bs)
skeletons-Decides as' bs =
    (all_equal as' bs (all_told as'), λ e. subst (λ bs. pointwise same_skeleton as' bs ≡ true) e ((lists_equiv equiv_laws.laws-law).refl as'))

-- the same, of the plain values that they make
pub terms-Decides : (as' bs : List Skeleton) → (pointwise same_skeleton as' bs ≡ true) ↔ (Terms as' ≡ Terms bs)
terms-Decides as' bs =
    (λ e. ap Terms ((skeletons-Decides as' bs).0 e), λ e. (skeletons-Decides as' bs).1 cc)
