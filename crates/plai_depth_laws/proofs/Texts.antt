-- Different skeletons have different texts, where their integers are within 128 bits.
use Rattle.std.proofs.Common.{◌≡◌, ℕ, Bool, true, false, List, [], ◌∷◌, ◌++◌, map, drop, refl, sym, ap, ◌∙◌, arith, append_assoc, codes, rules}
use Rattle.std.specs.Fmt.{signed_decimal}
use Rattle.std.specs.List.{list_all, join_with_byte, AllByRecursion}
use Rattle.plai_terms.specs.Atom.{atom_text}
use Rattle.plai_terms.specs.Term.{integer_fits}
use Rattle.plai_terms.specs.Pattern.{constant_text, skeleton_text}
use Rattle.plai_terms.specs.declared.skeleton.Skeleton.{Skeleton, fold-Skeleton, roll-Skeleton, out-Skeleton, roll-out-Skeleton, the_lemmas}
use Rattle.plai_terms.specs.declared.skeleton.Skeleton.TheOpen.{Skeleton-F}
use Rattle.plai_terms.proofs.Skeletons.{arguments, induction}
use Rattle.plai_terms.proofs.Same.{both}
use Rattle.plai_terms.proofs.Reading.{first_of, integers_apart}
use Rattle.plai_terms.proofs.AtomTexts.{atom_first, atoms_apart}
use Rattle.plai_depth_laws.proofs.Names.{ends, ends_atom, ends_number, ends_bracket, is_number, atom_is, constant_is, integer_is, short_integer}
use Rattle.plai_depth_laws.proofs.Names.{integer_first, constant_first, constants_apart, constant_atom, constant_reserved}

-- ---- integers within 128 bits

abbrev fits_step : Skeleton-F Bool → Bool
fits_step Skeleton-F.Any = true
fits_step Skeleton-F.Integer = true
fits_step (Skeleton-F.Int n) = integer_fits n
fits_step (Skeleton-F.Atom a) = true
fits_step (Skeleton-F.Compound name fits) = list_all (λ b. b) fits

abbrev pub fits : Skeleton → Bool
fits = fold-Skeleton Bool fits_step

abbrev pub all_fit : List Skeleton → Bool
all_fit args = list_all (λ b. b) (map fits args)

abbrev pub layer_fits : Skeleton-F Skeleton → Bool
layer_fits Skeleton-F.Any = true
layer_fits Skeleton-F.Integer = true
layer_fits (Skeleton-F.Int n) = integer_fits n
layer_fits (Skeleton-F.Atom a) = true
layer_fits (Skeleton-F.Compound name args) = all_fit args

pub fits-roll : (x : Skeleton-F Skeleton) → fits (roll-Skeleton x) ≡ layer_fits x
fits-roll Skeleton-F.Any = search (rules, the_lemmas)
fits-roll Skeleton-F.Integer = search (rules, the_lemmas)
fits-roll (Skeleton-F.Int n) = search (rules, the_lemmas)
fits-roll (Skeleton-F.Atom a) = search (rules, the_lemmas)
fits-roll (Skeleton-F.Compound name args) = search (rules, the_lemmas)

-- ---- one layer

-- the text of a layer, and what follows
abbrev written : Skeleton-F Skeleton → List ℕ → List ℕ
written Skeleton-F.Any us = codes "any" ++ us
written Skeleton-F.Integer us = codes "int" ++ us
written (Skeleton-F.Int n) us = signed_decimal n ++ us
written (Skeleton-F.Atom a) us = constant_text a ++ us
written (Skeleton-F.Compound name args) us = atom_text name ++ 40 ∷ (join_with_byte 44 (map skeleton_text args) ++ 41 ∷ us)

text-Compound : (name : List ℕ) (args : List Skeleton)
    → skeleton_text (roll-Skeleton (Skeleton-F.Compound name args)) ≡ atom_text name ++ codes "(" ++ join_with_byte 44 (map skeleton_text args) ++ codes ")"
text-Compound name args = search (rules, the_lemmas)

regroup : (a b us : List ℕ) → (((a ++ 40 ∷ []) ++ b) ++ 41 ∷ []) ++ us ≡ a ++ 40 ∷ (b ++ 41 ∷ us)
regroup a b us = simp append_assoc

text-roll : (x : Skeleton-F Skeleton) (us : List ℕ) → skeleton_text (roll-Skeleton x) ++ us ≡ written x us
text-roll Skeleton-F.Any us = let e : skeleton_text (roll-Skeleton Skeleton-F.Any) ≡ codes "any" = search (rules, the_lemmas) in ap (λ z. z ++ us) e
text-roll Skeleton-F.Integer us = let e : skeleton_text (roll-Skeleton Skeleton-F.Integer) ≡ codes "int" = search (rules, the_lemmas) in ap (λ z. z ++ us) e
text-roll (Skeleton-F.Int n) us = let e : skeleton_text (roll-Skeleton (Skeleton-F.Int n)) ≡ signed_decimal n = search (rules, the_lemmas) in
    ap (λ z. z ++ us) e
text-roll (Skeleton-F.Atom a) us = let e : skeleton_text (roll-Skeleton (Skeleton-F.Atom a)) ≡ constant_text a = search (rules, the_lemmas) in
    ap (λ z. z ++ us) e
text-roll (Skeleton-F.Compound name args) us =
    ap (λ z. z ++ us) (text-Compound name args) ∙ regroup (atom_text name) (join_with_byte 44 (map skeleton_text args)) us

abbrev is_int : Skeleton-F Skeleton → Bool
is_int (Skeleton-F.Int n) = true
is_int _ = false

number_is : (x : Skeleton-F Skeleton) (us : List ℕ) → layer_fits x ≡ true → ends us ≡ true → is_number (written x us) ≡ is_int x
number_is Skeleton-F.Any us f s = refl
number_is Skeleton-F.Integer us f s = refl
number_is (Skeleton-F.Int n) us f s = integer_is n us (short_integer n f)
number_is (Skeleton-F.Atom a) us f s = constant_is a us (ends_atom us s)
number_is (Skeleton-F.Compound name args) us f s = atom_is name (40 ∷ (join_with_byte 44 (map skeleton_text args) ++ 41 ∷ us)) refl

-- no skeleton begins with a closing bracket
layer_first : (x : Skeleton-F Skeleton) (us : List ℕ) → layer_fits x ≡ true → first_of (written x us) ≡ 41 → ⊥
layer_first Skeleton-F.Any us f e = absurd (omega (arith, e))
layer_first Skeleton-F.Integer us f e = absurd (omega (arith, e))
layer_first (Skeleton-F.Int n) us f e = integer_first n us (short_integer n f) e
layer_first (Skeleton-F.Atom a) us f e = constant_first a us e
layer_first (Skeleton-F.Compound name args) us f e = atom_first name (40 ∷ (join_with_byte 44 (map skeleton_text args) ++ 41 ∷ us)) e

skeleton_first : (t : Skeleton) (us : List ℕ) → fits t ≡ true → first_of (skeleton_text t ++ us) ≡ 41 → ⊥
skeleton_first t us f e =
    let x = out-Skeleton t in
    let back : roll-Skeleton x ≡ t = roll-out-Skeleton t in
    layer_first x us (sym (fits-roll x) ∙ ap fits back ∙ f) (ap first_of (sym (text-roll x us) ∙ ap (λ z. skeleton_text z ++ us) back) ∙ e)

-- ---- the arguments

abbrev IsApart : Skeleton → Type 0
IsApart s = (t : Skeleton) (us vs : List ℕ) → fits s ≡ true → fits t ≡ true → ends us ≡ true → ends vs ≡ true → skeleton_text s ++ us ≡ skeleton_text t ++ vs
    → (s ≡ t) × (us ≡ vs)

-- what follows the first argument
abbrev further : List Skeleton → List ℕ → List ℕ
further [] us = 41 ∷ us
further (a ∷ args) us = 44 ∷ (join_with_byte 44 (map skeleton_text (a ∷ args)) ++ 41 ∷ us)

join-further : (a : Skeleton) (args : List Skeleton) (us : List ℕ)
    → join_with_byte 44 (map skeleton_text (a ∷ args)) ++ 41 ∷ us ≡ skeleton_text a ++ further args us
join-further a [] us = refl
join-further a (b ∷ args) us = append_assoc (skeleton_text a) (44 ∷ join_with_byte 44 (map skeleton_text (b ∷ args))) (41 ∷ us)

further_ends : (args : List Skeleton) (us : List ℕ) → ends (further args us) ≡ true
further_ends [] us = refl
further_ends (a ∷ args) us = refl

first_apart : (a : Skeleton) (as' : List Skeleton) (b : Skeleton) (bs : List Skeleton) (us vs : List ℕ) → IsApart a → fits a ≡ true → fits b ≡ true
    → join_with_byte 44 (map skeleton_text (a ∷ as')) ++ 41 ∷ us ≡ join_with_byte 44 (map skeleton_text (b ∷ bs)) ++ 41 ∷ vs
    → (a ≡ b) × (further as' us ≡ further bs vs)
first_apart a as' b bs us vs h f g e =
    h b (further as' us) (further bs vs) f g (further_ends as' us) (further_ends bs vs) (sym (join-further a as' us) ∙ e ∙ join-further b bs vs)

args_apart : (as' bs : List Skeleton) (us vs : List ℕ) → AllByRecursion IsApart as' → all_fit as' ≡ true → all_fit bs ≡ true
    → join_with_byte 44 (map skeleton_text as') ++ 41 ∷ us ≡ join_with_byte 44 (map skeleton_text bs) ++ 41 ∷ vs → (as' ≡ bs) × (us ≡ vs)
args_apart [] [] us vs h f g e = (refl, ap (drop 1) e)
args_apart [] (b ∷ bs) us vs h f g e =
    absurd (skeleton_first b (further bs vs) (both (fits b) (all_fit bs) g).0 (ap first_of (sym (e ∙ join-further b bs vs))))
args_apart (a ∷ as') [] us vs h f g e =
    absurd (skeleton_first a (further as' us) (both (fits a) (all_fit as') f).0 (ap first_of (sym (join-further a as' us) ∙ e)))
args_apart (a ∷ []) (b ∷ []) us vs h f g e =
    let (k, r) = first_apart a [] b [] us vs h.0 (both (fits a) true f).0 (both (fits b) true g).0 e in
    (λ i. k i ∷ [], ap (drop 1) r)
args_apart (a ∷ []) (b ∷ d ∷ bs) us vs h f g e =
    let (k, r) = first_apart a [] b (d ∷ bs) us vs h.0 (both (fits a) true f).0 (both (fits b) (all_fit (d ∷ bs)) g).0 e in
    let n : ◌≡◌ {A = ℕ} 41 44 = ap first_of r in
    absurd (omega (arith, n))
args_apart (a ∷ c ∷ as') (b ∷ []) us vs h f g e =
    let (k, r) = first_apart a (c ∷ as') b [] us vs h.0 (both (fits a) (all_fit (c ∷ as')) f).0 (both (fits b) true g).0 e in
    let n : ◌≡◌ {A = ℕ} 44 41 = ap first_of r in
    absurd (omega (arith, n))
args_apart (a ∷ c ∷ as') (b ∷ d ∷ bs) us vs h f g e =
    let p = both (fits a) (all_fit (c ∷ as')) f in
    let q = both (fits b) (all_fit (d ∷ bs)) g in
    let (k, r) = first_apart a (c ∷ as') b (d ∷ bs) us vs h.0 p.0 q.0 e in
    let (l, u) = args_apart (c ∷ as') (d ∷ bs) us vs h.1 p.1 q.1 (ap (drop 1) r) in
    (λ i. k i ∷ l i, u)

-- ---- two layers

module _ (us vs : List ℕ) (s : ends us ≡ true) (t : ends vs ≡ true) where
  any_compound : (b name : List ℕ) (rest : List ℕ) → atom_text b ++ us ≡ atom_text name ++ 40 ∷ rest → ⊥
  any_compound b name rest e = ends_bracket us rest s (atoms_apart b name us (40 ∷ rest) (ends_atom us s) refl e).1

  constant_compound : (a name : List ℕ) (rest : List ℕ) → constant_text a ++ us ≡ atom_text name ++ 40 ∷ rest → ⊥
  constant_compound a name rest e = ends_bracket us rest s (constant_atom a name us (40 ∷ rest) (ends_atom us s) refl e).1

  constant_any : (a : List ℕ) → constant_text a ++ us ≡ codes "any" ++ vs → ⊥
  constant_any a e = constant_reserved a (codes "any") us vs refl refl (ends_atom us s) (ends_atom vs t) e

  constant_int : (a : List ℕ) → constant_text a ++ us ≡ codes "int" ++ vs → ⊥
  constant_int a e = constant_reserved a (codes "int") us vs refl refl (ends_atom us s) (ends_atom vs t) e

layers_apart : (x y : Skeleton-F Skeleton) (us vs : List ℕ) → AllByRecursion IsApart (arguments x) → layer_fits x ≡ true → layer_fits y ≡ true
    → ends us ≡ true → ends vs ≡ true
    → written x us ≡ written y vs → is_int x ≡ is_int y → (x ≡ y) × (us ≡ vs)
layers_apart Skeleton-F.Any Skeleton-F.Any us vs h f g s t e k = (refl, ap (drop 3) e)
layers_apart Skeleton-F.Integer Skeleton-F.Integer us vs h f g s t e k = (refl, ap (drop 3) e)
layers_apart (Skeleton-F.Int m) (Skeleton-F.Int n) us vs h f g s t e k =
    let (p, q) = integers_apart m n us vs (short_integer m f) (short_integer n g) (ends_number us s) (ends_number vs t) e in
    (ap Skeleton-F.Int p, q)
layers_apart (Skeleton-F.Atom a) (Skeleton-F.Atom b) us vs h f g s t e k =
    let (p, q) = constants_apart a b us vs (ends_atom us s) (ends_atom vs t) e in
    (ap Skeleton-F.Atom p, q)
layers_apart (Skeleton-F.Compound n as') (Skeleton-F.Compound m bs) us vs h f g s t e k =
    let (p, q) = atoms_apart n m (40 ∷ (join_with_byte 44 (map skeleton_text as') ++ 41 ∷ us)) (40 ∷ (join_with_byte 44 (map skeleton_text bs) ++ 41 ∷ vs))
    refl refl e in
    let (l, u) = args_apart as' bs us vs h f g (ap (drop 1) q) in
    (λ i. Skeleton-F.Compound (p i) (l i), u)
layers_apart Skeleton-F.Any Skeleton-F.Integer us vs h f g s t e k = let n : ◌≡◌ {A = ℕ} 97 105 = ap first_of e in absurd (omega (arith, n))
layers_apart Skeleton-F.Integer Skeleton-F.Any us vs h f g s t e k = let n : ◌≡◌ {A = ℕ} 105 97 = ap first_of e in absurd (omega (arith, n))
layers_apart Skeleton-F.Any (Skeleton-F.Atom b) us vs h f g s t e k = absurd (constant_any vs us t s b (sym e))
layers_apart (Skeleton-F.Atom a) Skeleton-F.Any us vs h f g s t e k = absurd (constant_any us vs s t a e)
layers_apart Skeleton-F.Integer (Skeleton-F.Atom b) us vs h f g s t e k = absurd (constant_int vs us t s b (sym e))
layers_apart (Skeleton-F.Atom a) Skeleton-F.Integer us vs h f g s t e k = absurd (constant_int us vs s t a e)
layers_apart Skeleton-F.Any (Skeleton-F.Compound m bs) us vs h f g s t e k =
    absurd (any_compound us vs s t (codes "any") m (join_with_byte 44 (map skeleton_text bs) ++ 41 ∷ vs) e)
layers_apart (Skeleton-F.Compound n as') Skeleton-F.Any us vs h f g s t e k =
    absurd (any_compound vs us t s (codes "any") n (join_with_byte 44 (map skeleton_text as') ++ 41 ∷ us) (sym e))
layers_apart Skeleton-F.Integer (Skeleton-F.Compound m bs) us vs h f g s t e k =
    absurd (any_compound us vs s t (codes "int") m (join_with_byte 44 (map skeleton_text bs) ++ 41 ∷ vs) e)
layers_apart (Skeleton-F.Compound n as') Skeleton-F.Integer us vs h f g s t e k =
    absurd (any_compound vs us t s (codes "int") n (join_with_byte 44 (map skeleton_text as') ++ 41 ∷ us) (sym e))
layers_apart (Skeleton-F.Atom a) (Skeleton-F.Compound m bs) us vs h f g s t e k =
    absurd (constant_compound us vs s t a m (join_with_byte 44 (map skeleton_text bs) ++ 41 ∷ vs) e)
layers_apart (Skeleton-F.Compound n as') (Skeleton-F.Atom b) us vs h f g s t e k =
    absurd (constant_compound vs us t s b n (join_with_byte 44 (map skeleton_text as') ++ 41 ∷ us) (sym e))
layers_apart (Skeleton-F.Int m) y us vs h f g s t e k = absurd cc
layers_apart x (Skeleton-F.Int n) us vs h f g s t e k = absurd cc

skeletons_apart : (s : Skeleton) → IsApart s
skeletons_apart = induction IsApart (λ x h t us vs f g s w e.
    let y = out-Skeleton t in
    let back : roll-Skeleton y ≡ t = roll-out-Skeleton t in
    let f' : layer_fits x ≡ true = sym (fits-roll x) ∙ f in
    let g' : layer_fits y ≡ true = sym (fits-roll y) ∙ ap fits back ∙ g in
    let e' : written x us ≡ written y vs = sym (text-roll x us) ∙ e ∙ ap (λ z. skeleton_text z ++ vs) (sym back) ∙ text-roll y vs in
    let k : is_int x ≡ is_int y = sym (number_is x us f' s) ∙ ap is_number e' ∙ number_is y vs g' w in
    let (p, q) = layers_apart x y us vs h f' g' s w e' k in
    (ap roll-Skeleton p ∙ back, q))

all_apart : (ss : List Skeleton) → AllByRecursion IsApart ss
all_apart [] = tt
all_apart (s ∷ ss) = (skeletons_apart s, all_apart ss)

-- lists of skeletons by their texts with commas between
pub lists_apart : (ss ts : List Skeleton) → all_fit ss ≡ true → all_fit ts ≡ true
    → join_with_byte 44 (map skeleton_text ss) ++ 41 ∷ [] ≡ join_with_byte 44 (map skeleton_text ts) ++ 41 ∷ [] → ss ≡ ts
lists_apart ss ts f g e = (args_apart ss ts [] [] (all_apart ss) f g e).0
