-- Different terms have different texts.
use Rattle.std.proofs.Common.{◌≡◌, ℕ, ℤ, pos, negsuc, suc, ◌^◌, ◌<◌, Bool, true, eqb, ltb, List, [], ◌∷◌, ◌++◌, map, drop, refl, sym, ap, ◌∙◌, arith}
use Rattle.std.proofs.Common.{append_assoc, codes, rules}
use Rattle.std.specs.Fmt.{decimal, signed_decimal}
use Rattle.std.specs.List.{list_all, join_with_byte, AllByRecursion}
use Rattle.std.proofs.lemmas.Bool.{false≢true}
use Rattle.std.proofs.lemmas.Bool.Decides.{nat_tests}
use Rattle.plai_terms.specs.Atom.{atom_text}
use Rattle.plai_terms.specs.Print.{text_of}
use Rattle.plai_terms.specs.Term.{integer_fits, numbers_fit}
use Rattle.plai_terms.specs.declared.term.Term.{Term, roll-Term, out-Term, roll-out-Term, the_lemmas}
use Rattle.plai_terms.specs.declared.term.Term.TheOpen.{Term-F}
use Rattle.plai_terms.proofs.Terms.{arguments, induction_by_levels}
use Rattle.plai_terms.proofs.Same.{both}
use Rattle.plai_terms.proofs.Reading.{stops, first_of, is_digit, no_digit, is_short, member, first_digit, decimals_apart, integers_apart}
use Rattle.plai_terms.proofs.AtomTexts.{is_one_of, in_terms, second_or, atom_first, atoms_apart}
use Rattle.plai_terms.proofs.TermKinds.{kind, atom_is, integer_is}

-- ---- one level

-- the text of a level, and what follows
abbrev written : Term-F Term → List ℕ → List ℕ
written (Term-F.Var v) us = 95 ∷ (decimal v ++ us)
written (Term-F.Int n) us = signed_decimal n ++ us
written (Term-F.Atom a) us = atom_text a ++ us
written (Term-F.Compound name args) us = atom_text name ++ 40 ∷ (join_with_byte 44 (map text_of args) ++ 41 ∷ us)

abbrev kind_of : Term-F Term → ℕ
kind_of (Term-F.Var v) = 0
kind_of (Term-F.Int n) = 1
kind_of (Term-F.Atom a) = 2
kind_of (Term-F.Compound name args) = 2

abbrev level_fits : Term-F Term → Bool
level_fits (Term-F.Var v) = ltb v (2 ^ 32)
level_fits (Term-F.Int n) = integer_fits n
level_fits (Term-F.Atom a) = true
level_fits (Term-F.Compound name args) = list_all (λ b. b) (map numbers_fit args)

fits-roll : (x : Term-F Term) → numbers_fit (roll-Term x) ≡ level_fits x
fits-roll (Term-F.Var v) = search (rules, the_lemmas)
fits-roll (Term-F.Int n) = search (rules, the_lemmas)
fits-roll (Term-F.Atom a) = search (rules, the_lemmas)
fits-roll (Term-F.Compound name args) = search (rules, the_lemmas)

text-Compound : (name : List ℕ) (args : List Term)
    → text_of (roll-Term (Term-F.Compound name args)) ≡ atom_text name ++ codes "(" ++ join_with_byte 44 (map text_of args) ++ codes ")"
text-Compound name args = search (rules, the_lemmas)

regroup : (a b us : List ℕ) → (((a ++ 40 ∷ []) ++ b) ++ 41 ∷ []) ++ us ≡ a ++ 40 ∷ (b ++ 41 ∷ us)
regroup a b us = simp append_assoc

text-roll : (x : Term-F Term) (us : List ℕ) → text_of (roll-Term x) ++ us ≡ written x us
text-roll (Term-F.Var v) us = let e : text_of (roll-Term (Term-F.Var v)) ≡ codes "_" ++ decimal v = search (rules, the_lemmas) in ap (λ z. z ++ us) e
text-roll (Term-F.Int n) us = let e : text_of (roll-Term (Term-F.Int n)) ≡ signed_decimal n = search (rules, the_lemmas) in ap (λ z. z ++ us) e
text-roll (Term-F.Atom a) us = let e : text_of (roll-Term (Term-F.Atom a)) ≡ atom_text a = search (rules, the_lemmas) in ap (λ z. z ++ us) e
text-roll (Term-F.Compound name args) us = ap (λ z. z ++ us) (text-Compound name args) ∙ regroup (atom_text name) (join_with_byte 44 (map text_of args)) us

-- what follows an argument
abbrev in_args : List ℕ
in_args = 41 ∷ 44 ∷ []

abbrev ends : List ℕ → Bool
ends us = stops (is_one_of in_args) us

ends_atom : (us : List ℕ) → ends us ≡ true → stops (is_one_of in_terms) us ≡ true
ends_atom [] s = refl
ends_atom (u ∷ us) s = second_or (eqb 40 u) (is_one_of in_args u) s

ends_number : (us : List ℕ) → ends us ≡ true → stops no_digit us ≡ true
ends_number [] s = refl
ends_number (u ∷ us) s = member no_digit in_args u refl s

short_variable : (v : ℕ) → ltb v (2 ^ 32) ≡ true → v < 10 ^ 64
short_variable v e = grind (arith, nat_tests)

short_number : (n : ℕ) → ltb n (2 ^ 127) ≡ true → suc n < 10 ^ 64
short_number n e = grind (arith, nat_tests)

short_integer : (z : ℤ) → integer_fits z ≡ true → is_short z
short_integer (pos n) e = let l = short_number n e in omega (arith, l)
short_integer (negsuc n) e = short_number n e

kind_is : (x : Term-F Term) (us : List ℕ) → level_fits x ≡ true → ends us ≡ true → kind (written x us) ≡ kind_of x
kind_is (Term-F.Var v) us f s = refl
kind_is (Term-F.Int n) us f s = integer_is n us (short_integer n f)
kind_is (Term-F.Atom a) us f s = atom_is a us (ends_atom us s)
kind_is (Term-F.Compound name args) us f s = atom_is name (40 ∷ (join_with_byte 44 (map text_of args) ++ 41 ∷ us)) refl

same_kind : (x y : Term-F Term) (us vs : List ℕ) → level_fits x ≡ true → level_fits y ≡ true → ends us ≡ true → ends vs ≡ true → written x us ≡ written y vs
    → kind_of x ≡ kind_of y
same_kind x y us vs f g s t e = sym (kind_is x us f s) ∙ ap kind e ∙ kind_is y vs g t

-- no term begins with a closing bracket
digit_first : (us : List ℕ) → is_digit (first_of us) ≡ true → first_of us ≡ 41 → ⊥
digit_first us h e = false≢true (sym (ap is_digit e) ∙ h)

integer_first : (z : ℤ) (us : List ℕ) → is_short z → first_of (signed_decimal z ++ us) ≡ 41 → ⊥
integer_first (pos n) us l e = digit_first (decimal n ++ us) (first_digit n us l) e
integer_first (negsuc n) us l e = absurd (omega (arith, e))

level_first : (x : Term-F Term) (us : List ℕ) → level_fits x ≡ true → first_of (written x us) ≡ 41 → ⊥
level_first (Term-F.Var v) us f e = absurd (omega (arith, e))
level_first (Term-F.Int n) us f e = integer_first n us (short_integer n f) e
level_first (Term-F.Atom a) us f e = atom_first a us e
level_first (Term-F.Compound name args) us f e = atom_first name (40 ∷ (join_with_byte 44 (map text_of args) ++ 41 ∷ us)) e

term_first : (t : Term) (us : List ℕ) → numbers_fit t ≡ true → first_of (text_of t ++ us) ≡ 41 → ⊥
term_first t us f e =
    let x = out-Term t in
    let back : roll-Term x ≡ t = roll-out-Term t in
    level_first x us (sym (fits-roll x) ∙ ap numbers_fit back ∙ f) (ap first_of (sym (text-roll x us) ∙ ap (λ z. text_of z ++ us) back) ∙ e)

-- ---- the arguments

abbrev IsApart : Term → Type 0
IsApart s = (t : Term) (us vs : List ℕ) → numbers_fit s ≡ true → numbers_fit t ≡ true → ends us ≡ true → ends vs ≡ true → text_of s ++ us ≡ text_of t ++ vs
    → (s ≡ t) × (us ≡ vs)

abbrev all_fit : List Term → Bool
all_fit args = list_all (λ b. b) (map numbers_fit args)

-- what follows the first argument
abbrev further : List Term → List ℕ → List ℕ
further [] us = 41 ∷ us
further (a ∷ args) us = 44 ∷ (join_with_byte 44 (map text_of (a ∷ args)) ++ 41 ∷ us)

join-further : (a : Term) (args : List Term) (us : List ℕ) → join_with_byte 44 (map text_of (a ∷ args)) ++ 41 ∷ us ≡ text_of a ++ further args us
join-further a [] us = refl
join-further a (b ∷ args) us = append_assoc (text_of a) (44 ∷ join_with_byte 44 (map text_of (b ∷ args))) (41 ∷ us)

further_ends : (args : List Term) (us : List ℕ) → ends (further args us) ≡ true
further_ends [] us = refl
further_ends (a ∷ args) us = refl

first_apart : (a : Term) (as' : List Term) (b : Term) (bs : List Term) (us vs : List ℕ) → IsApart a → numbers_fit a ≡ true → numbers_fit b ≡ true
    → join_with_byte 44 (map text_of (a ∷ as')) ++ 41 ∷ us ≡ join_with_byte 44 (map text_of (b ∷ bs)) ++ 41 ∷ vs → (a ≡ b) × (further as' us ≡ further bs vs)
first_apart a as' b bs us vs h f g e =
    h b (further as' us) (further bs vs) f g (further_ends as' us) (further_ends bs vs) (sym (join-further a as' us) ∙ e ∙ join-further b bs vs)

args_apart : (as' bs : List Term) (us vs : List ℕ) → AllByRecursion IsApart as' → all_fit as' ≡ true → all_fit bs ≡ true
    → join_with_byte 44 (map text_of as') ++ 41 ∷ us ≡ join_with_byte 44 (map text_of bs) ++ 41 ∷ vs → (as' ≡ bs) × (us ≡ vs)
args_apart [] [] us vs h f g e = (refl, ap (drop 1) e)
args_apart [] (b ∷ bs) us vs h f g e =
    absurd (term_first b (further bs vs) (both (numbers_fit b) (all_fit bs) g).0 (ap first_of (sym (e ∙ join-further b bs vs))))
args_apart (a ∷ as') [] us vs h f g e =
    absurd (term_first a (further as' us) (both (numbers_fit a) (all_fit as') f).0 (ap first_of (sym (join-further a as' us) ∙ e)))
args_apart (a ∷ []) (b ∷ []) us vs h f g e =
    let (k, r) = first_apart a [] b [] us vs h.0 (both (numbers_fit a) true f).0 (both (numbers_fit b) true g).0 e in
    (λ i. k i ∷ [], ap (drop 1) r)
args_apart (a ∷ []) (b ∷ d ∷ bs) us vs h f g e =
    let (k, r) = first_apart a [] b (d ∷ bs) us vs h.0 (both (numbers_fit a) true f).0 (both (numbers_fit b) (all_fit (d ∷ bs)) g).0 e in
    let n : ◌≡◌ {A = ℕ} 41 44 = ap first_of r in
    absurd (omega (arith, n))
args_apart (a ∷ c ∷ as') (b ∷ []) us vs h f g e =
    let (k, r) = first_apart a (c ∷ as') b [] us vs h.0 (both (numbers_fit a) (all_fit (c ∷ as')) f).0 (both (numbers_fit b) true g).0 e in
    let n : ◌≡◌ {A = ℕ} 44 41 = ap first_of r in
    absurd (omega (arith, n))
args_apart (a ∷ c ∷ as') (b ∷ d ∷ bs) us vs h f g e =
    let p = both (numbers_fit a) (all_fit (c ∷ as')) f in
    let q = both (numbers_fit b) (all_fit (d ∷ bs)) g in
    let (k, r) = first_apart a (c ∷ as') b (d ∷ bs) us vs h.0 p.0 q.0 e in
    let (l, u) = args_apart (c ∷ as') (d ∷ bs) us vs h.1 p.1 q.1 (ap (drop 1) r) in
    (λ i. k i ∷ l i, u)

-- ---- terms

levels_apart : (x y : Term-F Term) (us vs : List ℕ) → AllByRecursion IsApart (arguments x) → level_fits x ≡ true → level_fits y ≡ true → ends us ≡ true
    → ends vs ≡ true
    → written x us ≡ written y vs → kind_of x ≡ kind_of y → (x ≡ y) × (us ≡ vs)
levels_apart (Term-F.Var v) (Term-F.Var w) us vs h f g s t e k =
    let (p, q) = decimals_apart v w us vs (short_variable v f) (short_variable w g) (ends_number us s) (ends_number vs t) (ap (drop 1) e) in
    (ap Term-F.Var p, q)
levels_apart (Term-F.Int m) (Term-F.Int n) us vs h f g s t e k =
    let (p, q) = integers_apart m n us vs (short_integer m f) (short_integer n g) (ends_number us s) (ends_number vs t) e in
    (ap Term-F.Int p, q)
levels_apart (Term-F.Atom a) (Term-F.Atom b) us vs h f g s t e k =
    let (p, q) = atoms_apart a b us vs (ends_atom us s) (ends_atom vs t) e in
    (ap Term-F.Atom p, q)
levels_apart (Term-F.Atom a) (Term-F.Compound m bs) us vs h f g s t e k =
    let (p, q) = atoms_apart a m us (40 ∷ (join_with_byte 44 (map text_of bs) ++ 41 ∷ vs)) (ends_atom us s) refl e in
    absurd (false≢true (sym (ap ends q) ∙ s))
levels_apart (Term-F.Compound n as') (Term-F.Atom b) us vs h f g s t e k =
    let (p, q) = atoms_apart n b (40 ∷ (join_with_byte 44 (map text_of as') ++ 41 ∷ us)) vs refl (ends_atom vs t) e in
    absurd (false≢true (ap ends q ∙ t))
levels_apart (Term-F.Compound n as') (Term-F.Compound m bs) us vs h f g s t e k =
    let (p, q) = atoms_apart n m (40 ∷ (join_with_byte 44 (map text_of as') ++ 41 ∷ us)) (40 ∷ (join_with_byte 44 (map text_of bs) ++ 41 ∷ vs)) refl refl e in
    let (l, u) = args_apart as' bs us vs h f g (ap (drop 1) q) in
    (λ i. Term-F.Compound (p i) (l i), u)
levels_apart (Term-F.Var v) (Term-F.Int n) us vs h f g s t e k = absurd (omega (arith, k))
levels_apart (Term-F.Var v) (Term-F.Atom b) us vs h f g s t e k = absurd (omega (arith, k))
levels_apart (Term-F.Var v) (Term-F.Compound m bs) us vs h f g s t e k = absurd (omega (arith, k))
levels_apart (Term-F.Int n) (Term-F.Var w) us vs h f g s t e k = absurd (omega (arith, k))
levels_apart (Term-F.Int n) (Term-F.Atom b) us vs h f g s t e k = absurd (omega (arith, k))
levels_apart (Term-F.Int n) (Term-F.Compound m bs) us vs h f g s t e k = absurd (omega (arith, k))
levels_apart (Term-F.Atom a) (Term-F.Var w) us vs h f g s t e k = absurd (omega (arith, k))
levels_apart (Term-F.Atom a) (Term-F.Int n) us vs h f g s t e k = absurd (omega (arith, k))
levels_apart (Term-F.Compound n as') (Term-F.Var w) us vs h f g s t e k = absurd (omega (arith, k))
levels_apart (Term-F.Compound n as') (Term-F.Int m) us vs h f g s t e k = absurd (omega (arith, k))

terms_apart : (s : Term) → IsApart s
terms_apart = induction_by_levels IsApart (λ x h t us vs f g s w e.
    let y = out-Term t in
    let back : roll-Term y ≡ t = roll-out-Term t in
    let f' : level_fits x ≡ true = sym (fits-roll x) ∙ f in
    let g' : level_fits y ≡ true = sym (fits-roll y) ∙ ap numbers_fit back ∙ g in
    let e' : written x us ≡ written y vs = sym (text-roll x us) ∙ e ∙ ap (λ z. text_of z ++ vs) (sym back) ∙ text-roll y vs in
    let (p, q) = levels_apart x y us vs h f' g' s w e' (same_kind x y us vs f' g' s w e') in
    (ap roll-Term p ∙ back, q))

pub terms_differ : (a b : Term) → numbers_fit a ≡ true → numbers_fit b ≡ true → text_of a ≡ text_of b → a ≡ b
terms_differ a b f g e = (terms_apart a b [] [] f g refl refl (ap (λ z. z ++ []) e)).0
