-- Names, constants and integers as they stand in texts: which of them begin alike.
use Rattle.std.proofs.Common.{◌≡◌, ℕ, ℤ, pos, negsuc, suc, ◌^◌, ◌<◌, Bool, true, false, ◌&&◌, ◌||◌, not, cond, eqb, ltb, List, [], ◌∷◌, ◌++◌, refl, sym, ap}
use Rattle.std.proofs.Common.{◌∙◌, arith, append_assoc, codes}
use Rattle.std.specs.Fmt.{decimal, signed_decimal}
use Rattle.std.specs.List.{list_all, flat_map}
use Rattle.std.specs.Char.{is_ascii_lowercase}
use Rattle.std.proofs.lemmas.Bool.{false≢true}
use Rattle.std.proofs.lemmas.Bool.Decides.{nat_tests}
use Rattle.plai_terms.specs.Atom.{is_alphanumeric, is_symbol, is_word, is_symbolic, is_bare, escaped, quoted_text, atom_text}
use Rattle.plai_terms.specs.Term.{integer_fits}
use Rattle.plai_terms.specs.Pattern.{is_reserved, constant_text}
use Rattle.plai_terms.proofs.Same.{both}
use Rattle.plai_terms.proofs.Reading.{stops, first_of, is_digit, no_digit, is_short, member, not_this, first_digit, quoted_apart}
use Rattle.plai_terms.proofs.AtomTexts.{is_one_of, in_terms, second_or, bare_cases, solo_cases, symbols, atom_first, atoms_apart}

-- ---- what follows an argument

abbrev in_args : List ℕ
in_args = 41 ∷ 44 ∷ []

abbrev pub ends : List ℕ → Bool
ends us = stops (is_one_of in_args) us

pub ends_atom : (us : List ℕ) → ends us ≡ true → stops (is_one_of in_terms) us ≡ true
ends_atom [] s = refl
ends_atom (u ∷ us) s = second_or (eqb 40 u) (is_one_of in_args u) s

pub ends_number : (us : List ℕ) → ends us ≡ true → stops no_digit us ≡ true
ends_number [] s = refl
ends_number (u ∷ us) s = member no_digit in_args u refl s

pub ends_bracket : (us vs : List ℕ) → ends us ≡ true → us ≡ 40 ∷ vs → ⊥
ends_bracket us vs s e = false≢true (sym (ap ends e) ∙ s)

-- ---- whether an integer begins here, or a name

abbrev pub is_number : List ℕ → Bool
is_number [] = false
is_number (c ∷ cs) = is_digit c || eqb 45 c && is_digit (first_of cs)

no_number : (c : ℕ) (cs : List ℕ) → is_digit c ≡ false → (eqb 45 c && is_digit (first_of cs)) ≡ false → is_number (c ∷ cs) ≡ false
no_number c cs p q = ap (λ b. b || eqb 45 c && is_digit (first_of cs)) p ∙ q

no_and : (p q : Bool) → q ≡ false → (p && q) ≡ false
no_and true q e = e
no_and false q e = refl

nor_and : (p q : Bool) → p ≡ false → (p && q) ≡ false
nor_and true q e = absurd (false≢true (sym e))
nor_and false q e = refl

not_true : (b : Bool) → not b ≡ true → b ≡ false
not_true true e = absurd (false≢true e)
not_true false e = refl

lowercase_no_digit : (c : ℕ) → is_ascii_lowercase c ≡ true → is_digit c ≡ false
lowercase_no_digit c e = grind (arith, nat_tests)

symbol_no_digit : (c : ℕ) → is_symbol c ≡ true → is_digit c ≡ false
symbol_no_digit c e = not_true (is_digit c) (member no_digit (codes "+-*/\\^<>=~:.?@#&$") c refl e)

delimiter_no_digit : (us : List ℕ) → stops (is_one_of in_terms) us ≡ true → is_digit (first_of us) ≡ false
delimiter_no_digit [] s = refl
delimiter_no_digit (u ∷ us) s = not_true (is_digit u) (member no_digit in_terms u refl s)

symbols_no_digit : (cs us : List ℕ) → list_all is_symbol cs ≡ true → stops (is_one_of in_terms) us ≡ true → is_digit (first_of (cs ++ us)) ≡ false
symbols_no_digit [] us e s = delimiter_no_digit us s
symbols_no_digit (c ∷ cs) us e s = symbol_no_digit c (both (is_symbol c) (list_all is_symbol cs) e).0

abbrev IsName : List ℕ → Type 0
IsName a = (us : List ℕ) → stops (is_one_of in_terms) us ≡ true → is_number (a ++ us) ≡ false

word_is : (a : List ℕ) → is_word a ≡ true → IsName a
word_is [] e us s = absurd (false≢true e)
word_is (c ∷ cs) e us s =
    let l = (both (is_ascii_lowercase c) (list_all is_alphanumeric cs) e).0 in
    no_number c (cs ++ us) (lowercase_no_digit c l) (nor_and (eqb 45 c) (is_digit (first_of (cs ++ us))) (not_this is_ascii_lowercase 45 c refl l))

symbolic_is : (a : List ℕ) → is_symbolic a ≡ true → IsName a
symbolic_is [] e us s = absurd (false≢true e)
symbolic_is (c ∷ cs) e us s =
    let b = both (is_symbol c) (list_all is_symbol cs) (symbols (c ∷ cs) e) in
    no_number c (cs ++ us) (symbol_no_digit c b.0) (no_and (eqb 45 c) (is_digit (first_of (cs ++ us))) (symbols_no_digit cs us b.1 s))

bare_is : (a : List ℕ) → is_bare a ≡ true → IsName a
bare_is a = bare_cases IsName a (word_is a) (symbolic_is a) (solo_cases IsName a (λ us s. refl) (λ us s. refl) (λ us s. refl))

pub atom_is : (a us : List ℕ) → stops (is_one_of in_terms) us ≡ true → is_number (atom_text a ++ us) ≡ false
atom_is a = elim (is_bare a) as (λ b. is_bare a ≡ b → IsName (cond b a (quoted_text a))) [
  | true ↦ λ h. bare_is a h
  | false ↦ λ h us s. refl
] refl

pub constant_is : (a us : List ℕ) → stops (is_one_of in_terms) us ≡ true → is_number (constant_text a ++ us) ≡ false
constant_is a us s = elim (is_reserved a) as (λ b. is_number (cond b (quoted_text a) (atom_text a) ++ us) ≡ false) [
  | true ↦ refl
  | false ↦ atom_is a us s
]

digit_number : (us : List ℕ) → is_digit (first_of us) ≡ true → is_number us ≡ true
digit_number [] e = absurd (false≢true e)
digit_number (c ∷ cs) e = ap (λ b. b || eqb 45 c && is_digit (first_of cs)) e

pub integer_is : (z : ℤ) (us : List ℕ) → is_short z → is_number (signed_decimal z ++ us) ≡ true
integer_is (pos n) us l = digit_number (decimal n ++ us) (first_digit n us l)
integer_is (negsuc n) us l = first_digit (suc n) us l

short_number : (n : ℕ) → ltb n (2 ^ 127) ≡ true → suc n < 10 ^ 64
short_number n e = grind (arith, nat_tests)

pub short_integer : (z : ℤ) → integer_fits z ≡ true → is_short z
short_integer (pos n) e = let l = short_number n e in omega (arith, l)
short_integer (negsuc n) e = short_number n e

-- ---- no closing bracket begins a text

digit_first : (us : List ℕ) → is_digit (first_of us) ≡ true → first_of us ≡ 41 → ⊥
digit_first us h e = false≢true (sym (ap is_digit e) ∙ h)

pub integer_first : (z : ℤ) (us : List ℕ) → is_short z → first_of (signed_decimal z ++ us) ≡ 41 → ⊥
integer_first (pos n) us l e = digit_first (decimal n ++ us) (first_digit n us l) e
integer_first (negsuc n) us l e = absurd (omega (arith, e))

pub constant_first : (a us : List ℕ) → first_of (constant_text a ++ us) ≡ 41 → ⊥
constant_first a us = elim (is_reserved a) as (λ b. first_of (cond b (quoted_text a) (atom_text a) ++ us) ≡ 41 → ⊥) [
  | true ↦ λ e. absurd (omega (arith, e))
  | false ↦ atom_first a us
]

-- ---- names between quotes, and others

no_quote : (us : List ℕ) → stops (is_one_of in_terms) us ≡ true → first_of us ≡ 39 → ⊥
no_quote [] s e = absurd (omega (arith, e))
no_quote (c ∷ cs) s e = false≢true (ap (is_one_of in_terms) (sym e) ∙ s)

quoted_behind : (a us : List ℕ) → quoted_text a ++ us ≡ 39 ∷ (flat_map escaped a ++ 39 ∷ us)
quoted_behind a us = ap (λ z. 39 ∷ z) (append_assoc (flat_map escaped a) (39 ∷ []) us)

pub both_quoted : (a b us vs : List ℕ) → stops (is_one_of in_terms) us ≡ true → stops (is_one_of in_terms) vs ≡ true
    → quoted_text a ++ us ≡ quoted_text b ++ vs → (a ≡ b) × (us ≡ vs)
both_quoted a b us vs s t e =
    let f : 39 ∷ (flat_map escaped a ++ 39 ∷ us) ≡ 39 ∷ (flat_map escaped b ++ 39 ∷ vs) = sym (quoted_behind a us) ∙ e ∙ quoted_behind b vs in
    let g : flat_map escaped a ++ 39 ∷ us ≡ flat_map escaped b ++ 39 ∷ vs = cc in
    quoted_apart a b us vs (no_quote us s) (no_quote vs t) g

abbrev Unquoted : List ℕ → Type 0
Unquoted a = (us : List ℕ) → first_of (a ++ us) ≡ 39 → ⊥

word_unquoted : (a : List ℕ) → is_word a ≡ true → Unquoted a
word_unquoted [] h us e = false≢true h
word_unquoted (c ∷ cs) h us e =
    let l = (both (is_ascii_lowercase c) (list_all is_alphanumeric cs) h).0 in
    false≢true (ap is_ascii_lowercase (sym e) ∙ l)

symbolic_unquoted : (a : List ℕ) → is_symbolic a ≡ true → Unquoted a
symbolic_unquoted [] h us e = false≢true h
symbolic_unquoted (c ∷ cs) h us e =
    let l = (both (is_symbol c) (list_all is_symbol cs) (symbols (c ∷ cs) h)).0 in
    false≢true (ap is_symbol (sym e) ∙ l)

bare_unquoted : (a : List ℕ) → is_bare a ≡ true → Unquoted a
bare_unquoted a = bare_cases Unquoted a (word_unquoted a) (symbolic_unquoted a)
    (solo_cases Unquoted a (λ us e. absurd (omega (arith, e))) (λ us e. absurd (omega (arith, e))) (λ us e. absurd (omega (arith, e))))

-- a name between quotes, and an atom
pub quoted_atom : (a b us vs : List ℕ) → stops (is_one_of in_terms) us ≡ true → stops (is_one_of in_terms) vs ≡ true → quoted_text a ++ us ≡ atom_text b ++ vs
    → (a ≡ b) × (us ≡ vs)
quoted_atom a b us vs s t = elim (is_bare b) as (λ c. is_bare b ≡ c → quoted_text a ++ us ≡ cond c b (quoted_text b) ++ vs → (a ≡ b) × (us ≡ vs)) [
  | true ↦ λ h e. absurd (bare_unquoted b h vs (ap first_of (sym e)))
  | false ↦ λ h e. both_quoted a b us vs s t e
] refl

-- two constants
pub constants_apart : (a b us vs : List ℕ) → stops (is_one_of in_terms) us ≡ true → stops (is_one_of in_terms) vs ≡ true
    → constant_text a ++ us ≡ constant_text b ++ vs → (a ≡ b) × (us ≡ vs)
constants_apart a b us vs s t = by (is_reserved a) (is_reserved b)
  where
    by : (p q : Bool) → cond p (quoted_text a) (atom_text a) ++ us ≡ cond q (quoted_text b) (atom_text b) ++ vs → (a ≡ b) × (us ≡ vs)
    by true true e = both_quoted a b us vs s t e
    by true false e = quoted_atom a b us vs s t e
    by false true e = let r = quoted_atom b a vs us t s (sym e) in (sym r.0, sym r.1)
    by false false e = atoms_apart a b us vs s t e

-- a constant, and an atom's text: one is reserved, or both are equal
pub constant_atom : (a b us vs : List ℕ) → stops (is_one_of in_terms) us ≡ true → stops (is_one_of in_terms) vs ≡ true
    → constant_text a ++ us ≡ atom_text b ++ vs → (a ≡ b) × (us ≡ vs)
constant_atom a b us vs s t = by (is_reserved a)
  where
    by : (p : Bool) → cond p (quoted_text a) (atom_text a) ++ us ≡ atom_text b ++ vs → (a ≡ b) × (us ≡ vs)
    by true e = quoted_atom a b us vs s t e
    by false e = atoms_apart a b us vs s t e

-- a constant is no reserved name that stands bare
pub constant_reserved : (a b us vs : List ℕ) → is_reserved b ≡ true → is_bare b ≡ true → stops (is_one_of in_terms) us ≡ true
    → stops (is_one_of in_terms) vs ≡ true → constant_text a ++ us ≡ b ++ vs → ⊥
constant_reserved a b us vs r h s t = by (is_reserved a) refl
  where
    by : (p : Bool) → is_reserved a ≡ p → cond p (quoted_text a) (atom_text a) ++ us ≡ b ++ vs → ⊥
    by true q e = bare_unquoted b h vs (ap first_of (sym e))
    by false q e =
        let same : (a ≡ b) × (us ≡ vs) = atoms_apart a b us vs s t (e ∙ ap (λ c. cond c b (quoted_text b) ++ vs) (sym h)) in
        false≢true (sym q ∙ ap is_reserved same.0 ∙ r)
