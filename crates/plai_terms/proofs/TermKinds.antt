-- What kind of term a text begins: a variable, an integer, or an atom or a compound.
use Rattle.std.proofs.Common.{◌≡◌, ℕ, ℤ, pos, negsuc, suc, Bool, true, false, ◌&&◌, not, cond, eqb, List, [], ◌∷◌, ◌++◌, refl, sym, ap, ◌∙◌, arith, codes}
use Rattle.std.specs.Fmt.{decimal, signed_decimal}
use Rattle.std.specs.List.{list_all}
use Rattle.std.specs.Char.{is_ascii_lowercase}
use Rattle.std.proofs.lemmas.Bool.{false≢true}
use Rattle.std.proofs.lemmas.Bool.Decides.{nat_tests}
use Rattle.plai_terms.specs.Atom.{is_alphanumeric, is_symbol, is_word, is_symbolic, is_bare, quoted_text, atom_text}
use Rattle.plai_terms.proofs.Same.{both}
use Rattle.plai_terms.proofs.Reading.{stops, first_of, is_digit, no_digit, is_short, member, not_this, first_digit}
use Rattle.plai_terms.proofs.AtomTexts.{is_one_of, in_terms, bare_cases, solo_cases, symbols}

abbrev pub kind : List ℕ → ℕ
kind [] = 2
kind (c ∷ cs) = cond (eqb 95 c) 0 (cond (is_digit c) 1 (cond (eqb 45 c && is_digit (first_of cs)) 1 2))

kind-name : (c : ℕ) (cs : List ℕ) → eqb 95 c ≡ false → is_digit c ≡ false → (eqb 45 c && is_digit (first_of cs)) ≡ false → kind (c ∷ cs) ≡ 2
kind-name c cs p q r =
    ap (λ b. cond b 0 (cond (is_digit c) 1 (cond (eqb 45 c && is_digit (first_of cs)) 1 2))) p
    ∙ ap (λ b. cond b 1 (cond (eqb 45 c && is_digit (first_of cs)) 1 2)) q
    ∙ ap (λ b. cond b 1 2) r

no_and : (p q : Bool) → q ≡ false → (p && q) ≡ false
no_and true q e = e
no_and false q e = refl

nor_and : (p q : Bool) → p ≡ false → (p && q) ≡ false
nor_and true q e = absurd (false≢true (sym e))
nor_and false q e = refl

not_true : (b : Bool) → not b ≡ true → b ≡ false
not_true true e = absurd (false≢true e)
not_true false e = refl

lowercase_no_digit : (c : ℕ) → is_ascii_lowercase c ≡ true → is_digit c ≡ false
lowercase_no_digit c e = grind (arith, nat_tests)

symbol_no_digit : (c : ℕ) → is_symbol c ≡ true → is_digit c ≡ false
symbol_no_digit c e = not_true (is_digit c) (member no_digit (codes "+-*/\\^<>=~:.?@#&$") c refl e)

delimiter_no_digit : (us : List ℕ) → stops (is_one_of in_terms) us ≡ true → is_digit (first_of us) ≡ false
delimiter_no_digit [] s = refl
delimiter_no_digit (u ∷ us) s = not_true (is_digit u) (member no_digit in_terms u refl s)

symbols_no_digit : (cs us : List ℕ) → list_all is_symbol cs ≡ true → stops (is_one_of in_terms) us ≡ true → is_digit (first_of (cs ++ us)) ≡ false
symbols_no_digit [] us e s = delimiter_no_digit us s
symbols_no_digit (c ∷ cs) us e s = symbol_no_digit c (both (is_symbol c) (list_all is_symbol cs) e).0

abbrev pub IsName : List ℕ → Type 0
IsName a = (us : List ℕ) → stops (is_one_of in_terms) us ≡ true → kind (a ++ us) ≡ 2

word_is : (a : List ℕ) → is_word a ≡ true → IsName a
word_is [] e us s = absurd (false≢true e)
word_is (c ∷ cs) e us s =
    let l = (both (is_ascii_lowercase c) (list_all is_alphanumeric cs) e).0 in
    kind-name c (cs ++ us) (not_this is_ascii_lowercase 95 c refl l) (lowercase_no_digit c l)
    (nor_and (eqb 45 c) (is_digit (first_of (cs ++ us))) (not_this is_ascii_lowercase 45 c refl l))

symbolic_is : (a : List ℕ) → is_symbolic a ≡ true → IsName a
symbolic_is [] e us s = absurd (false≢true e)
symbolic_is (c ∷ cs) e us s =
    let b = both (is_symbol c) (list_all is_symbol cs) (symbols (c ∷ cs) e) in
    kind-name c (cs ++ us) (not_this is_symbol 95 c refl b.0) (symbol_no_digit c b.0)
    (no_and (eqb 45 c) (is_digit (first_of (cs ++ us))) (symbols_no_digit cs us b.1 s))

bare_is : (a : List ℕ) → is_bare a ≡ true → IsName a
bare_is a = bare_cases IsName a (word_is a) (symbolic_is a) (solo_cases IsName a (λ us s. refl) (λ us s. refl) (λ us s. refl))

pub atom_is : (a : List ℕ) → IsName (atom_text a)
atom_is a = elim (is_bare a) as (λ b. is_bare a ≡ b → IsName (cond b a (quoted_text a))) [
  | true ↦ λ h. bare_is a h
  | false ↦ λ h us s. refl
] refl

digit_kind : (us : List ℕ) → is_digit (first_of us) ≡ true → kind us ≡ 1
digit_kind [] e = absurd (false≢true e)
digit_kind (c ∷ cs) e =
    ap (λ b. cond b 0 (cond (is_digit c) 1 (cond (eqb 45 c && is_digit (first_of cs)) 1 2))) (not_this is_digit 95 c refl e)
    ∙ ap (λ b. cond b 1 (cond (eqb 45 c && is_digit (first_of cs)) 1 2)) e

pub integer_is : (z : ℤ) (us : List ℕ) → is_short z → kind (signed_decimal z ++ us) ≡ 1
integer_is (pos n) us l = digit_kind (decimal n ++ us) (first_digit n us l)
integer_is (negsuc n) us l = ap (λ b. cond b 1 2) (first_digit (suc n) us l)
