-- Different atoms have different texts, and so have different names of rows, whatever follows them.
use Rattle.std.proofs.Common.{◌≡◌, ℕ, Bool, true, false, ◌&&◌, ◌||◌, not, cond, eqb, nat_eq, List, [], ◌∷◌, ◌++◌, length, refl, sym, ap, ◌∙◌, arith}
use Rattle.std.proofs.Common.{append_assoc, codes, subst, inl, inr, ◌⊎◌}
use Rattle.std.specs.List.{list_any, list_all, flat_map}
use Rattle.std.specs.Int.{is_in_range}
use Rattle.std.specs.Char.{is_ascii_lowercase}
use Rattle.std.specs.Cmp.Lexicographic.{pointwise}
use Rattle.std.proofs.lemmas.Bool.{false≢true}
use Rattle.plai_terms.specs.Atom.{is_alphanumeric, is_symbol, is_word, is_symbolic, is_end_or_comment, is_solo, is_bare, escaped, quoted_text, atom_text}
use Rattle.plai_terms.specs.Atom.{name_text}
use Rattle.plai_terms.proofs.Same.{both, names_equal}
use Rattle.plai_terms.proofs.Reading.{stops, is_free, first_of, same_fronts, no_member, quoted_apart}

-- the test of some delimiters
abbrev pub is_one_of : List ℕ → ℕ → Bool
is_one_of ss c = list_any (λ s. eqb s c) ss

not_false : (b : Bool) → b ≡ false → not b ≡ true
not_false true e = sym e
not_false false e = refl

-- text of which each character passes a test has none of some characters that don't
free_by : (f : ℕ → Bool) (ss : List ℕ) (xs : List ℕ) → list_all (λ s. not (f s)) ss ≡ true → list_all f xs ≡ true → is_free (is_one_of ss) xs ≡ true
free_by f ss [] h e = refl
free_by f ss (x ∷ xs) h e =
    let b = both (f x) (list_all f xs) e in
    ap (λ b. b && is_free (is_one_of ss) xs) (not_false (is_one_of ss x) (no_member f ss x h b.0)) ∙ free_by f ss xs h b.1

either : (p q : Bool) → (p || q) ≡ true → (p ≡ true) ⊎ (q ≡ true)
either true q e = inl refl
either false q e = inr e

pub second_or : (p q : Bool) → q ≡ true → (p || q) ≡ true
second_or true q e = refl
second_or false q e = e

word_free : (ss : List ℕ) (a : List ℕ) → list_all (λ s. not (is_alphanumeric s)) ss ≡ true → is_word a ≡ true → is_free (is_one_of ss) a ≡ true
word_free ss [] h e = refl
word_free ss (c ∷ cs) h e =
    let b = both (is_ascii_lowercase c) (list_all is_alphanumeric cs) e in
    let first : is_alphanumeric c ≡ true = ap (λ x. x || eqb c 95) (second_or (is_in_range 48 57 c || is_in_range 65 90 c) (is_ascii_lowercase c) b.0) in
    free_by is_alphanumeric ss (c ∷ cs) h (ap (λ x. x && list_all is_alphanumeric cs) first ∙ b.1)

pub solo_cases : (P : List ℕ → Type 0) (a : List ℕ) → P (codes "[]") → P (codes "!") → P (codes ";") → is_solo a ≡ true → P a
solo_cases P a f g h e =
    elim (either (pointwise nat_eq a (codes "[]") || pointwise nat_eq a (codes "!")) (pointwise nat_eq a (codes ";")) e) [
      | inl k ↦ elim (either (pointwise nat_eq a (codes "[]")) (pointwise nat_eq a (codes "!")) k) [
        | inl l ↦ subst P (sym (names_equal a (codes "[]") l)) f
        | inr l ↦ subst P (sym (names_equal a (codes "!") l)) g
      ]
      | inr k ↦ subst P (sym (names_equal a (codes ";") k)) h
    ]

-- by the three forms of an atom that stands bare
pub bare_cases : (P : List ℕ → Type 0) (a : List ℕ) → (is_word a ≡ true → P a) → (is_symbolic a ≡ true → P a) → (is_solo a ≡ true → P a)
    → is_bare a ≡ true → P a
bare_cases P a f g h e =
    elim (either (is_word a || is_symbolic a && not (is_end_or_comment a)) (is_solo a) e) [
      | inl k ↦ elim (either (is_word a) (is_symbolic a && not (is_end_or_comment a)) k) [
        | inl l ↦ f l
        | inr l ↦ g (both (is_symbolic a) (not (is_end_or_comment a)) l).0
      ]
      | inr k ↦ h k
    ]

-- ---- names that stand bare or between quotes

-- What reading needs of the names that stand bare: they have no delimiter, and don't begin with a quote.
pub record IsReadable (bare : List ℕ → Bool) (ss : List ℕ) : Type 0 where
  free : (a : List ℕ) → bare a ≡ true → is_free (is_one_of ss) a ≡ true
  unquoted : (a us : List ℕ) → bare a ≡ true → first_of (a ++ us) ≡ 39 → ⊥
  quote : is_one_of ss 39 ≡ false

abbrev text_by : Bool → List ℕ → List ℕ
text_by b a = cond b a (quoted_text a)

module _ (bare : List ℕ → Bool) (ss : List ℕ) (good : IsReadable bare ss) where
  no_quote : (us : List ℕ) → stops (is_one_of ss) us ≡ true → first_of us ≡ 39 → ⊥
  no_quote [] s e = absurd (omega (arith, e))
  no_quote (c ∷ cs) s e = false≢true (sym good.quote ∙ ap (is_one_of ss) (sym e) ∙ s)

  quoted_behind : (a us : List ℕ) → quoted_text a ++ us ≡ 39 ∷ (flat_map escaped a ++ 39 ∷ us)
  quoted_behind a us = ap (λ z. 39 ∷ z) (append_assoc (flat_map escaped a) (39 ∷ []) us)

  texts_by : (p q : Bool) (a b us vs : List ℕ) → bare a ≡ p → bare b ≡ q → stops (is_one_of ss) us ≡ true → stops (is_one_of ss) vs ≡ true
      → text_by p a ++ us ≡ text_by q b ++ vs → (a ≡ b) × (us ≡ vs)
  texts_by true true a b us vs h k s t e = same_fronts (is_one_of ss) a b us vs (good.free a h) (good.free b k) s t e
  texts_by true false a b us vs h k s t e = absurd (good.unquoted a us h (ap first_of e))
  texts_by false true a b us vs h k s t e = absurd (good.unquoted b vs k (ap first_of (sym e)))
  texts_by false false a b us vs h k s t e =
      let f : 39 ∷ (flat_map escaped a ++ 39 ∷ us) ≡ 39 ∷ (flat_map escaped b ++ 39 ∷ vs) = sym (quoted_behind a us) ∙ e ∙ quoted_behind b vs in
      let g : flat_map escaped a ++ 39 ∷ us ≡ flat_map escaped b ++ 39 ∷ vs = cc in
      quoted_apart a b us vs (no_quote us s) (no_quote vs t) g

  pub texts_apart : (a b us vs : List ℕ) → stops (is_one_of ss) us ≡ true → stops (is_one_of ss) vs ≡ true
      → text_by (bare a) a ++ us ≡ text_by (bare b) b ++ vs → (a ≡ b) × (us ≡ vs)
  texts_apart a b us vs s t e = texts_by (bare a) (bare b) a b us vs refl refl s t e

-- ---- atoms

-- brackets and the comma
abbrev pub in_terms : List ℕ
in_terms = 40 ∷ 41 ∷ 44 ∷ []

pub symbols : (a : List ℕ) → is_symbolic a ≡ true → list_all is_symbol a ≡ true
symbols a e = (both (not (eqb (length a) 0)) (list_all is_symbol a) e).1

symbols_free : (ss : List ℕ) (a : List ℕ) → list_all (λ s. not (is_symbol s)) ss ≡ true → is_symbolic a ≡ true → is_free (is_one_of ss) a ≡ true
symbols_free ss a h e = free_by is_symbol ss a h (symbols a e)

bare_free : (a : List ℕ) → is_bare a ≡ true → is_free (is_one_of in_terms) a ≡ true
bare_free a = bare_cases (λ a. is_free (is_one_of in_terms) a ≡ true) a
    (word_free in_terms a refl)
    (symbols_free in_terms a refl)
    (solo_cases (λ a. is_free (is_one_of in_terms) a ≡ true) a refl refl refl)

-- a test that the first character passes
abbrev IsFirst : (ℕ → Bool) → List ℕ → Type 0
IsFirst f a = (us : List ℕ) → f (first_of (a ++ us)) ≡ true

word_first : (f : ℕ → Bool) (a : List ℕ) → ((c : ℕ) → is_ascii_lowercase c ≡ true → f c ≡ true) → is_word a ≡ true → IsFirst f a
word_first f [] h e us = absurd (false≢true e)
word_first f (c ∷ cs) h e us = h c (both (is_ascii_lowercase c) (list_all is_alphanumeric cs) e).0

symbol_first : (f : ℕ → Bool) (a : List ℕ) → ((c : ℕ) → is_symbol c ≡ true → f c ≡ true) → is_symbolic a ≡ true → IsFirst f a
symbol_first f [] h e us = absurd (false≢true e)
symbol_first f (c ∷ cs) h e us = h c (both (is_symbol c) (list_all is_symbol cs) (symbols (c ∷ cs) e)).0

solo_first : (f : ℕ → Bool) (a : List ℕ) → f 91 ≡ true → f 33 ≡ true → f 59 ≡ true → is_solo a ≡ true → IsFirst f a
solo_first f a p q r = solo_cases (IsFirst f) a (λ us. p) (λ us. q) (λ us. r)

-- the characters that no atom begins with that stands bare
abbrev others : List ℕ
others = 39 ∷ 41 ∷ 95 ∷ []

abbrev begins : ℕ → Bool
begins c = not (is_one_of others c)

bare_first : (a : List ℕ) → is_bare a ≡ true → IsFirst begins a
bare_first a = bare_cases (IsFirst begins) a
    (word_first begins a (λ c e. not_false (is_one_of others c) (no_member is_ascii_lowercase others c refl e)))
    (symbol_first begins a (λ c e. not_false (is_one_of others c) (no_member is_symbol others c refl e)))
    (solo_first begins a refl refl refl)

bare_unquoted : (a us : List ℕ) → is_bare a ≡ true → first_of (a ++ us) ≡ 39 → ⊥
bare_unquoted a us h e = false≢true (sym (ap begins e) ∙ bare_first a h us)

-- no atom begins with a closing bracket
pub atom_first : (a us : List ℕ) → first_of (atom_text a ++ us) ≡ 41 → ⊥
atom_first a us = elim (is_bare a) as (λ b. is_bare a ≡ b → first_of (text_by b a ++ us) ≡ 41 → ⊥) [
  | true ↦ λ h e. false≢true (sym (ap begins e) ∙ bare_first a h us)
  | false ↦ λ h e. absurd (omega (arith, e))
] refl

atoms_readable : IsReadable is_bare in_terms
atoms_readable = record { free = bare_free; unquoted = bare_unquoted; quote = refl }

-- atoms, up to a bracket, a comma or the end
pub atoms_apart : (a b us vs : List ℕ) → stops (is_one_of in_terms) us ≡ true → stops (is_one_of in_terms) vs ≡ true → atom_text a ++ us ≡ atom_text b ++ vs
    → (a ≡ b) × (us ≡ vs)
atoms_apart a b us vs s t e = texts_apart is_bare in_terms atoms_readable a b us vs s t e

-- ---- names of rows

-- what stands behind them
abbrev pub in_rows : List ℕ
in_rows = 58 ∷ 47 ∷ []

abbrev is_plain : List ℕ → Bool
is_plain a = not (is_symbolic a) && is_bare a

name_text-by : (a : List ℕ) → name_text a ≡ text_by (is_plain a) a
name_text-by a = elim (is_symbolic a) as (λ b. cond b (quoted_text a) (atom_text a) ≡ text_by (not b && is_bare a) a) [ true ↦ refl | false ↦ refl ]

plain_cases : (P : List ℕ → Type 0) (a : List ℕ) → (is_word a ≡ true → P a) → (is_solo a ≡ true → P a) → is_plain a ≡ true → P a
plain_cases P a f g e =
    let b = both (not (is_symbolic a)) (is_bare a) e in
    bare_cases P a f (λ k. absurd (false≢true (sym (ap not k) ∙ b.0))) g b.1

names_readable : IsReadable is_plain in_rows
names_readable = record {
  free = λ a. plain_cases (λ a. is_free (is_one_of in_rows) a ≡ true) a
      (word_free in_rows a refl)
      (solo_cases (λ a. is_free (is_one_of in_rows) a ≡ true) a refl refl refl);
  unquoted = λ a us h. bare_unquoted a us (both (not (is_symbolic a)) (is_bare a) h).1;
  quote = refl;
}

-- names of modules and predicates, up to a colon, a slash or the end
pub names_apart : (a b us vs : List ℕ) → stops (is_one_of in_rows) us ≡ true → stops (is_one_of in_rows) vs ≡ true → name_text a ++ us ≡ name_text b ++ vs
    → (a ≡ b) × (us ≡ vs)
names_apart a b us vs s t e =
    texts_apart is_plain in_rows names_readable a b us vs s t (ap (λ z. z ++ us) (sym (name_text-by a)) ∙ e ∙ ap (λ z. z ++ vs) (name_text-by b))
