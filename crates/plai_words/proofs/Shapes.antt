-- What clap's lexer and our definitions say of one word.
use Rattle.std.proofs.Common.{◌≡◌, ◌⊎◌, ℕ, [], ◌∷◌, ◌++◌, Bool, Option, None, Some, true, false, refl, ap, sym, ◌∙◌, subst, inl, inr, length, drop, arith}
use Rattle.std.specs.Prelude.{◌==◌, not, nat_eq}
use Rattle.std.specs.List.{starts_with, before_first}
use Rattle.std.specs.Str.{bytes_eq}
use Rattle.std.proofs.lemmas.Slice.Eq.{bytes_eq-Decides}
use Rattle.std.proofs.lemmas.Bool.{true≢false}
use borrow.Author.Tests.{eqb-true}
use Rattle.clap.specs.Lexer.{long_of, name_and_value, short_of}
use Rattle.clap.specs.Walk.{Text, arg_by_long}
use Rattle.plai_words.specs.Options.{Key, attached, behind, is_bundle, is_dashed, is_end, is_option, named}
use Rattle.plai_words.specs.Line.{name_of}
use Rattle.plai_words.proofs.Options.{all_rules, dashes, flip, both_true, starts_split, is_equals, arg_none, named_none, attached_none, some_key}
use Rattle.plai_words.proofs.Options.{joined_value, no_long}

pub record IsStray (w : Text) : Type 0 where
  pub whole : Text × Option Text
  pub long : long_of w ≡ Some whole
  pub unknown : arg_by_long all_rules whole.0 ≡ None
  pub apart : bytes_eq w dashes ≡ false
  pub no_end : is_end w ≡ false
  pub option : is_option w ≡ true
  pub unnamed : named w ≡ None
  pub unattached : attached w ≡ None

pub record IsPlainWord (w : Text) : Type 0 where
  pub apart : bytes_eq w dashes ≡ false
  pub no_end : is_end w ≡ false
  pub long : long_of w ≡ None
  pub short : short_of w ≡ None
  pub no_option : is_option w ≡ false
  pub dashed : (is_dashed w ≡ false) ⊎ (w ≡ 45 ∷ [])

-- the kinds of words
pub data Word (w : Text) : Type 0 where
  ends : w ≡ dashes → Word w
  names : (key : Key) → w ≡ 45 ∷ 45 ∷ name_of key → Word w
  gives : (key : Key) (v : Text) → w ≡ 45 ∷ 45 ∷ (name_of key ++ 61 ∷ v) → Word w
  stray : IsStray w → Word w
  short : is_bundle w ≡ true → is_end w ≡ false → Word w
  plain : IsPlainWord w → Word w

-- ---- a word's kind

pub dashed_option : (x : ℕ) (t : Text) → is_option (45 ∷ x ∷ t) ≡ true
unfolding is_option is_dashed
dashed_option x t = grind arith

stray_word : (x : ℕ) (t : Text) → ((key : Key) → bytes_eq (x ∷ t) (name_of key) ≡ false)
    → ((key : Key) → starts_with nat_eq (x ∷ t) (name_of key ++ 61 ∷ []) ≡ false) → IsStray (45 ∷ 45 ∷ x ∷ t)
unfolding is_end
stray_word x t n s = record {
  whole = name_and_value (x ∷ t);
  long = refl;
  unknown = arg_none (before_first is_equals (x ∷ t)) (λ key. no_long (x ∷ t) key (n key) (s key));
  apart = refl;
  no_end = refl;
  option = dashed_option 45 (x ∷ t);
  unnamed = named_none (x ∷ t) n;
  unattached = attached_none (x ∷ t) s;
}

long_word : (x : ℕ) (t : Text) → Word (45 ∷ 45 ∷ x ∷ t)
long_word x t = elim (some_key (λ key. bytes_eq (x ∷ t) (name_of key))) [
  | inl name ↦ names name.0 (ap (λ (y : Text). 45 ∷ 45 ∷ y) ((bytes_eq-Decides (x ∷ t) (name_of name.0)).0 name.1))
  | inr n ↦ elim (some_key (λ key. starts_with nat_eq (x ∷ t) (name_of key ++ 61 ∷ []))) [
    | inl value ↦
        let key = value.0 in
        let v = drop (length (name_of key ++ 61 ∷ [])) (x ∷ t) in
        gives key v (ap (λ (y : Text). 45 ∷ 45 ∷ y) (starts_split (name_of key ++ 61 ∷ []) (x ∷ t) value.1 ∙ joined_value key v))
    | inr s ↦ stray (stray_word x t n s)
  ]
]

plain_nil : IsPlainWord []
unfolding is_end is_option is_dashed
plain_nil = record { apart = refl; no_end = refl; long = refl; short = refl; no_option = refl; dashed = inl refl }

plain_dash : IsPlainWord (45 ∷ [])
unfolding is_end is_option is_dashed
plain_dash = record { apart = refl; no_end = refl; long = refl; short = refl; no_option = refl; dashed = inr refl }

plain_other : (x : ℕ) (t : Text) → (x == 45) ≡ false → IsPlainWord (x ∷ t)
unfolding is_end is_option is_dashed
plain_other x t e =
    let f : (45 == x) ≡ false = flip x 45 e in
    record {
      apart = rw e refl;
      no_end = rw e refl;
      long = rw e refl;
      short = rw e refl;
      no_option = rw f refl;
      dashed = inl (rw f refl);
    }

short_word : (y : ℕ) (t : Text) → (y == 45) ≡ false → Word (45 ∷ y ∷ t)
unfolding is_bundle is_end
short_word y t e = short (rw e refl) (rw e refl)

of_dash : (t : Text) → Word (45 ∷ t)
of_dash [] = plain plain_dash
of_dash (y ∷ t) = go (y == 45) refl
  where
    two : (t : Text) → Word (45 ∷ 45 ∷ t)
    two [] = ends refl
    two (x ∷ t) = long_word x t

    go : (b : Bool) → (y == 45) ≡ b → Word (45 ∷ y ∷ t)
    go false e = short_word y t e
    go true e = subst (λ (z : ℕ). Word (45 ∷ z ∷ t)) (sym (eqb-true y 45 e)) (two t)

pub word_of : (w : Text) → Word w
word_of [] = plain plain_nil
word_of (x ∷ t) = go (x == 45) refl
  where
    go : (b : Bool) → (x == 45) ≡ b → Word (x ∷ t)
    go false e = plain (plain_other x t e)
    go true e = subst (λ (z : ℕ). Word (z ∷ t)) (sym (eqb-true x 45 e)) (of_dash t)

-- ---- one dash with more behind it

pub record IsShort (w : Text) : Type 0 where
  pub no_end : is_end w ≡ false
  pub dashed : is_dashed w ≡ true
  pub option : is_option w ≡ true
  pub unnamed : named w ≡ None
  pub unattached : attached w ≡ None

short_parts : (y : ℕ) (t : Text) → (y == 45) ≡ false → IsShort (45 ∷ y ∷ t)
unfolding is_end is_dashed named attached behind
short_parts y t e =
    let f : (45 == y) ≡ false = flip y 45 e in
    record {
      no_end = rw e refl;
      dashed = refl;
      option = dashed_option y t;
      unnamed = rw e refl;
      unattached = rw f refl;
    }

negated : (b : Bool) → not b ≡ true → b ≡ false
negated true h = absurd (true≢false (sym h))
negated false h = refl

pub short_of_bundle : (w : Text) → is_bundle w ≡ true → IsShort w
unfolding is_bundle
short_of_bundle [] h = cc
short_of_bundle (x ∷ []) h = cc
short_of_bundle (x ∷ y ∷ t) h =
    let parts = both_true (x == 45) (not (y == 45)) h in
    subst (λ (z : ℕ). IsShort (z ∷ y ∷ t)) (sym (eqb-true x 45 parts.0)) (short_parts y t (negated (y == 45) parts.1))
