-- What read files and a read script say.
use Rattle.std.proofs.Common.{All, ◌≡◌, ℕ, ◌+◌, ◌<◌, ◌≤◌, List, [], ◌∷◌, ◌++◌, None, Some, IfSome, length, map, take, get_or, refl, sym, ap, ◌∙◌, subst}
use Rattle.std.specs.declared.option.Option.{Option}
use Rattle.std.proofs.lemmas.List.{map-append, take_more, take_all}
use Rattle.std.proofs.lemmas.List.Elements.{All-push, All-nil}
use Rattle.plai_base.specs.Texts.{TextMap, text_of, longest_text}
use Rattle.plai_modules.specs.declared.named_text.NamedText.{NamedText}
use Rattle.plai_top.specs.Files.{texts_of, AreShort, IsSomeLong}

-- ---- the text of a file

-- what was appended to nothing is the text of the name
pub text_read : (files : Option TextMap) (name old new text : List ℕ) → IfSome files (λ told. new ≡ old ++ text_of told name) → old ≡ [] → text ≡ new
    → IfSome files (λ told. text ≡ text_of told name)
text_read None name old new text appended none same = tt
text_read (Some told) name old new text appended none same = same ∙ appended ∙ ap (λ xs. xs ++ text_of told name) none

-- ---- files

-- the files of these names, so far
pub record AreRead (names : List (List ℕ)) (told : Option TextMap) (files : List NamedText) : Type 0 where
  pub named : map (λ f. f.name) files ≡ names
  pub are_texts : IfSome told (λ library. map (λ f. f.text) files ≡ texts_of library names)
  pub short : All (λ f. length f.text ≤ longest_text) files
  pub told_short : IfSome told (λ library. AreShort library names)

pub none_read : (told : Option TextMap) → AreRead [] told []
none_read None = record { named = refl; are_texts = tt; short = All-nil (λ f. length f.text ≤ longest_text); told_short = tt }
none_read (Some library) = record {
  named = refl;
  are_texts = refl;
  short = All-nil (λ f. length f.text ≤ longest_text);
  told_short = All-nil (λ name. length (text_of library name) ≤ longest_text);
}

module _ (names : List (List ℕ)) (files : List NamedText) (file : NamedText) (is_short : length file.text ≤ longest_text) where
  texts_more : (told : Option TextMap) → IfSome told (λ library. map (λ f. f.text) files ≡ texts_of library names)
      → IfSome told (λ library. file.text ≡ text_of library file.name)
      → IfSome told (λ library. map (λ f. f.text) (files ++ file ∷ []) ≡ texts_of library (names ++ file.name ∷ []))
  texts_more None before is = tt
  texts_more (Some library) before is =
      map-append (λ f. f.text) files (file ∷ []) ∙ ap (λ xs. xs ++ file.text ∷ []) before ∙ ap (λ x. texts_of library names ++ x ∷ []) is
      ∙ sym (map-append (text_of library) names (file.name ∷ []))

  short_more : (told : Option TextMap) → IfSome told (λ library. AreShort library names) → IfSome told (λ library. file.text ≡ text_of library file.name)
      → IfSome told (λ library. AreShort library (names ++ file.name ∷ []))
  short_more None before is = tt
  short_more (Some library) before is =
      All-push (λ name. length (text_of library name) ≤ longest_text) names file.name before (subst (λ text. length text ≤ longest_text) is is_short)

  one_more : (told : Option TextMap) → AreRead names told files → IfSome told (λ library. file.text ≡ text_of library file.name)
      → AreRead (names ++ file.name ∷ []) told (files ++ file ∷ [])
  one_more told before is = record {
    named = map-append (λ f. f.name) files (file ∷ []) ∙ ap (λ xs. xs ++ file.name ∷ []) before.named;
    are_texts = texts_more told before.are_texts is;
    short = All-push (λ f. length f.text ≤ longest_text) files file before.short is_short;
    told_short = short_more told before.told_short is;
  }

read_more : (names : List (List ℕ)) (i : ℕ) (name : List ℕ) (told : Option TextMap) (files : List NamedText) (file : NamedText)
    → AreRead (take i names) told files → i < length names → name ≡ get_or names i name → file.name ≡ name
    → IfSome told (λ library. file.text ≡ text_of library name) → length file.text ≤ longest_text
    → AreRead (take (i + 1) names) told (files ++ file ∷ [])
read_more names i name told files file before below is named text short =
    let own : IfSome told (λ library. file.text ≡ text_of library file.name) =
    subst (λ n. IfSome told (λ library. file.text ≡ text_of library n)) (sym named) text in
    let next : take (i + 1) names ≡ take i names ++ file.name ∷ [] = take_more names i name below ∙ ap (λ x. take i names ++ x ∷ []) (sym is ∙ sym named) in
    subst (λ ns. AreRead ns told (files ++ file ∷ [])) (sym next) (one_more (take i names) files file short told before own)

-- the same, where the library tells what it told
pub read_next : (names : List (List ℕ)) (i : ℕ) (name : List ℕ) (told now : Option TextMap) (files more : List NamedText) (file : NamedText)
    → AreRead (take i names) told files → i < length names → name ≡ get_or names i name → file.name ≡ name
    → IfSome now (λ library. file.text ≡ text_of library name) → now ≡ told → length file.text ≤ longest_text → more ≡ files ++ file ∷ []
    → AreRead (take (i + 1) names) told more
read_next names i name told now files more file before below is named text same short pushed =
    let own : IfSome told (λ library. file.text ≡ text_of library name) = subst (λ o. IfSome o (λ library. file.text ≡ text_of library name)) same text in
    subst (AreRead (take (i + 1) names) told) (sym pushed) (read_more names i name told files file before below is named own short)

pub read_at_end : (names : List (List ℕ)) (i : ℕ) (told : Option TextMap) (files : List NamedText) → AreRead (take i names) told files → length names ≤ i
    → AreRead names told files
read_at_end names i told files so l = subst (λ ns. AreRead ns told files) (take_all i names l) so

-- a file that is too long
pub long_at : (names : List (List ℕ)) (i : ℕ) (name : List ℕ) (told : Option TextMap) → i < length names → name ≡ get_or names i name
    → IfSome told (λ library. longest_text < length (text_of library name)) → IfSome told (λ library. IsSomeLong library names)
long_at names i name None below is long = tt
long_at names i name (Some library) below is long =
    (i, name, below, sym is, long)
