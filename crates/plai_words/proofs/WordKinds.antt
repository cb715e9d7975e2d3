-- What our definition and clap say of each kind of word before `--`.
use Rattle.std.proofs.Common.{◌≡◌, ◌⊎◌, List, [], ◌∷◌, ◌++◌, Bool, Option, None, Some, true, false, refl, ap, sym, ◌∙◌, subst, inl, inr}
use Rattle.std.specs.Prelude.{◌||◌, if◌then◌else◌}
use Rattle.std.specs.Str.{bytes_eq}
use Rattle.std.proofs.lemmas.Bool.{true≢false}
use Rattle.clap.specs.Lexer.{long_of}
use Rattle.clap.specs.Faults.{flag_word_fault, long_fault, turn_fault, word_fault}
use Rattle.clap.specs.Walk.{Held, Row, Rule, Step, Text, Waiting, after_flag, long_met, long_or_other, next, option as waits_for, trailing, walked, word_met}
use Rattle.plai_words.specs.Given.{Given, both, said, file, given}
use Rattle.plai_words.specs.Options.{Key, Domain, Depth, Rows, Make, attached, behind, has_bundle, is_bundle, is_dashed, is_end, is_option, named}
use Rattle.plai_words.specs.Numbers.{number, is_short_numeral}
use Rattle.plai_words.specs.Given.{domain_named}
use Rattle.plai_words.specs.Line.{name_of}
use Rattle.plai_words.specs.Taken.{Taken, taken_given}
use Rattle.plai_words.proofs.Rows.{Holds}
use Rattle.plai_words.proofs.Options.{all_rules, dashes, by_long}
use Rattle.plai_words.proofs.Shapes.{IsPlainWord, IsStray, dashed_option}
use Rattle.plai_words.proofs.Walks.{shape, Waits, held_at, walk_at, Reads, or_nil, Pend, pending_as, pend_given, waiting_at, fault_at, rows_at, met_is}
use Rattle.plai_words.proofs.Walks.{word_fault_is, walked_is, turn_is}
use Rattle.plai_words.proofs.BehindDashes.{only_files}

-- ---- the words before `--`

abbrev pub Open : List Text → Type 0
Open words = has_bundle words ≡ false → (t : Taken) (rows : List Row) (p : Pend) → Holds t rows
    → Reads (walk_at rows (pending_as p) (waiting_at p) false) words (both (pend_given t p) (given words None))

abbrev pub Awaits : List Text → Type 0
Awaits words = has_bundle words ≡ false → (t : Taken) (rows : List Row) (key : Key) → Holds t rows
    → Reads (walk_at rows (Some (name_of key, [])) (waits_for (name_of key)) false) words (both (taken_given t) (given words (Some key)))

or_right : (a b : Bool) → (a || b) ≡ false → b ≡ false
or_right true b h = absurd (true≢false h)
or_right false b h = h

pub clear_after : (word : Text) (words : List Text) → is_end word ≡ false → has_bundle (word ∷ words) ≡ false → has_bundle words ≡ false
unfolding has_bundle
clear_after word words e h = or_right (is_bundle word) (has_bundle words) (rw e at h)

pub no_short : (word : Text) (words : List Text) → is_bundle word ≡ true → is_end word ≡ false → has_bundle (word ∷ words) ≡ false → ⊥
unfolding has_bundle
no_short word words b e h = let bad : true ≡ false = rw (e, b) at h in true≢false bad

-- what our definition says of each kind of word

pub given_ends : (words : List Text) → given (dashes ∷ words) None ≡ only_files words
unfolding given is_end
given_ends words = refl

pub given_names : (key : Key) (words : List Text) → given ((45 ∷ 45 ∷ name_of key) ∷ words) None ≡ given words (Some key)
unfolding given is_end is_option is_dashed named
given_names Domain words = refl
given_names Depth words = refl
given_names Rows words = refl
given_names Make words = refl

pub given_stray : (word : Text) (words : List Text) → IsStray word → given (word ∷ words) None ≡ None
unfolding given
given_stray word words s = rw (s.no_end, s.option, s.unnamed, s.unattached) refl

pub given_plain : (word : Text) (words : List Text) → IsPlainWord word → given (word ∷ words) None ≡ both (Some (file word)) (given words None)
unfolding given
given_plain word words p = rw (p.no_end, p.no_option) refl

pub given_dashed : (word : Text) (words : List Text) (key : Key) → is_dashed word ≡ true → given (word ∷ words) (Some key) ≡ None
unfolding given
given_dashed word words key d = rw d refl

said_dash : (key : Key) → said key (45 ∷ []) ≡ None
unfolding domain_named number is_short_numeral
said_dash Domain = refl
said_dash Depth = refl
said_dash Rows = refl
said_dash Make = refl

pub given_value : (word : Text) (words : List Text) (key : Key) → (is_dashed word ≡ false) ⊎ (word ≡ 45 ∷ [])
    → given (word ∷ words) (Some key) ≡ both (said key word) (given words None)
unfolding given is_dashed
given_value word words key (inl d) = rw d refl
given_value word words key (inr e) =
    subst (λ (w : Text). given (w ∷ words) (Some key) ≡ both (said key w) (given words None)) (sym e)
    (ap (λ (g : Option Given). both g (given words None)) (sym (said_dash key)))

-- what clap makes of each kind of word

name_is_no_end : (key : Key) → bytes_eq (45 ∷ 45 ∷ name_of key) dashes ≡ false
name_is_no_end Domain = refl
name_is_no_end Depth = refl
name_is_no_end Rows = refl
name_is_no_end Make = refl

pub name_no_end : (key : Key) → is_end (45 ∷ 45 ∷ name_of key) ≡ false
unfolding is_end
name_no_end key = name_is_no_end key

long_name : (key : Key) → long_of (45 ∷ 45 ∷ name_of key) ≡ Some (name_of key, None)
long_name Domain = refl
long_name Depth = refl
long_name Rows = refl
long_name Make = refl

pub value_is_no_end : (key : Key) (v : Text) → bytes_eq (45 ∷ 45 ∷ (name_of key ++ 61 ∷ v)) dashes ≡ false
value_is_no_end Domain v = refl
value_is_no_end Depth v = refl
value_is_no_end Rows v = refl
value_is_no_end Make v = refl

pub value_no_end : (key : Key) (v : Text) → is_end (45 ∷ 45 ∷ (name_of key ++ 61 ∷ v)) ≡ false
unfolding is_end
value_no_end key v = value_is_no_end key v

pub long_value : (key : Key) (v : Text) → long_of (45 ∷ 45 ∷ (name_of key ++ 61 ∷ v)) ≡ Some (name_of key, Some v)
long_value Domain v = refl
long_value Depth v = refl
long_value Rows v = refl
long_value Make v = refl

value_option : (key : Key) (v : Text) → is_option (45 ∷ 45 ∷ (name_of key ++ 61 ∷ v)) ≡ true
value_option key v = dashed_option 45 (name_of key ++ 61 ∷ v)

value_unnamed : (key : Key) (v : Text) → named (45 ∷ 45 ∷ (name_of key ++ 61 ∷ v)) ≡ None
unfolding named
value_unnamed Domain v = refl
value_unnamed Depth v = refl
value_unnamed Rows v = refl
value_unnamed Make v = refl

value_attached : (key : Key) (v : Text) → attached (45 ∷ 45 ∷ (name_of key ++ 61 ∷ v)) ≡ Some (key, v)
unfolding attached behind
value_attached Domain v = refl
value_attached Depth v = refl
value_attached Rows v = refl
value_attached Make v = refl

pub given_gives : (key : Key) (v : Text) (words : List Text)
    → given ((45 ∷ 45 ∷ (name_of key ++ 61 ∷ v)) ∷ words) None ≡ both (said key v) (given words None)
unfolding given
given_gives key v words = rw (value_no_end key v, value_option key v, value_unnamed key v, value_attached key v) refl

-- a word that is not `--`, by what clap's lexer says of it
pub met_by : (waiting : Waiting) (word : Text) (h : Held) (o : Option (Text × Option Text)) → bytes_eq word dashes ≡ false → long_of word ≡ o
    → word_met all_rules [] false waiting 1 word h ≡ long_or_other all_rules waiting word o h
met_by waiting word h o n l =
    met_is waiting word h ∙ ap (λ (b : Bool). if b then (h, trailing 1) else long_or_other all_rules waiting word (long_of word) h) n
    ∙ ap (λ (x : Option (Text × Option Text)). long_or_other all_rules waiting word x h) l

pub fault_by : (waiting : Waiting) (word : Text) (h : Held) (o : Option (Text × Option Text)) → bytes_eq word dashes ≡ false → long_of word ≡ o
    → word_fault shape [] false waiting word h ≡ flag_word_fault all_rules false o word h
fault_by waiting word h o n l =
    word_fault_is waiting word h ∙ ap (λ (b : Bool). if b then [] else flag_word_fault all_rules false (long_of word) word h) n
    ∙ ap (λ (x : Option (Text × Option Text)). flag_word_fault all_rules false x word h) l

abbrev pub long_word_by : Waiting → Text → Option Text → Held → Option Rule → Held × Step
long_word_by waiting word v h a = after_flag all_rules waiting word (long_met all_rules a v h).0 (long_met all_rules a v h).1

module _ (rows : List Row) (pending : Waits) (waiting : Waiting) (key : Key) where
  abbrev pub name : Text
  name = 45 ∷ 45 ∷ name_of key

  name_met : word_met all_rules [] false waiting 1 name (held_at rows pending)
      ≡ (held_at (rows_at rows pending) (Some (name_of key, [])), next (waits_for (name_of key)))
  name_met = met_by waiting name (held_at rows pending) (Some (name_of key, None)) (name_is_no_end key) (long_name key)
      ∙ ap (λ (a : Option Rule). long_word_by waiting name None (held_at rows pending) a) (by_long key)

  pub name_walked : walked all_rules [] (walk_at rows pending waiting false) name
      ≡ walk_at (rows_at rows pending) (Some (name_of key, [])) (waits_for (name_of key)) false
  name_walked = walked_is rows pending waiting false name _ name_met

  pub name_turn : turn_fault shape [] (walk_at rows pending waiting false) name ≡ fault_at rows pending
  name_turn = turn_is rows pending waiting false name _ _ name_met
      (fault_by waiting name (held_at rows pending) (Some (name_of key, None)) (name_is_no_end key) (long_name key)
      ∙ ap (λ (a : Option Rule). long_fault all_rules false a None (held_at rows pending)) (by_long key))
      ∙ or_nil (fault_at rows pending)
