-- The settings of the words, by clap's promise on them.
use Rattle.std.proofs.Common.{◌≡◌, List, [], ◌∷◌, Bool, Option, None, Some, true, false, refl, ap, sym, ◌∙◌, subst, inl, inr}
use Rattle.std.specs.Prelude.{fold, is_some}
use Rattle.clap.specs.Kinds.{HasKind, IsAmong, Kinds, or_else}
use Rattle.clap.specs.Faults.{check_fault, defaults_fault, entered_fault, fault_of, is_simple_and_free, settle_fault, walk_fault}
use Rattle.clap.specs.Simple.{App, built, entered, is_simple, matches_of}
use Rattle.clap.specs.Walk.{Row, Rule, Text, Walk, finished, has_row, idle, settled, walk, with_default, nothing_held}
use Rattle.clap.specs.Values.{kind_of}
use Rattle.clap.specs.declared.error.Error.{Error}
use Rattle.clap.specs.declared.error.kind.ErrorKind.{ErrorKind}
use Rattle.clap.specs.declared.error.kind.ErrorKind.TheVariants.{OutOfMemory}
use Rattle.plai_words.specs.Given.{Given, both, file, given, option_said, said}
use Rattle.plai_words.specs.Options.{Key, Domain, Depth, Rows, Make, has_bundle, is_bundle, is_dashed, is_end, is_option, named, attached}
use Rattle.plai_words.specs.Command.{settings_of}
use Rattle.plai_words.specs.Line.{name_of, files_id, line}
use Rattle.plai_words.specs.Taken.{Taken, settings_in, taken_given}
use Rattle.plai_words.proofs.Joins.{finish, none_more, nothing_before}
use Rattle.plai_words.proofs.Rows.{Holds, files_held, first_held, gatherer, holds_none, taker, untaken}
use Rattle.plai_words.proofs.Shapes.{IsShort, short_of_bundle}
use Rattle.plai_words.proofs.Options.{all_rules}
use Rattle.plai_words.proofs.Walks.{Reads, end_of, fault_left, or_nil, rows_left, shape, walk_at}
use Rattle.plai_words.proofs.Readings.{reads}

-- ---- what comes after the walk

abbrev built_line : App
built_line = record { top = shape; subs = [] }

line_is : built line ≡ built_line
line_is = refl

untouched : (name : Text) (rows : List Row) → with_default rows (taker name) ≡ rows
untouched name rows = go (has_row name rows) refl
  where
    go : (b : Bool) → has_row name rows ≡ b → with_default rows (taker name) ≡ rows
    go true e = rw e refl
    go false e = rw e refl

untouched_files : (rows : List Row) → with_default rows gatherer ≡ rows
untouched_files rows = go (has_row files_id rows) refl
  where
    go : (b : Bool) → has_row files_id rows ≡ b → with_default rows gatherer ≡ rows
    go true e = rw e refl
    go false e = rw e refl

filled_rows : (rows : List Row) → fold with_default rows all_rules ≡ rows
filled_rows rows =
    untouched_files _ ∙ untouched (name_of Make) _ ∙ untouched (name_of Rows) _ ∙ untouched (name_of Depth) _ ∙ untouched (name_of Domain) rows

no_default : (name : Text) (rows : List Row) (rest : List Rule) → defaults_fault rows (taker name ∷ rest) ≡ defaults_fault rows rest
unfolding defaults_fault
no_default name rows rest = go (has_row name rows) refl
  where
    go : (b : Bool) → has_row name rows ≡ b → defaults_fault rows (taker name ∷ rest) ≡ defaults_fault rows rest
    go true e = rw e refl
    go false e = rw e refl

no_default_files : (rows : List Row) → defaults_fault rows (gatherer ∷ []) ≡ []
unfolding defaults_fault
no_default_files rows = go (has_row files_id rows) refl
  where
    go : (b : Bool) → has_row files_id rows ≡ b → defaults_fault rows (gatherer ∷ []) ≡ []
    go true e = rw e refl
    go false e = rw e refl

no_defaults : (rows : List Row) → defaults_fault rows all_rules ≡ []
no_defaults rows =
    no_default (name_of Domain) rows _ ∙ no_default (name_of Depth) rows _ ∙ no_default (name_of Rows) rows _
    ∙ no_default (name_of Make) rows _ ∙ no_default_files rows

no_entered : (stop : Option (Text × List Text)) → entered_fault built_line stop ≡ []
no_entered None = refl
no_entered (Some p) = refl

no_check : (rows : List Row) (has : Bool) → check_fault shape rows has ≡ []
no_check rows true = refl
no_check rows false = refl

abbrev start : Walk
start = walk_at [] None idle false

module _ (words : List Text) where
  abbrev stop : Option (Text × List Text)
  stop = (walk all_rules [] nothing_held words).stopped

  abbrev rows_then : List Row
  rows_then = (settled all_rules (walk all_rules [] nothing_held words).held).rows

  pub fault_is : fault_of line words ≡ fault_left start words
  fault_is =
      ap (λ (below : Kinds). or_else (walk_fault shape [] start words) (or_else below (or_else (settle_fault all_rules false (end_of start words))
      (or_else (defaults_fault rows_then all_rules)
      (check_fault shape (finished all_rules (end_of start words)) (is_some (entered built_line stop))))))) (no_entered stop)
      ∙ ap (λ (f : Kinds). or_else (walk_fault shape [] start words) (or_else (settle_fault all_rules false (end_of start words))
      (or_else f
      (check_fault shape (finished all_rules (end_of start words)) (is_some (entered built_line stop)))))) (no_defaults rows_then)
      ∙ ap (λ (f : Kinds). or_else (walk_fault shape [] start words) (or_else (settle_fault all_rules false (end_of start words)) f))
      (no_check (finished all_rules (end_of start words)) (is_some (entered built_line stop)))
      ∙ ap (or_else (walk_fault shape [] start words)) (or_nil (settle_fault all_rules false (end_of start words)))

  pub rows_are : matches_of line words ≡ rows_left start words
  rows_are = filled_rows rows_then

-- ---- the settings

same_texts : (t : Taken) (rows : List Row) → Holds t rows → settings_in rows ≡ finish (taken_given t)
unfolding settings_in
same_texts t rows h =
    rw (first_held t rows h Domain, first_held t rows h Depth, first_held t rows h Rows, first_held t rows h Make, files_held t rows h) refl

by_given : (words : List Text) → settings_of words ≡ finish (given words None)
unfolding settings_of
by_given words = refl

from_start : (words : List Text) → has_bundle words ≡ false → Reads start words (given words None)
from_start words clear =
    subst (λ (g : Option Given). Reads start words g) (nothing_before (given words None)) (reads words clear untaken [] None holds_none)

-- what clap takes comes to the settings of the words
pub accepted : (words : List Text) → has_bundle words ≡ false → fault_of line words ≡ []
    → settings_of words ≡ settings_in (matches_of line words)
accepted words clear none = elim (from_start words clear) [
  | inl h ↦
      by_given words ∙ h.1.1.1 ∙ sym (same_texts h.1.0 (matches_of line words) (subst (Holds h.1.0) (sym (rows_are words)) h.1.1.0))
  | inr h ↦ absurd (h.0 (sym (fault_is words) ∙ none))
]

-- what clap refuses is no command
pub refused : (words : List Text) → has_bundle words ≡ false → (fault_of line words ≡ [] → ⊥) → settings_of words ≡ None
refused words clear some = elim (from_start words clear) [
  | inl h ↦ absurd (some (fault_is words ∙ h.0))
  | inr h ↦ by_given words ∙ h.1
]

-- ---- words of one dash with more behind it

option_none : (o : Option Key) (a : Option (Key × Text)) (after : Option Key → Option Given) → after None ≡ None
    → ((key : Key) → after (Some key) ≡ None) → option_said o a after ≡ None
option_none (Some key) a after n h = h key
option_none None (Some p) after n h = ap (both (said p.0 p.1)) n ∙ none_more (said p.0 p.1)
option_none None None after n h = refl

abbrev IsNothing : List Text → Type 0
IsNothing words = (given words None ≡ None) × ((key : Key) → given words (Some key) ≡ None)

at_short : (word : Text) (rest : List Text) → IsShort word → IsNothing (word ∷ rest)
unfolding given
at_short word rest s = (rw (s.no_end, s.option, s.unnamed, s.unattached) refl, λ key. rw s.dashed refl)

at_other : (word : Text) (rest : List Text) → is_end word ≡ false → IsNothing rest → IsNothing (word ∷ rest)
unfolding given
at_other word rest e h = (open_is (is_option word) refl, λ key. waits_is key (is_dashed word) refl)
  where
    open_is : (b : Bool) → is_option word ≡ b → given (word ∷ rest) None ≡ None
    open_is true o = rw (e, o) (option_none (named word) (attached word) (given rest) h.0 h.1)
    open_is false o = rw (e, o) (ap (both (Some (file word))) h.0)

    waits_is : (key : Key) (b : Bool) → is_dashed word ≡ b → given (word ∷ rest) (Some key) ≡ None
    waits_is key true d = rw d refl
    waits_is key false d = rw d (ap (both (said key word)) h.0 ∙ none_more (said key word))

nothing_said : (words : List Text) → has_bundle words ≡ true → IsNothing words
unfolding has_bundle
nothing_said [] h = cc
nothing_said (word ∷ rest) h = go (is_end word) refl (is_bundle word) refl (λ k. nothing_said rest k)
  where
    go : (a : Bool) → is_end word ≡ a → (b : Bool) → is_bundle word ≡ b → (has_bundle rest ≡ true → IsNothing rest) → IsNothing (word ∷ rest)
    go true e b s before = let bad : false ≡ true = rw e at h in cc
    go false e true s before = at_short word rest (short_of_bundle word s)
    go false e false s before = at_other word rest e (before (rw (e, s) at h))

-- a word of one dash with more behind it, before `--`: no command
pub bundled : (words : List Text) → has_bundle words ≡ true → settings_of words ≡ None
bundled words h = by_given words ∙ ap finish (nothing_said words h).0

-- ---- clap's answers

pub is_simple_line : is_simple_and_free line ≡ true
is_simple_line = refl

among_some : (k : ErrorKind) (kinds : Kinds) → IsAmong k kinds → kinds ≡ [] → ⊥
among_some k [] a z = a
among_some k (x ∷ xs) a z = cc

-- at `Ok`
pub taken_words : (a : App) (words : List Text) (rows : List Row) → a ≡ line → has_bundle words ≡ false
    → (is_simple_and_free a ≡ true → fault_of a words ≡ []) → (is_simple a ≡ true → rows ≡ matches_of a words)
    → settings_of words ≡ settings_in rows
taken_words a words rows e clear none is =
    let Q : App → Type 0 = λ b. (is_simple_and_free b ≡ true → fault_of b words ≡ []) in
    let R : App → Type 0 = λ b. (is_simple b ≡ true → rows ≡ matches_of b words) in
    accepted words clear (subst Q e none refl) ∙ ap settings_in (sym (subst R e is refl))

-- at `Err`, of another kind than want of memory
pub refused_words : (a : App) (words : List Text) (k : ErrorKind) (e : Error) → k ≡ kind_of e → a ≡ line → has_bundle words ≡ false
    → (is_simple_and_free a ≡ true → HasKind (fault_of a words) e) → (k ≡ OutOfMemory → ⊥) → settings_of words ≡ None
refused_words a words k e is same clear fails known =
    let Q : App → Type 0 = λ b. (is_simple_and_free b ≡ true → HasKind (fault_of b words) e) in
    elim (subst Q same fails refl) [
      | inl m ↦ absurd (known (is ∙ m))
      | inr among ↦ refused words clear (among_some (kind_of e) (fault_of line words) among)
    ]
