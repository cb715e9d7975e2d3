-- What clap makes of an option with its value, of a word that names nothing, and of a word that is no option.
use Rattle.std.proofs.Common.{◌≡◌, List, [], ◌∷◌, ◌++◌, Option, None, Some, false, refl, ap, sym, ◌∙◌}
use Rattle.std.specs.Prelude.{if◌then◌else◌, nat_lt}
use Rattle.std.specs.Option.{option_map_or}
use Rattle.clap.specs.Kinds.{or_else}
use Rattle.clap.specs.Faults.{bundle_fault, long_fault, turn_fault, use_fault, word_fault}
use Rattle.clap.specs.Walk.{Held, Row, Rule, Step, Text, Waiting, idle, next, option as waits_for, option_word, pending_count, plain_word, short_or_plain}
use Rattle.clap.specs.Walk.{used, value, walked, word_met}
use Rattle.clap.specs.declared.error.kind.ErrorKind.TheVariants.{UnknownArgument}
use Rattle.plai_words.specs.Options.{Key, Domain, Depth, Rows, Make}
use Rattle.plai_words.specs.Line.{name_of}
use Rattle.plai_words.proofs.Joins.{files, option}
use Rattle.plai_words.proofs.Rows.{taker}
use Rattle.plai_words.proofs.Options.{all_rules, by_id, by_long}
use Rattle.plai_words.proofs.Shapes.{IsPlainWord, IsStray}
use Rattle.plai_words.proofs.Walks.{Pend, Waits, fault_at, held_at, or_nil, rows_at, shape, turn_is, waiting_at, walk_at, walked_is}
use Rattle.plai_words.proofs.WordKinds.{fault_by, long_value, long_word_by, met_by, value_is_no_end}

-- ---- an option with its value

module _ (rows : List Row) (pending : Waits) (waiting : Waiting) (key : Key) (v : Text) where
  abbrev pub whole : Text
  whole = 45 ∷ 45 ∷ (name_of key ++ 61 ∷ v)

  abbrev pub rows_then : List Row
  rows_then = used (taker (name_of key)) (v ∷ []) (rows_at rows pending)

  value_met : word_met all_rules [] false waiting 1 whole (held_at rows pending) ≡ (held_at rows_then None, next idle)
  value_met = met_by waiting whole (held_at rows pending) (Some (name_of key, Some v)) (value_is_no_end key v) (long_value key v)
      ∙ ap (λ (a : Option Rule). long_word_by waiting whole (Some v) (held_at rows pending) a) (by_long key)

  pub value_walked : walked all_rules [] (walk_at rows pending waiting false) whole ≡ walk_at rows_then None idle false
  value_walked = walked_is rows pending waiting false whole _ value_met

  pub value_turn : turn_fault shape [] (walk_at rows pending waiting false) whole
      ≡ or_else (fault_at rows pending) (use_fault false (taker (name_of key)) (v ∷ []) (rows_at rows pending))
  value_turn = turn_is rows pending waiting false whole _ _ value_met
      (fault_by waiting whole (held_at rows pending) (Some (name_of key, Some v)) (value_is_no_end key v) (long_value key v)
      ∙ ap (λ (a : Option Rule). long_fault all_rules false a (Some v) (held_at rows pending)) (by_long key))
      ∙ or_nil (or_else (fault_at rows pending) (use_fault false (taker (name_of key)) (v ∷ []) (rows_at rows pending)))

-- ---- a word that names nothing

pub stray_turn : (rows : List Row) (pending : Waits) (waiting : Waiting) (word : Text) → IsStray word
    → turn_fault shape [] (walk_at rows pending waiting false) word ≡ [] → ⊥
stray_turn rows pending waiting word s z =
    let fault = fault_by waiting word (held_at rows pending) (Some s.whole) s.apart s.long
    ∙ ap (λ (a : Option Rule). long_fault all_rules false a s.whole.1 (held_at rows pending)) s.unknown in
    let turn = turn_is rows pending waiting false word (word_met all_rules [] false waiting 1 word (held_at rows pending)) (UnknownArgument ∷ []) refl fault in
    let bad : UnknownArgument ∷ [] ≡ [] = sym turn ∙ z in
    cc

-- ---- a word that is no option

pub plain_met : (rows : List Row) (pending : Waits) (waiting : Waiting) (word : Text) → IsPlainWord word
    → word_met all_rules [] false waiting 1 word (held_at rows pending) ≡ plain_word all_rules waiting word (held_at rows pending)
plain_met rows pending waiting word p =
    met_by waiting word (held_at rows pending) None p.apart p.long
    ∙ ap (λ (o : Option Text). short_or_plain all_rules waiting word o (held_at rows pending)) p.short

pub plain_fault : (rows : List Row) (pending : Waits) (waiting : Waiting) (word : Text) → IsPlainWord word
    → word_fault shape [] false waiting word (held_at rows pending) ≡ []
plain_fault rows pending waiting word p =
    fault_by waiting word (held_at rows pending) None p.apart p.long
    ∙ ap (λ (o : Option Text). option_map_or (λ flags. bundle_fault all_rules false flags (held_at rows pending)) o []) p.short

pub plain_at : (p : Pend) (word : Text) (h : Held) → plain_word all_rules (waiting_at p) word h ≡ (h, value)
plain_at None word h = refl
plain_at (Some (option key, v)) word h = refl
plain_at (Some (files, v)) word h = refl

counted : (key : Key) (word : Text)
    → (if nat_lt (pending_count (taker (name_of key)) (Some (name_of key, word ∷ []))) 1 then waits_for (name_of key) else idle) ≡ idle
counted Domain word = refl
counted Depth word = refl
counted Rows word = refl
counted Make word = refl

abbrev option_word_by : Text → Text → Held → Option Rule → Held × Step
option_word_by id word h a = ((option_word a id word h).0, next (option_word a id word h).1)

abbrev stepped : Held → Waiting → Held × Step
stepped h w = (h, next w)

pub plain_waits : (rows : List Row) (key : Key) (word : Text)
    → plain_word all_rules (waits_for (name_of key)) word (held_at rows (Some (name_of key, [])))
    ≡ (held_at rows (Some (name_of key, word ∷ [])), next idle)
plain_waits rows key word =
    ap (λ (a : Option Rule). option_word_by (name_of key) word (held_at rows (Some (name_of key, []))) a) (by_id (option key))
    ∙ ap (λ (w : Waiting). stepped (held_at rows (Some (name_of key, word ∷ []))) w) (counted key word)
