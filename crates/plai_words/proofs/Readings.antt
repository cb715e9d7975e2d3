-- Clap's reading of the words and ours agree.
use Rattle.std.proofs.Common.{◌≡◌, List, [], ◌∷◌, ◌++◌, Option, None, Some, true, false, refl, ap, ap₂, sym, ◌∙◌, subst, inl, inr}
use Rattle.clap.specs.Kinds.{Kinds, or_else}
use Rattle.clap.specs.Faults.{turn_fault, use_fault, walk_fault}
use Rattle.clap.specs.Walk.{Row, Text, Walk, option as waits_for, positional, used, value, walked, word_met}
use Rattle.plai_words.specs.Given.{Given, both, said, given}
use Rattle.plai_words.specs.Options.{Key, has_bundle, is_dashed}
use Rattle.plai_words.specs.Line.{name_of, files_id}
use Rattle.plai_words.specs.Taken.{Taken, taken_given}
use Rattle.plai_words.proofs.Joins.{both_assoc, files, finish, none_more, option}
use Rattle.plai_words.proofs.Rows.{Holds, taker}
use Rattle.plai_words.proofs.Options.{all_rules, dashes, option_dashed}
use Rattle.plai_words.proofs.Shapes.{IsPlainWord, IsStray, Word, ends, gives, names, plain, short, stray, word_of}
use Rattle.plai_words.proofs.Walks.{Reads, Settles, fault_at, fault_is, go_on, held_at, left_nil, met_is, gathers, gather_fault, pend_given, pending_as}
use Rattle.plai_words.proofs.Walks.{rows_at, rows_is, settle, settle_option, shape, stop, turn_is, waiting_at, walk_at, walked_is, word_fault_is}
use Rattle.plai_words.proofs.BehindDashes.{at_end, behind_end, doomed, file_joins, no_value_fault, not_nil}
use Rattle.plai_words.proofs.WordKinds.{Awaits, Open, clear_after, given_dashed, given_ends, given_gives, given_names, given_plain, given_stray, given_value}
use Rattle.plai_words.proofs.WordKinds.{name_no_end, name_turn, name_walked, no_short, value_no_end}
use Rattle.plai_words.proofs.Turns.{value_walked, value_turn, stray_turn, plain_met, plain_fault, plain_at, plain_waits}

right_nil : (a b : Kinds) → or_else a b ≡ [] → b ≡ []
right_nil [] b e = e
right_nil (k ∷ ks) b e = cc

along : (w : Walk) (words : List Text) (g h : Option Given) → g ≡ h → Reads w words g → Reads w words h
along w words g h e r = subst (λ (x : Option Given). Reads w words x) e r

-- ---- each kind of word, where no option waits

module _ (words : List Text) (before : Open words) (awaits : Awaits words) where
  open_ends : Open (dashes ∷ words)
  open_ends clear t rows p h =
      go_on _ _ dashes words _ (walked_is rows (pending_as p) (waiting_at p) false dashes _ (met_is (waiting_at p) dashes (held_at rows (pending_as p))))
      (turn_is rows (pending_as p) (waiting_at p) false dashes _ [] (met_is (waiting_at p) dashes (held_at rows (pending_as p)))
      (word_fault_is (waiting_at p) dashes (held_at rows (pending_as p))))
      (along _ words _ _ (ap (λ (g : Option Given). both (pend_given t p) g) (sym (given_ends words)))
      (behind_end words t rows p (waiting_at p) h))

  open_names : (key : Key) → Open ((45 ∷ 45 ∷ name_of key) ∷ words)
  open_names key clear t rows p h = go (settle p t rows h)
    where
      same : (u : Taken) → pend_given t p ≡ taken_given u
          → both (taken_given u) (given words (Some key)) ≡ both (pend_given t p) (given ((45 ∷ 45 ∷ name_of key) ∷ words) None)
      same u e = ap₂ both (sym e) (sym (given_names key words))

      turn : turn_fault shape [] (walk_at rows (pending_as p) (waiting_at p) false) (45 ∷ 45 ∷ name_of key) ≡ fault_at rows (pending_as p)
      turn = name_turn rows (pending_as p) (waiting_at p) key

      go : Settles t rows p → Reads (walk_at rows (pending_as p) (waiting_at p) false) ((45 ∷ 45 ∷ name_of key) ∷ words)
          (both (pend_given t p) (given ((45 ∷ 45 ∷ name_of key) ∷ words) None))
      go (inl s) = go_on _ _ (45 ∷ 45 ∷ name_of key) words _ (name_walked rows (pending_as p) (waiting_at p) key) (turn ∙ s.0)
          (along _ words _ _ (same s.1.0 s.1.1.1)
          (awaits (clear_after (45 ∷ 45 ∷ name_of key) words (name_no_end key) clear) s.1.0 (rows_at rows (pending_as p)) key s.1.1.0))
      go (inr s) = stop _ (45 ∷ 45 ∷ name_of key) words _ (λ z. s.0 (sym turn ∙ z)) (s.1 (given ((45 ∷ 45 ∷ name_of key) ∷ words) None))

  open_gives : (key : Key) (v : Text) → Open ((45 ∷ 45 ∷ (name_of key ++ 61 ∷ v)) ∷ words)
  open_gives key v clear t rows p h = first (settle p t rows h)
    where
      turn : turn_fault shape [] (walk_at rows (pending_as p) (waiting_at p) false) (45 ∷ 45 ∷ (name_of key ++ 61 ∷ v))
          ≡ or_else (fault_at rows (pending_as p)) (use_fault false (taker (name_of key)) (v ∷ []) (rows_at rows (pending_as p)))
      turn = value_turn rows (pending_as p) (waiting_at p) key v

      is : given ((45 ∷ 45 ∷ (name_of key ++ 61 ∷ v)) ∷ words) None ≡ both (said key v) (given words None)
      is = given_gives key v words

      joins : (u : Taken) → pend_given t p ≡ taken_given u
          → both (both (taken_given u) (said key v)) (given words None) ≡ both (pend_given t p) (given ((45 ∷ 45 ∷ (name_of key ++ 61 ∷ v)) ∷ words) None)
      joins u e = both_assoc (taken_given u) (said key v) (given words None) ∙ ap₂ both (sym e) (sym is)

      second : (u : Taken) → fault_at rows (pending_as p) ≡ [] → pend_given t p ≡ taken_given u
          → Settles u (rows_at rows (pending_as p)) (Some (option key, v))
          → Reads (walk_at rows (pending_as p) (waiting_at p) false) ((45 ∷ 45 ∷ (name_of key ++ 61 ∷ v)) ∷ words)
          (both (pend_given t p) (given ((45 ∷ 45 ∷ (name_of key ++ 61 ∷ v)) ∷ words) None))
      second u none e (inl s) =
          go_on _ _ (45 ∷ 45 ∷ (name_of key ++ 61 ∷ v)) words _ (value_walked rows (pending_as p) (waiting_at p) key v)
          (turn ∙ ap₂ or_else none (sym (fault_is (option key) (v ∷ []) (rows_at rows (pending_as p))) ∙ s.0))
          (along _ words _ _ (ap (λ (g : Option Given). both g (given words None)) (sym s.1.1.1) ∙ joins u e)
          (before (clear_after (45 ∷ 45 ∷ (name_of key ++ 61 ∷ v)) words (value_no_end key v) clear) s.1.0
          (used (taker (name_of key)) (v ∷ []) (rows_at rows (pending_as p))) None
          (subst (Holds s.1.0) (rows_is (option key) (v ∷ []) (rows_at rows (pending_as p))) s.1.1.0)))
      second u none e (inr s) =
          stop _ (45 ∷ 45 ∷ (name_of key ++ 61 ∷ v)) words _
          (λ z. s.0 (fault_is (option key) (v ∷ []) (rows_at rows (pending_as p)) ∙ right_nil _ _ (sym turn ∙ z)))
          (ap finish (sym (joins u e)) ∙ s.1 (given words None))

      first : Settles t rows p → Reads (walk_at rows (pending_as p) (waiting_at p) false) ((45 ∷ 45 ∷ (name_of key ++ 61 ∷ v)) ∷ words)
          (both (pend_given t p) (given ((45 ∷ 45 ∷ (name_of key ++ 61 ∷ v)) ∷ words) None))
      first (inl s) = second s.1.0 s.0 s.1.1.1 (settle_option key v s.1.0 (rows_at rows (pending_as p)) s.1.1.0)
      first (inr s) = stop _ (45 ∷ 45 ∷ (name_of key ++ 61 ∷ v)) words _ (λ z. s.0 (left_nil _ _ (sym turn ∙ z)))
          (s.1 (given ((45 ∷ 45 ∷ (name_of key ++ 61 ∷ v)) ∷ words) None))

  open_stray : (word : Text) → IsStray word → Open (word ∷ words)
  open_stray word s clear t rows p h = stop _ word words _ (stray_turn rows (pending_as p) (waiting_at p) word s)
      (ap (λ (g : Option Given). finish (both (pend_given t p) g)) (given_stray word words s) ∙ ap finish (none_more (pend_given t p)))

  open_plain : (word : Text) → IsPlainWord word → Open (word ∷ words)
  open_plain word q clear t rows p h = go (settle p t rows h)
    where
      met : word_met all_rules [] false (waiting_at p) 1 word (held_at rows (pending_as p)) ≡ (held_at rows (pending_as p), value)
      met = plain_met rows (pending_as p) (waiting_at p) word q ∙ plain_at p word (held_at rows (pending_as p))

      turn : turn_fault shape [] (walk_at rows (pending_as p) (waiting_at p) false) word ≡ fault_at rows (pending_as p)
      turn = turn_is rows (pending_as p) (waiting_at p) false word (held_at rows (pending_as p), value) [] met
          (plain_fault rows (pending_as p) (waiting_at p) word q) ∙ gather_fault rows (pending_as p) (waiting_at p) false word

      onward : walked all_rules [] (walk_at rows (pending_as p) (waiting_at p) false) word
          ≡ walk_at (rows_at rows (pending_as p)) (Some (files_id, word ∷ [])) positional false
      onward = walked_is rows (pending_as p) (waiting_at p) false word (held_at rows (pending_as p), value) met
          ∙ gathers rows (pending_as p) (waiting_at p) false word

      go : Settles t rows p → Reads (walk_at rows (pending_as p) (waiting_at p) false) (word ∷ words) (both (pend_given t p) (given (word ∷ words) None))
      go (inl s) = go_on _ _ word words _ onward (turn ∙ s.0)
          (along _ words _ _ (file_joins t s.1.0 p word (given words None) s.1.1.1
          ∙ ap (λ (g : Option Given). both (pend_given t p) g) (sym (given_plain word words q)))
          (before (clear_after word words q.no_end clear) s.1.0 (rows_at rows (pending_as p)) (Some (files, word)) s.1.1.0))
      go (inr s) = stop _ word words _ (λ z. s.0 (sym turn ∙ z)) (s.1 (given (word ∷ words) None))

  open_word : (word : Text) → Word word → Open (word ∷ words)
  open_word word (ends e) = subst (λ (w : Text). Open (w ∷ words)) (sym e) open_ends
  open_word word (names key e) = subst (λ (w : Text). Open (w ∷ words)) (sym e) (open_names key)
  open_word word (gives key v e) = subst (λ (w : Text). Open (w ∷ words)) (sym e) (open_gives key v)
  open_word word (stray s) = open_stray word s
  open_word word (short b e) = λ clear. absurd (no_short word words b e clear)
  open_word word (plain q) = open_plain word q

  -- ---- each kind of word, where an option waits for its value

  module _ (t : Taken) (rows : List Row) (key : Key) where
    abbrev here : Walk
    here = walk_at rows (Some (name_of key, [])) (waits_for (name_of key)) false

    never : (word : Text) → is_dashed word ≡ true → finish (both (taken_given t) (given (word ∷ words) (Some key))) ≡ None
    never word d = ap (λ (g : Option Given). finish (both (taken_given t) g)) (given_dashed word words key d) ∙ ap finish (none_more (taken_given t))

    await_ends : Reads here (dashes ∷ words) (both (taken_given t) (given (dashes ∷ words) (Some key)))
    unfolding is_dashed
    await_ends =
        go_on _ _ dashes words _
        (walked_is rows (Some (name_of key, [])) (waits_for (name_of key)) false dashes _
        (met_is (waits_for (name_of key)) dashes (held_at rows (Some (name_of key, [])))))
        (turn_is rows (Some (name_of key, [])) (waits_for (name_of key)) false dashes _ []
        (met_is (waits_for (name_of key)) dashes (held_at rows (Some (name_of key, []))))
        (word_fault_is (waits_for (name_of key)) dashes (held_at rows (Some (name_of key, [])))))
        (inr (doomed words rows key (waits_for (name_of key)), never dashes refl))

    await_names : (other : Key) → Reads here ((45 ∷ 45 ∷ name_of other) ∷ words) (both (taken_given t) (given ((45 ∷ 45 ∷ name_of other) ∷ words) (Some key)))
    unfolding is_dashed
    await_names other = stop _ (45 ∷ 45 ∷ name_of other) words _
        (not_nil _ (name_turn rows (Some (name_of key, [])) (waits_for (name_of key)) other ∙ no_value_fault key rows))
        (never (45 ∷ 45 ∷ name_of other) refl)

    await_gives : (other : Key) (v : Text)
        → Reads here ((45 ∷ 45 ∷ (name_of other ++ 61 ∷ v)) ∷ words) (both (taken_given t) (given ((45 ∷ 45 ∷ (name_of other ++ 61 ∷ v)) ∷ words) (Some key)))
    unfolding is_dashed
    await_gives other v = stop _ (45 ∷ 45 ∷ (name_of other ++ 61 ∷ v)) words _
        (λ z. not_nil _ (no_value_fault key rows) (left_nil _ _ (sym (value_turn rows (Some (name_of key, [])) (waits_for (name_of key)) other v) ∙ z)))
        (never (45 ∷ 45 ∷ (name_of other ++ 61 ∷ v)) refl)

    await_stray : (word : Text) → IsStray word → Reads here (word ∷ words) (both (taken_given t) (given (word ∷ words) (Some key)))
    await_stray word s = stop _ word words _ (stray_turn rows (Some (name_of key, [])) (waits_for (name_of key)) word s)
        (never word (option_dashed word s.option))

    await_plain : (word : Text) → IsPlainWord word → has_bundle (word ∷ words) ≡ false → Holds t rows
        → Reads here (word ∷ words) (both (taken_given t) (given (word ∷ words) (Some key)))
    await_plain word q clear h =
        let met = plain_met rows (Some (name_of key, [])) (waits_for (name_of key)) word q ∙ plain_waits rows key word in
        go_on _ _ word words _ (walked_is rows (Some (name_of key, [])) (waits_for (name_of key)) false word _ met)
        (turn_is rows (Some (name_of key, [])) (waits_for (name_of key)) false word _ [] met
        (plain_fault rows (Some (name_of key, [])) (waits_for (name_of key)) word q))
        (along _ words _ _ (both_assoc (taken_given t) (said key word) (given words None)
        ∙ ap (λ (g : Option Given). both (taken_given t) g) (sym (given_value word words key q.dashed)))
        (before (clear_after word words q.no_end clear) t rows (Some (option key, word)) h))

  await_word : (word : Text) → Word word → Awaits (word ∷ words)
  await_word word (ends e) = subst (λ (w : Text). Awaits (w ∷ words)) (sym e) (λ clear t rows key h. await_ends t rows key)
  await_word word (names other e) = subst (λ (w : Text). Awaits (w ∷ words)) (sym e) (λ clear t rows key h. await_names t rows key other)
  await_word word (gives other v e) = subst (λ (w : Text). Awaits (w ∷ words)) (sym e) (λ clear t rows key h. await_gives t rows key other v)
  await_word word (stray s) = λ clear t rows key h. await_stray t rows key word s
  await_word word (short b e) = λ clear. absurd (no_short word words b e clear)
  await_word word (plain q) = λ clear t rows key h. await_plain t rows key word q clear h

-- ---- all words

open_end : Open []
unfolding given
open_end clear t rows p h = at_end t rows p (waiting_at p) false (settle p t rows h)

await_end : Awaits []
unfolding given walk_fault
await_end clear t rows key h = inr (not_nil _ (no_value_fault key rows), ap finish (none_more (taken_given t)))

both_ways : (words : List Text) → Open words × Awaits words
both_ways [] = (open_end, await_end)
both_ways (word ∷ words) =
    let after = both_ways words in
    (open_word words after.0 after.1 word (word_of word), await_word words after.0 after.1 word (word_of word))

pub reads : (words : List Text) → Open words
reads words = (both_ways words).0
