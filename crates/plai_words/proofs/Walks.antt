-- What clap's walk makes of one word, and of a value that waits to be used.
use Rattle.std.proofs.Common.{◌≡◌, ◌⊎◌, List, [], ◌∷◌, Bool, Option, None, Some, true, false, refl, ap, ap₂, sym, ◌∙◌, subst, inl, inr}
use Rattle.std.specs.Prelude.{◌&&◌, ◌||◌, codes, fold, is_some, option_map, if◌then◌else◌}
use Rattle.std.specs.Option.{option_map_or}
use Rattle.std.specs.Str.{bytes_eq}
use Rattle.clap.specs.Lexer.{long_of}
use Rattle.clap.specs.Kinds.{Kinds, or_else}
use Rattle.clap.specs.Faults.{flag_word_fault, other_fault, settle_fault, step_fault, turn_fault, use_fault, walk_fault, word_fault}
use Rattle.clap.specs.Simple.{Shape, new_shape}
use Rattle.clap.specs.Walk.{Held, Row, Rule, Step, Text, Waiting, Walk, after_step, has_row, idle, is_pending, long_or_other, option as waits_for, positional}
use Rattle.clap.specs.Walk.{pushed, settled, settled_rows, subcommand_met, subcommand_or_other, trailing, used, used_by_id, value, walked, word_met}
use Rattle.clap.specs.Walk.{arg_by_index, to_positional}
use Rattle.clap.specs.declared.error.kind.ErrorKind.TheVariants.{ArgumentConflict}
use Rattle.plai_words.specs.Given.{Given, both}
use Rattle.plai_words.specs.Options.{Key}
use Rattle.plai_words.specs.Line.{name_of, files_id}
use Rattle.plai_words.specs.Taken.{Taken, taken_given}
use Rattle.plai_words.proofs.Joins.{IsNever, Slot, add, added_file, added_option, files, finish, option, slot_said, twice}
use Rattle.plai_words.proofs.Rows.{Holds, gatherer, has_row_is, holds_file, holds_option, id_of, rule_at, taker}
use Rattle.plai_words.proofs.Options.{all_rules, dashes, by_id}

abbrev pub shape : Shape
shape = record (new_shape (codes "plai")) {
  no_binary_name = true;
  disable_help_flag = true;
  disable_help_subcommand = true;
  is_built = true;
  rules = all_rules;
}

abbrev pub Waits : Type 0
Waits = Option (Text × List Text)

abbrev pub held_at : List Row → Waits → Held
held_at rows pending = record { rows = rows; pending = pending; skip = 0 }

abbrev pub walk_at : List Row → Waits → Waiting → Bool → Walk
walk_at rows pending waiting is_trailing = record {
  held = held_at rows pending;
  waiting = waiting;
  position = 1;
  is_trailing = is_trailing;
  stopped = None;
}

-- ---- what is left of the words

abbrev pub end_of : Walk → List Text → Held
end_of w words = (fold (walked all_rules []) w words).held

abbrev pub fault_left : Walk → List Text → Kinds
fault_left w words = or_else (walk_fault shape [] w words) (settle_fault all_rules false (end_of w words))

abbrev pub rows_left : Walk → List Text → List Row
rows_left w words = (settled all_rules (end_of w words)).rows

-- either clap takes the words and its rows say what the words say, or it refuses them and they form no command
abbrev pub Agrees : Kinds → List Row → Option Given → Type 0
Agrees fault rows g =
    ((fault ≡ []) × ((t : Taken) × (Holds t rows × (finish g ≡ finish (taken_given t)))))
    ⊎ ((fault ≡ [] → ⊥) × (finish g ≡ None))

abbrev pub Reads : Walk → List Text → Option Given → Type 0
Reads w words g = Agrees (fault_left w words) (rows_left w words) g

pub left_nil : (a b : Kinds) → or_else a b ≡ [] → a ≡ []
left_nil [] b e = refl
left_nil (k ∷ ks) b e = e

pub go_on : (w after : Walk) (word : Text) (words : List Text) (g : Option Given) → walked all_rules [] w word ≡ after
    → turn_fault shape [] w word ≡ [] → Reads after words g → Reads w (word ∷ words) g
unfolding walk_fault
go_on w after word words g is none reads =
    let P : Walk → Kinds → Type 0 = λ x f.
    Agrees (or_else (or_else f (walk_fault shape [] x words)) (settle_fault all_rules false (end_of x words))) (rows_left x words) g in
    subst (λ x. P x (turn_fault shape [] w word)) (sym is) (subst (λ f. P after f) (sym none) reads)

pub stop : (w : Walk) (word : Text) (words : List Text) (g : Option Given) → (turn_fault shape [] w word ≡ [] → ⊥)
    → finish g ≡ None → Reads w (word ∷ words) g
unfolding walk_fault
stop w word words g fails e = inr ((λ z. fails (left_nil _ _ (left_nil _ _ z))), e)

pub or_nil : (a : Kinds) → or_else a [] ≡ a
or_nil [] = refl
or_nil (k ∷ ks) = refl

-- ---- a value that waits to be used

abbrev pub Pend : Type 0
Pend = Option (Slot × Text)

abbrev pub pending_as : Pend → Waits
pending_as None = None
pending_as (Some q) = Some (id_of q.0, q.1 ∷ [])

abbrev pub pend_given : Taken → Pend → Option Given
pend_given t None = taken_given t
pend_given t (Some q) = both (taken_given t) (slot_said q.0 q.1)

abbrev pub slot_waiting : Slot → Waiting
slot_waiting (option key) = idle
slot_waiting files = positional

abbrev pub waiting_at : Pend → Waiting
waiting_at None = idle
waiting_at (Some q) = slot_waiting q.0

abbrev pub fault_at : List Row → Waits → Kinds
fault_at rows pending = settle_fault all_rules false (held_at rows pending)

abbrev pub rows_at : List Row → Waits → List Row
rows_at rows pending = settled_rows all_rules pending rows

abbrev pub Settles : Taken → List Row → Pend → Type 0
Settles t rows p =
    ((fault_at rows (pending_as p) ≡ []) × ((u : Taken) × (Holds u (rows_at rows (pending_as p)) × (pend_given t p ≡ taken_given u))))
    ⊎ ((fault_at rows (pending_as p) ≡ [] → ⊥) × IsNever (pend_given t p))

pub fault_is : (s : Slot) (vs : List Text) (rows : List Row) → fault_at rows (Some (id_of s, vs)) ≡ use_fault false (rule_at s) vs rows
fault_is s vs rows = ap (λ (o : Option Rule). option_map_or (λ a. use_fault false a vs rows) o []) (by_id s)

pub rows_is : (s : Slot) (vs : List Text) (rows : List Row) → rows_at rows (Some (id_of s, vs)) ≡ used (rule_at s) vs rows
rows_is s vs rows = ap (λ (o : Option Rule). used_by_id o vs rows) (by_id s)

use_free : (name v : Text) (rows : List Row) → has_row name rows ≡ false → use_fault false (taker name) (v ∷ []) rows ≡ []
use_free name v rows h = rw h refl

use_again : (name v : Text) (rows : List Row) → has_row name rows ≡ true → use_fault false (taker name) (v ∷ []) rows ≡ ArgumentConflict ∷ []
use_again name v rows h = rw h refl

some_map : {X Y : Type 0} (f : X → Y) (o : Option X) → is_some (option_map f o) ≡ is_some o
some_map f None = refl
some_map f (Some x) = refl

has_value : (key : Key) (t : Taken) (rows : List Row) → Holds t rows → has_row (name_of key) rows ≡ is_some (t.values key)
has_value key t rows h = has_row_is (name_of key) rows ∙ ap is_some (h (option key)) ∙ some_map _ (t.values key)

pub settle_option : (key : Key) (v : Text) (t : Taken) (rows : List Row) → Holds t rows → Settles t rows (Some (option key, v))
settle_option key v t rows h = go (t.values key) refl
  where
    go : (o : Option Text) → t.values key ≡ o → Settles t rows (Some (option key, v))
    go None e = inl (
      fault_is (option key) (v ∷ []) rows ∙ use_free (name_of key) v rows (has_value key t rows h ∙ ap is_some e),
      (
        add (option key) v t,
        (
          subst (Holds (add (option key) v t)) (sym (rows_is (option key) (v ∷ []) rows)) (holds_option key v t rows h e),
          sym (added_option key v t e),
        ),
      ),
    )
    go (Some u) e = inr (
      (λ z. let bad : ArgumentConflict ∷ [] ≡ [] =
          sym (fault_is (option key) (v ∷ []) rows ∙ use_again (name_of key) v rows (has_value key t rows h ∙ ap is_some e)) ∙ z in cc),
      twice key v u t e,
    )

pub settle : (p : Pend) (t : Taken) (rows : List Row) → Holds t rows → Settles t rows p
settle None t rows h = inl (refl, (t, (h, refl)))
settle (Some (option key, v)) t rows h = settle_option key v t rows h
settle (Some (files, v)) t rows h = inl (refl, (add files v t, (holds_file v t rows h, sym (added_file v t))))

-- ---- one word

skip : {X : Type 0} (b : Bool) (x y : X) → (if (b && false) then x else y) ≡ y
skip true x y = refl
skip false x y = refl

no_subcommand : (waiting : Waiting) (word : Text) → subcommand_met [] waiting word ≡ None
no_subcommand idle word = refl
no_subcommand (waits_for id) word = refl
no_subcommand positional word = refl

pub met_is : (waiting : Waiting) (word : Text) (h : Held) → word_met all_rules [] false waiting 1 word h
    ≡ (if bytes_eq word dashes then (h, trailing 1) else long_or_other all_rules waiting word (long_of word) h)
met_is waiting word h = ap (λ (o : Option Text). subcommand_or_other all_rules o waiting 1 word h) (no_subcommand waiting word)

pub word_fault_is : (waiting : Waiting) (word : Text) (h : Held) → word_fault shape [] false waiting word h
    ≡ (if bytes_eq word dashes then [] else flag_word_fault all_rules false (long_of word) word h)
word_fault_is waiting word h = ap (λ (o : Option Text). other_fault shape o word h) (no_subcommand waiting word)

abbrev pub gathered : Bool → Held → Walk
gathered is_trailing h = record { held = h; waiting = positional; position = 1; is_trailing = is_trailing || false; stopped = None }

module _ (rows : List Row) (pending : Waits) (waiting : Waiting) (is_trailing : Bool) (word : Text) where
  abbrev pub here : Walk
  here = walk_at rows pending waiting is_trailing

  pub walked_is : (met : Held × Step) → word_met all_rules [] is_trailing waiting 1 word (held_at rows pending) ≡ met
      → walked all_rules [] here word ≡ after_step all_rules word here met.0 met.1
  unfolding walked
  walked_is met e = ap (λ (m : Held × Step). after_step all_rules word here m.0 m.1) e

  pub turn_is : (met : Held × Step) (f : Kinds) → word_met all_rules [] is_trailing waiting 1 word (held_at rows pending) ≡ met
      → word_fault shape [] is_trailing waiting word (held_at rows pending) ≡ f
      → turn_fault shape [] here word ≡ or_else f (step_fault shape 1 met.0 met.1)
  turn_is met f e h = ap₂ (λ (g : Kinds) (m : Held × Step). or_else g (step_fault shape 1 m.0 m.1)) h e

  pub gathers : to_positional all_rules (arg_by_index all_rules 1) word here (held_at rows pending)
      ≡ walk_at (rows_at rows pending) (Some (files_id, word ∷ [])) positional (is_trailing || false)
  gathers = ap (λ (h : Held). gathered is_trailing (pushed files_id word h))
      (skip (is_pending gatherer pending) (held_at rows pending) (settled all_rules (held_at rows pending)))

  pub gather_fault : step_fault shape 1 (held_at rows pending) value ≡ fault_at rows pending
  gather_fault = skip (is_pending gatherer pending) [] (fault_at rows pending)
