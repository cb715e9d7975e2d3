-- The words behind `--` are files, and a fault where an option waits for its value.
use Rattle.std.proofs.Common.{◌≡◌, List, [], ◌∷◌, Bool, Option, Some, true, refl, ap, sym, ◌∙◌, subst, inl, inr}
use Rattle.clap.specs.Kinds.{Kinds}
use Rattle.clap.specs.Faults.{turn_fault, walk_fault}
use Rattle.clap.specs.Walk.{Row, Text, Waiting, positional, value, walked}
use Rattle.clap.specs.declared.error.kind.ErrorKind.TheVariants.{InvalidValue}
use Rattle.plai_words.specs.Given.{Given, nothing, both, file}
use Rattle.plai_words.specs.Options.{Key}
use Rattle.plai_words.specs.Line.{name_of, files_id}
use Rattle.plai_words.specs.Taken.{Taken, taken_given}
use Rattle.plai_words.proofs.Joins.{both_assoc, files, finish, nothing_more, option}
use Rattle.plai_words.proofs.Rows.{Holds}
use Rattle.plai_words.proofs.Options.{all_rules}
use Rattle.plai_words.proofs.Walks.{shape, held_at, walk_at, fault_left, Reads, left_nil, go_on, stop, Pend, pending_as, pend_given, fault_at, rows_at}
use Rattle.plai_words.proofs.Walks.{Settles, fault_is, settle, walked_is, turn_is, gathers, gather_fault}

-- ---- behind `--`

pub file_joins : (t u : Taken) (p : Pend) (word : Text) (rest : Option Given) → pend_given t p ≡ taken_given u
    → both (both (taken_given u) (Some (file word))) rest ≡ both (pend_given t p) (both (Some (file word)) rest)
file_joins t u p word rest e = both_assoc (taken_given u) (Some (file word)) rest ∙ ap (λ (g : Option Given). both g (both (Some (file word)) rest)) (sym e)

abbrev pub only_files : List Text → Option Given
only_files words = Some (record nothing { files = words })

pub at_end : (t : Taken) (rows : List Row) (p : Pend) (waiting : Waiting) (is_trailing : Bool) → Settles t rows p
    → Reads (walk_at rows (pending_as p) waiting is_trailing) [] (both (pend_given t p) (Some nothing))
unfolding walk_fault
at_end t rows p waiting is_trailing (inl s) = inl (s.0, (s.1.0, (s.1.1.0, ap finish (nothing_more (pend_given t p) ∙ s.1.1.1))))
at_end t rows p waiting is_trailing (inr s) = inr (s.0, s.1 (Some nothing))

pub behind_end : (words : List Text) (t : Taken) (rows : List Row) (p : Pend) (waiting : Waiting) → Holds t rows
    → Reads (walk_at rows (pending_as p) waiting true) words (both (pend_given t p) (only_files words))
behind_end [] t rows p waiting h = at_end t rows p waiting true (settle p t rows h)
behind_end (word ∷ words) t rows p waiting h = go (settle p t rows h)
    (λ u hu. behind_end words u (rows_at rows (pending_as p)) (Some (files, word)) positional hu)
  where
    turn : turn_fault shape [] (walk_at rows (pending_as p) waiting true) word ≡ fault_at rows (pending_as p)
    turn = turn_is rows (pending_as p) waiting true word (held_at rows (pending_as p), value) [] refl refl ∙ gather_fault rows (pending_as p) waiting true word

    next_walk : walked all_rules [] (walk_at rows (pending_as p) waiting true) word
        ≡ walk_at (rows_at rows (pending_as p)) (Some (files_id, word ∷ [])) positional true
    next_walk = walked_is rows (pending_as p) waiting true word (held_at rows (pending_as p), value) refl ∙ gathers rows (pending_as p) waiting true word

    go : Settles t rows p → ((u : Taken) → Holds u (rows_at rows (pending_as p))
        → Reads (walk_at (rows_at rows (pending_as p)) (Some (files_id, word ∷ [])) positional true) words
        (both (both (taken_given u) (Some (file word))) (only_files words)))
        → Reads (walk_at rows (pending_as p) waiting true) (word ∷ words) (both (pend_given t p) (only_files (word ∷ words)))
    go (inl s) before = go_on _ _ word words _ next_walk (turn ∙ s.0)
        (subst (λ (g : Option Given). Reads (walk_at (rows_at rows (pending_as p)) (Some (files_id, word ∷ [])) positional true) words g)
        (file_joins t s.1.0 p word (only_files words) s.1.1.1) (before s.1.0 s.1.1.0))
    go (inr s) before = stop _ word words _ (λ z. s.0 (sym turn ∙ z)) (s.1 (only_files (word ∷ words)))

-- ---- an option that waits for its value

pub no_value_fault : (key : Key) (rows : List Row) → fault_at rows (Some (name_of key, [])) ≡ InvalidValue ∷ []
no_value_fault key rows = fault_is (option key) [] rows

pub not_nil : (f : Kinds) → f ≡ InvalidValue ∷ [] → f ≡ [] → ⊥
not_nil f e z = let bad : InvalidValue ∷ [] ≡ [] = sym e ∙ z in cc

pub doomed : (words : List Text) (rows : List Row) (key : Key) (waiting : Waiting)
    → fault_left (walk_at rows (Some (name_of key, [])) waiting true) words ≡ [] → ⊥
unfolding walk_fault
doomed [] rows key waiting z = not_nil _ (no_value_fault key rows) z
doomed (word ∷ words) rows key waiting z =
    not_nil _ (turn_is rows (Some (name_of key, [])) waiting true word (held_at rows (Some (name_of key, [])), value) [] refl refl
    ∙ gather_fault rows (Some (name_of key, [])) waiting true word ∙ no_value_fault key rows) (left_nil _ _ (left_nil _ _ z))
