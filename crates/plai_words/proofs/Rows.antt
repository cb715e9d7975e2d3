-- The rows of clap's matches, by the texts that were taken.
use Rattle.std.proofs.Common.{◌≡◌, ◌⊎◌, List, [], ◌∷◌, ◌++◌, Bool, cond, Option, None, Some, true, false, refl, ap, sym, ◌∙◌, subst, inl, inr}
use Rattle.std.specs.Prelude.{option_map, find, unwrap_or, option_and_then, slice_get, is_some}
use Rattle.std.specs.Str.{bytes_eq}
use Rattle.std.proofs.lemmas.Slice.Eq.{bytes_eq-Decides}
use Rattle.clap.specs.Walk.{Row, Rule, Text, all_of, first_of, has_row, stronger, used, with_values, without}
use Rattle.clap.specs.Simple.{new_rule}
use Rattle.clap.specs.declared.builder.action.ArgAction.TheVariants.{Append, Set}
use Rattle.clap.specs.declared.builder.value_parser.Reading.TheVariants.{AsWritten}
use Rattle.clap.specs.declared.builder.value_parser.ValueParser.TheVariants as vp
use Rattle.clap.specs.declared.parser.matches.ValueSource.TheVariants.{CommandLine}
use Rattle.plai_words.specs.Options.{Key, Domain, Depth, Rows, Make}
use Rattle.plai_words.specs.Line.{name_of, files_id}
use Rattle.plai_words.specs.Taken.{Taken}
use Rattle.plai_words.proofs.Joins.{Slot, option, files, put, add}

-- ---- the rules, filled in

abbrev pub taker : Text → Rule
taker name = record (new_rule name) {
  long = Some name;
  action = Some Set;
  range = Some (record { start_inclusive = 1; end_inclusive = 1 });
  parser = Some vp.String;
}

abbrev pub gatherer : Rule
gatherer = record (new_rule files_id) {
  index = Some 1;
  action = Some Append;
  range = Some (record { start_inclusive = 1; end_inclusive = 1 });
  parser = Some vp.String;
}

abbrev pub id_of : Slot → Text
id_of (option key) = name_of key
id_of files = files_id

abbrev pub rule_at : Slot → Rule
rule_at (option key) = taker (name_of key)
rule_at files = gatherer

-- ---- searches for a row

abbrev pub find_row : Text → List Row → Option Row
find_row id rows = find (λ r. bytes_eq r.id id) rows

abbrev row : Text → List Text → Row
row id values = record { id = id; values = values; count = None; source = Some CommandLine; reading = AsWritten }

bytes_same : (id : Text) → bytes_eq id id ≡ true
bytes_same id = (bytes_eq-Decides id id).1 refl

bytes_apart : (id other x : Text) → bytes_eq id other ≡ false → bytes_eq x id ≡ true → bytes_eq x other ≡ false
bytes_apart id other x d e =
    let same : x ≡ id = (bytes_eq-Decides x id).0 e in
    subst (λ (y : Text). bytes_eq y other ≡ false) (sym same) d

pub has_row_is : (id : Text) (rows : List Row) → has_row id rows ≡ is_some (find_row id rows)
has_row_is id [] = refl
has_row_is id (r ∷ rs) = go (bytes_eq r.id id) refl (has_row_is id rs)
  where
    go : (b : Bool) → bytes_eq r.id id ≡ b → has_row id rs ≡ is_some (find_row id rs) → has_row id (r ∷ rs) ≡ is_some (find_row id (r ∷ rs))
    go true e before = rw e refl
    go false e before = rw e before

without_none : (id : Text) (rows : List Row) → find_row id rows ≡ None → without id rows ≡ rows
without_none id [] e = refl
without_none id (r ∷ rs) e = go (bytes_eq r.id id) refl (λ k. without_none id rs k)
  where
    go : (b : Bool) → bytes_eq r.id id ≡ b → (find_row id rs ≡ None → without id rs ≡ rs) → without id (r ∷ rs) ≡ r ∷ rs
    go true h before = let bad : Some r ≡ None = rw h at e in cc
    go false h before = rw h (ap (λ (x : List Row). r ∷ x) (before (rw h at e)))

with_first : (id : Text) (values : List Text) (rows : List Row) → find_row id rows ≡ None
    → find_row id (with_values id AsWritten CommandLine values rows) ≡ Some (row id values)
with_first id values [] e = rw (bytes_same id) refl
with_first id values (r ∷ rs) e = go (bytes_eq r.id id) refl (λ k. with_first id values rs k)
  where
    go : (b : Bool) → bytes_eq r.id id ≡ b → (find_row id rs ≡ None → find_row id (with_values id AsWritten CommandLine values rs) ≡ Some (row id values))
        → find_row id (with_values id AsWritten CommandLine values (r ∷ rs)) ≡ Some (row id values)
    go true h before = let bad : Some r ≡ None = rw h at e in cc
    go false h before = rw (h, h) (before (rw h at e))

with_more : (id : Text) (old values : List Text) (rows : List Row) → find_row id rows ≡ Some (row id old)
    → find_row id (with_values id AsWritten CommandLine values rows) ≡ Some (row id (old ++ values))
with_more id old values [] e = cc
with_more id old values (r ∷ rs) e = go (bytes_eq r.id id) refl (λ k. with_more id old values rs k)
  where
    go : (b : Bool) → bytes_eq r.id id ≡ b → (find_row id rs ≡ Some (row id old)
        → find_row id (with_values id AsWritten CommandLine values rs) ≡ Some (row id (old ++ values)))
        → find_row id (with_values id AsWritten CommandLine values (r ∷ rs)) ≡ Some (row id (old ++ values))
    go true h before =
        let is : Some r ≡ Some (row id old) = rw h at e in
        let same : r ≡ row id old = ap (λ (o : Option Row). unwrap_or o r) is in
        rw (h, h) (ap (λ (x : Row). Some (record x { values = x.values ++ values; source = Some (stronger x.source CommandLine) })) same)
    go false h before = rw (h, h) (before (rw h at e))

with_other : (id other : Text) (values : List Text) (rows : List Row) → bytes_eq id other ≡ false
    → find_row other (with_values id AsWritten CommandLine values rows) ≡ find_row other rows
with_other id other values [] d = rw d refl
with_other id other values (r ∷ rs) d = go (bytes_eq r.id id) refl (with_other id other values rs d)
  where
    go : (b : Bool) → bytes_eq r.id id ≡ b → find_row other (with_values id AsWritten CommandLine values rs) ≡ find_row other rs
        → find_row other (with_values id AsWritten CommandLine values (r ∷ rs)) ≡ find_row other (r ∷ rs)
    go true h before =
        let miss : bytes_eq r.id other ≡ false = bytes_apart id other r.id d h in
        rw (h, miss) refl
    go false h before = rw h (ap (λ (o : Option Row). cond (bytes_eq r.id other) (Some r) o) before)

-- ---- the rows that the texts make

abbrev files_row : List Text → Option Row
files_row [] = None
files_row (v ∷ vs) = Some (row files_id (v ∷ vs))

abbrev held_row : Slot → Taken → Option Row
held_row (option key) t = option_map (λ (v : Text). row (name_of key) (v ∷ [])) (t.values key)
held_row files t = files_row t.files

-- each row is the one that the texts make
abbrev pub Holds : Taken → List Row → Type 0
Holds t rows = (s : Slot) → find_row (id_of s) rows ≡ held_row s t

abbrev pub untaken : Taken
untaken = record { values = λ _. None; files = [] }

pub holds_none : Holds untaken []
holds_none (option key) = refl
holds_none files = refl

apart_files : (key : Key) → bytes_eq (name_of key) files_id ≡ false
apart_files Domain = refl
apart_files Depth = refl
apart_files Rows = refl
apart_files Make = refl

files_apart : (key : Key) → bytes_eq files_id (name_of key) ≡ false
files_apart Domain = refl
files_apart Depth = refl
files_apart Rows = refl
files_apart Make = refl

put_same : (key : Key) (v : Text) (f : Key → Option Text) → put key v f key ≡ Some v
put_same Domain v f = refl
put_same Depth v f = refl
put_same Rows v f = refl
put_same Make v f = refl

abbrev IsOther : Key → Key → Text → (Key → Option Text) → Type 0
IsOther key other v f = (bytes_eq (name_of key) (name_of other) ≡ false) × (put key v f other ≡ f other)

keys : (key other : Key) (v : Text) (f : Key → Option Text) → (key ≡ other) ⊎ IsOther key other v f
keys Domain Domain v f = inl refl
keys Domain Depth v f = inr (refl, refl)
keys Domain Rows v f = inr (refl, refl)
keys Domain Make v f = inr (refl, refl)
keys Depth Domain v f = inr (refl, refl)
keys Depth Depth v f = inl refl
keys Depth Rows v f = inr (refl, refl)
keys Depth Make v f = inr (refl, refl)
keys Rows Domain v f = inr (refl, refl)
keys Rows Depth v f = inr (refl, refl)
keys Rows Rows v f = inl refl
keys Rows Make v f = inr (refl, refl)
keys Make Domain v f = inr (refl, refl)
keys Make Depth v f = inr (refl, refl)
keys Make Rows v f = inr (refl, refl)
keys Make Make v f = inl refl

-- a first value of an option joins
pub holds_option : (key : Key) (v : Text) (t : Taken) (rows : List Row) → Holds t rows → t.values key ≡ None
    → Holds (add (option key) v t) (used (taker (name_of key)) (v ∷ []) rows)
holds_option key v t rows h free = all
  where
    none : find_row (name_of key) rows ≡ None
    none = h (option key) ∙ ap (option_map (λ (v : Text). row (name_of key) (v ∷ []))) free

    now : List Row
    now = used (taker (name_of key)) (v ∷ []) rows

    is : used (taker (name_of key)) (v ∷ []) rows ≡ with_values (name_of key) AsWritten CommandLine (v ∷ []) rows
    is = ap (with_values (name_of key) AsWritten CommandLine (v ∷ [])) (without_none (name_of key) rows none)

    of : (other : Key) → (key ≡ other) ⊎ IsOther key other v t.values
        → find_row (name_of other) (used (taker (name_of key)) (v ∷ []) rows) ≡ held_row (option other) (add (option key) v t)
    of other (inl e) =
        subst (λ (k : Key). find_row (name_of k) (used (taker (name_of key)) (v ∷ []) rows) ≡ held_row (option k) (add (option key) v t)) e
        (ap (find_row (name_of key)) is ∙ with_first (name_of key) (v ∷ []) rows none
        ∙ ap (option_map (λ (x : Text). row (name_of key) (x ∷ []))) (sym (put_same key v t.values)))
    of other (inr e) =
        ap (find_row (name_of other)) is ∙ with_other (name_of key) (name_of other) (v ∷ []) rows e.0 ∙ h (option other)
        ∙ ap (option_map (λ (x : Text). row (name_of other) (x ∷ []))) (sym e.1)

    all : Holds (add (option key) v t) (used (taker (name_of key)) (v ∷ []) rows)
    all (option other) = of other (keys key other v t.values)
    all files = ap (find_row files_id) is ∙ with_other (name_of key) files_id (v ∷ []) rows (apart_files key) ∙ h files

-- one more file joins
pub holds_file : (v : Text) (t : Taken) (rows : List Row) → Holds t rows → Holds (add files v t) (used gatherer (v ∷ []) rows)
holds_file v t rows h (option other) = with_other files_id (name_of other) (v ∷ []) rows (files_apart other) ∙ h (option other)
holds_file v t rows h files = go t.files (h files)
  where
    go : (fs : List Text) → find_row files_id rows ≡ files_row fs
        → find_row files_id (with_values files_id AsWritten CommandLine (v ∷ []) rows) ≡ files_row (fs ++ v ∷ [])
    go [] e = with_first files_id (v ∷ []) rows e
    go (f ∷ fs) e = with_more files_id (f ∷ fs) (v ∷ []) rows e

first_text : (key : Key) (o : Option Text) → option_and_then (λ (r : Row). slice_get r.values 0) (option_map (λ (v : Text). row (name_of key) (v ∷ [])) o) ≡ o
first_text key None = refl
first_text key (Some v) = refl

pub first_held : (t : Taken) (rows : List Row) → Holds t rows → (key : Key) → first_of (name_of key) rows ≡ t.values key
first_held t rows h key = ap (option_and_then (λ (r : Row). slice_get r.values 0)) (h (option key)) ∙ first_text key (t.values key)

pub files_held : (t : Taken) (rows : List Row) → Holds t rows → unwrap_or (all_of files_id rows) [] ≡ t.files
files_held t rows h = ap (λ (o : Option Row). unwrap_or (option_map (λ (r : Row). r.values) o) []) (h files) ∙ go t.files
  where
    go : (fs : List Text) → unwrap_or (option_map (λ (r : Row). r.values) (files_row fs)) [] ≡ fs
    go [] = refl
    go (f ∷ fs) = refl
