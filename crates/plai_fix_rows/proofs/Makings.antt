-- What a made row and a grown answer change of what is kept.
use Rattle.std.proofs.Common.{◌≡◌, ℕ, zero, suc, ◌<◌, Bool, true, false, cond, ◌&&◌, ◌||◌, nat_eq, eqb-true, List, [], ◌∷◌, ◌++◌, map, length, Option, Some}
use Rattle.std.proofs.Common.{None, IsSome, sym, refl, ap, ◌∙◌, subst, arith}
use Rattle.std.proofs.lemmas.Bool.{eq-eqb, eqb-false}
use Rattle.plai_theory.specs.Words.{given, item}
use Rattle.plai_theory.proofs.Options.{by_test}
use Rattle.plai_terms.specs.declared.abs.Abs.{Abs}
use Rattle.plai_domain.specs.declared.key.Key.{Key}
use Rattle.plai_domain.specs.Plain.{PlainDomain}
use Rattle.plai_clauses.specs.Program.{ProgramView, clauses_of}
use Rattle.plai_table.specs.Rows.{TableRow, new_row, row_changed, with_answer}
use Rattle.plai_eval.specs.Meaning.{as_domain, as_program}
use Rattle.plai_fix_laws.specs.WorkStates.{KeptRow, Keeping, clause_at}
use Rattle.plai_fix_laws.specs.Changes.{Makes, Answers}
use Rattle.plai_fix_rows.specs.Tables.{key_name, kept_row, kept_rows}
use Rattle.plai_fix_rows.specs.Marks.{is_number}
use Rattle.plai_fix_rows.proofs.Marked.{of_range, in_range}

pub map_push : {A B : Type 0} (f : A → B) (xs : List A) (x : A) → map f (xs ++ x ∷ []) ≡ map f xs ++ f x ∷ []
map_push f [] x = refl
map_push f (y ∷ xs) x = ap (λ rest. f y ∷ rest) (map_push f xs x)

length_map : {A B : Type 0} (f : A → B) (xs : List A) → length (map f xs) ≡ length xs
length_map f [] = refl
length_map f (x ∷ xs) = ap suc (length_map f xs)

item_some : {A : Type 0} (xs : List A) (i : ℕ) → i < length xs → IsSome (item xs i)
item_some [] i h = absurd (omega arith)
item_some (x ∷ xs) zero h = refl
item_some (x ∷ xs) (suc i) h = item_some xs i (omega arith)

item_within : {A : Type 0} (xs : List A) (i : ℕ) → IsSome (item xs i) → i < length xs
item_within [] i h = cc
item_within (x ∷ xs) zero h = omega arith
item_within (x ∷ xs) (suc i) h = let k : i < length xs = item_within xs i h in omega arith

false_or : (p : Bool) (q : Bool) → q ≡ false → (p || q) ≡ p
false_or true q e = refl
false_or false q e = e

false_and : (p q : Bool) → p ≡ false → (p && q) ≡ false
false_and true q e = cc
false_and false q e = refl

no_zero : (last : ℕ) → is_number last 0 ≡ true → ⊥
no_zero last e = cc

module _ (V : Type 0) (value_of : V → Abs) (p : PlainDomain) (program : ProgramView) (rows : List (TableRow V)) (dirty new : ℕ → ℕ → Bool)
    (calls called : ℕ → ℕ → ℕ → Bool) (same : (r c q : ℕ) → called r c q ≡ calls r c q) where
  abbrev state : List (TableRow V) → (ℕ → ℕ → Bool) → (ℕ → ℕ → ℕ → Bool) → Keeping (as_domain p)
  state rs ds cs = record { rows = kept_rows value_of p rs; dirty = ds; calls = cs }

  pub makes : (name : Key V) (row last : ℕ) → row ≡ length rows → last ≡ length (clauses_of program name.pred) → ((m : ℕ) → dirty (length rows) m ≡ false)
      → ((r c : ℕ) → new r c ≡ ((nat_eq r row && is_number last c) || dirty r c)) → (added : List (TableRow V)) → added ≡ rows ++ new_row name ∷ []
      → Makes (as_domain p) (as_program p program) (state rows dirty calls) (state added new called) (key_name value_of name)
  makes name row last at all fresh marked added more =
      record {
        rows = ap (map (kept_row value_of p)) more ∙ map_push (kept_row value_of p) rows (new_row name);
        own = λ m. (λ t. forth m (sym (here m) ∙ t), λ t. here m ∙ back m t);
        others = λ a m other. marked a m ∙ elsewhere a m other;
        calls = same;
      }
    where
      long : length (kept_rows value_of p rows) ≡ length rows
      long = length_map (kept_row value_of p) rows

      here : (m : ℕ) → new (length (kept_rows value_of p rows)) m ≡ is_number last m
      here m =
          ap (λ z. new z m) long ∙ marked (length rows) m
          ∙ false_or (nat_eq (length rows) row && is_number last m) (dirty (length rows) m) (fresh m)
          ∙ (let t : nat_eq (length rows) row ≡ true = eq-eqb (length rows) row (sym at) in rw t refl)

      elsewhere : (a m : ℕ) → (a ≡ length (kept_rows value_of p rows) → ⊥) → ((nat_eq a row && is_number last m) || dirty a m) ≡ dirty a m
      elsewhere a m other =
          let t : nat_eq a row ≡ false = by_test (nat_eq a row) (λ u. absurd (other (eqb-true a row u ∙ at ∙ sym long))) (λ u. u) in rw t refl

      forth : (m : ℕ) → is_number last m ≡ true → IsSome (clause_at (as_domain p) (as_program p program) name.pred m)
      forth zero e = absurd (no_zero last e)
      forth (suc i) e = let (h, k) = in_range last (suc i) e in item_some (clauses_of program name.pred) i (omega arith)

      back : (m : ℕ) → IsSome (clause_at (as_domain p) (as_program p program) name.pred m) → is_number last m ≡ true
      back zero e = cc
      back (suc i) e = let k : i < length (clauses_of program name.pred) = item_within (clauses_of program name.pred) i e in
          of_range last (suc i) (omega arith) (omega arith)

  -- the row that changes, and another one
  changed_here : (answer : V) (xs : List (TableRow V)) (n : ℕ) → item (kept_rows value_of p (row_changed (with_answer answer) xs n)) n
      ≡ given None (λ (r : KeptRow (as_domain p)). Some (record { name = r.name; answer = Some (value_of answer); live = r.live }))
      (item (kept_rows value_of p xs) n)
  changed_here answer [] n = refl
  changed_here answer (x ∷ xs) zero = refl
  changed_here answer (x ∷ xs) (suc n) = changed_here answer xs n

  changed_else : (answer : V) (xs : List (TableRow V)) (n j : ℕ) → (j ≡ n → ⊥)
      → item (kept_rows value_of p (row_changed (with_answer answer) xs n)) j ≡ item (kept_rows value_of p xs) j
  changed_else answer [] n j other = refl
  changed_else answer (x ∷ xs) zero zero other = absurd (other refl)
  changed_else answer (x ∷ xs) zero (suc j) other = refl
  changed_else answer (x ∷ xs) (suc n) zero other = refl
  changed_else answer (x ∷ xs) (suc n) (suc j) other = changed_else answer xs n j (λ e. other (ap suc e))

  stays : (o : Option (KeptRow (as_domain p)))
      → o ≡ given None (λ (r : KeptRow (as_domain p)). Some (record { name = r.name; answer = r.answer; live = r.live })) o
  stays None = refl
  stays (Some r) = refl

  changed_at : (answer : V) (xs : List (TableRow V)) (n j : ℕ) → item (kept_rows value_of p (row_changed (with_answer answer) xs n)) j
      ≡ given None (λ (r : KeptRow (as_domain p)). Some
      (record { name = r.name; answer = cond (nat_eq j n) (Some (value_of answer)) r.answer; live = r.live })) (item (kept_rows value_of p xs) j)
  changed_at answer xs n j =
      by_test (nat_eq j n)
      (λ t. rw t (subst (λ z. item (kept_rows value_of p (row_changed (with_answer answer) xs n)) z
      ≡ given None (λ (r : KeptRow (as_domain p)). Some (record { name = r.name; answer = Some (value_of answer); live = r.live }))
      (item (kept_rows value_of p xs) z)) (sym (eqb-true j n t)) (changed_here answer xs n)))
      (λ t. rw t (changed_else answer xs n j (eqb-false j n t) ∙ stays (item (kept_rows value_of p xs) j)))

  pub answers : (answer : V) (n : ℕ) → ((r c : ℕ) → new r c ≡ (calls r c n || dirty r c)) → (changed : List (TableRow V))
      → changed ≡ row_changed (with_answer answer) rows n
      → Answers (as_domain p) (state rows dirty calls) (state changed new called) n (Some (value_of answer))
  answers answer n marked changed is =
      record {
        rows = λ j. ap (λ xs. item (kept_rows value_of p xs) j) is ∙ changed_at answer rows n j;
        dirty = marked;
        calls = same;
      }
