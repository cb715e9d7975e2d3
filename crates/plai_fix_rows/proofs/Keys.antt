-- Rows of a table looked up by their names, where equal keys are those of equal names.
use Rattle.std.proofs.Common.{◌≡◌, ℕ, zero, suc, ◌+◌, ◌<◌, ◌≤◌, Bool, true, false, ◌&&◌, List, [], ◌∷◌, length, slice_get, get_or, position, nat_lt, Some}
use Rattle.std.proofs.Common.{None, ◌↔◌, sym, refl, ap, ◌∙◌, subst, arith}
use Rattle.std.specs.Option.{option_map}
use Rattle.std.specs.List.{position_or_len}
use Rattle.std.proofs.lemmas.Bool.Decides.{nat_tests}
use Rattle.std.proofs.lemmas.List.Quantifiers.{position-Some}
use Rattle.plai_theory.specs.Domain.{Name}
use Rattle.plai_theory.proofs.Options.{by_test}
use Rattle.plai_terms.specs.declared.abs.Abs.{Abs}
use Rattle.plai_terms.specs.declared.pred_key.PredKey.{PredKey}
use Rattle.plai_terms.specs.declared.row_name.RowName.{RowName}
use Rattle.plai_terms.specs.contracts.pred_key.PredKeyPartialEq.TheImpl as pred_eq
use Rattle.plai_terms.specs.contracts.row_name.RowNamePartialEq.TheImpl as row_eq
use Rattle.plai_domain.specs.declared.key.Key.{Key}
use Rattle.plai_domain.specs.Plain.{PlainDomain}
use Rattle.plai_clauses.proofs.OneModule.{same_pred-true}
use Rattle.plai_table.specs.Rows.{TableRow, names_of}
use Rattle.plai_eval.specs.Meaning.{row_name, as_domain}
use Rattle.plai_eval.proofs.Names.{same_name-true, same_name-refl}
use Rattle.plai_fix_laws.specs.WorkStates.{IsNamed, kept_source}
use Rattle.plai_fix_rows.specs.Tables.{key_name, kept_rows}

both : (p q : Bool) → (p && q) ≡ true → (p ≡ true) × (q ≡ true)
both true q e = (refl, e)
both false q e = cc

pred_same : (a b : PredKey) → a ≡ b → (pred_eq.ghosts).eq a b ≡ true
pred_same a b e =
    let n : RowName = record { pred = a; call = Abs.Nothing } in
    (both ((pred_eq.ghosts).eq a b) true (subst (λ k. ((pred_eq.ghosts).eq a k && true) ≡ true) e (same_name-refl n))).0

-- nothing passes where no place is found
none_passes : {X : Type 0} (p : X → Bool) (xs : List X) (d : X) → length xs ≤ position_or_len p xs → (k : ℕ) → k < length xs → p (get_or xs k d) ≡ false
none_passes p [] d h k l = absurd (omega arith)
none_passes p (x ∷ xs) d h zero l = by_test (p x) (λ t. let g : suc (length xs) ≤ 0 = rw t at h in absurd (omega arith)) (λ t. t)
none_passes p (x ∷ xs) d h (suc k) l =
    by_test (p x) (λ t. let g : suc (length xs) ≤ 0 = rw t at h in absurd (omega arith))
    (λ t. let g : suc (length xs) ≤ 1 + position_or_len p xs = rw t at h in none_passes p xs d (omega arith) k (omega arith))

not_less : (a b : ℕ) → nat_lt a b ≡ false → b ≤ a
not_less a b e = grind (arith, nat_tests)

pub position-None : {X : Type 0} (p : X → Bool) (xs : List X) (d : X) → position p xs ≡ None → (k : ℕ) → k < length xs → p (get_or xs k d) ≡ false
position-None p xs d e =
    by_test (nat_lt (position_or_len p xs) (length xs))
    (λ t. let c : Some (position_or_len p xs) ≡ None = rw t at e in cc)
    (λ t. none_passes p xs d (not_less (position_or_len p xs) (length xs) t))

-- keys with a test for equal calls, which is true where the calls are seen as equal
module _ (V : Type 0) (value_of : V → Abs) (same_call : V → V → Bool) (equal : (a b : V) → (same_call a b ≡ true) ↔ (value_of a ≡ value_of b)) where
  -- the test for equal keys
  abbrev pub same_key : Key V → Key V → Bool
  same_key a b = (pred_eq.ghosts).eq a.pred b.pred && same_call a.call b.call

  pub key-true : (a b : Key V) → same_key a b ≡ true → key_name value_of a ≡ key_name value_of b
  key-true a b e =
      let (p, q) = both ((pred_eq.ghosts).eq a.pred b.pred) (same_call a.call b.call) e in
      let k : a.pred ≡ b.pred = same_pred-true a.pred b.pred p in
      let l : value_of a.call ≡ value_of b.call = (equal a.call b.call).0 q in
      λ i. record { pred = k i; call = l i }

  pub key-same : (a b : Key V) → key_name value_of a ≡ key_name value_of b → same_key a b ≡ true
  key-same a b e =
      let k : a.pred ≡ b.pred = ap (λ (x : Name PredKey Abs). x.pred) e in
      let l : same_call a.call b.call ≡ true = (equal a.call b.call).1 (ap (λ (x : Name PredKey Abs). x.call) e) in
      rw (pred_same a.pred b.pred k) l

  -- the test for equal names answers as the one for equal keys
  tests_agree : (a b : Key V) (t : Bool) → same_key a b ≡ t → (row_eq.ghosts).eq (row_name (key_name value_of b)) (row_name (key_name value_of a)) ≡ t
  tests_agree a b true e = subst (λ (x : Name PredKey Abs). (row_eq.ghosts).eq (row_name x) (row_name (key_name value_of a)) ≡ true) (key-true a b e)
      (same_name-refl (row_name (key_name value_of a)))
  tests_agree a b false e =
      by_test ((row_eq.ghosts).eq (row_name (key_name value_of b)) (row_name (key_name value_of a)))
      (λ t. let n : row_name (key_name value_of b) ≡ row_name (key_name value_of a) =
      same_name-true (row_name (key_name value_of b)) (row_name (key_name value_of a)) t in
      let k : key_name value_of a ≡ key_name value_of b = (λ i. record { pred = (sym n i).pred; call = (sym n i).call }) in
      let c : true ≡ false = sym (key-same a b k) ∙ e in cc)
      (λ t. t)

  -- the row where the test is true first
  pub answer_at : (p : PlainDomain) (key : Key V) (rows : List (TableRow V)) (n : ℕ) (r : TableRow V) → slice_get rows n ≡ Some r → same_key key r.name ≡ true
      → ((k : ℕ) → k < n → same_key key (get_or (names_of rows) k key) ≡ false)
      → option_map value_of r.answer ≡ kept_source (as_domain p) (kept_rows value_of p rows) key.pred (value_of key.call)
  answer_at p key [] n r e t before = cc
  answer_at p key (q ∷ rows) zero r e t before =
      let same : q ≡ r = cc in
      let u : (row_eq.ghosts).eq (row_name (key_name value_of q.name)) (row_name (key_name value_of key)) ≡ true =
      tests_agree key q.name true (subst (λ (z : TableRow V). same_key key z.name ≡ true) (sym same) t) in
      rw u (ap (λ (z : TableRow V). option_map value_of z.answer) (sym same))
  answer_at p key (q ∷ rows) (suc n) r e t before =
      let u : (row_eq.ghosts).eq (row_name (key_name value_of q.name)) (row_name (key_name value_of key)) ≡ false =
      tests_agree key q.name false (before zero (omega arith)) in
      rw u (answer_at p key rows n r e t (λ k h. before (suc k) (omega arith)))

  pub no_answer : (p : PlainDomain) (key : Key V) (rows : List (TableRow V))
      → ((k : ℕ) → k < length (names_of rows) → same_key key (get_or (names_of rows) k key) ≡ false)
      → kept_source (as_domain p) (kept_rows value_of p rows) key.pred (value_of key.call) ≡ None
  no_answer p key [] none = refl
  no_answer p key (q ∷ rows) none =
      let u : (row_eq.ghosts).eq (row_name (key_name value_of q.name)) (row_name (key_name value_of key)) ≡ false =
      tests_agree key q.name false (none zero (omega arith)) in
      rw u (no_answer p key rows (λ k h. none (suc k) (omega arith)))

  pub found : (p : PlainDomain) (key : Key V) (rows : List (TableRow V)) (n : ℕ) (r : TableRow V) → position (same_key key) (names_of rows) ≡ Some n
      → slice_get rows n ≡ Some r
      → option_map value_of r.answer ≡ kept_source (as_domain p) (kept_rows value_of p rows) key.pred (value_of key.call)
  found p key rows n r e at =
      let (l, t, before) = position-Some (same_key key) (names_of rows) n key e in
      answer_at p key rows n r at (subst (λ (z : Key V). same_key key z ≡ true) (name_at rows n r at) t) before
    where
      name_at : (rows : List (TableRow V)) (n : ℕ) (r : TableRow V) → slice_get rows n ≡ Some r → get_or (names_of rows) n key ≡ r.name
      name_at [] n r e = cc
      name_at (q ∷ rows) zero r e = let same : q ≡ r = cc in ap (λ (z : TableRow V). z.name) same
      name_at (q ∷ rows) (suc n) r e = name_at rows n r e

  pub absent : (p : PlainDomain) (key : Key V) (rows : List (TableRow V)) → position (same_key key) (names_of rows) ≡ None
      → kept_source (as_domain p) (kept_rows value_of p rows) key.pred (value_of key.call) ≡ None
  absent p key rows e = no_answer p key rows (position-None (same_key key) (names_of rows) key e)

  -- the row that is found has the name, and where none is found no row has it
  pub found_named : (p : PlainDomain) (key : Key V) (rows : List (TableRow V)) (n : ℕ) → position (same_key key) (names_of rows) ≡ Some n
      → IsNamed (as_domain p) (kept_rows value_of p rows) n (key_name value_of key)
  found_named p key rows n e =
      let (l, t, before) = position-Some (same_key key) (names_of rows) n key e in named_at rows n l (sym (key-true key (get_or (names_of rows) n key) t))
    where
      named_at : (rows : List (TableRow V)) (n : ℕ) → n < length (names_of rows) → key_name value_of (get_or (names_of rows) n key) ≡ key_name value_of key
          → IsNamed (as_domain p) (kept_rows value_of p rows) n (key_name value_of key)
      named_at [] n l e = absurd (omega arith)
      named_at (q ∷ rows) zero l e = e
      named_at (q ∷ rows) (suc n) l e = named_at rows n (omega arith) e

  pub absent_named : (p : PlainDomain) (key : Key V) (rows : List (TableRow V)) → position (same_key key) (names_of rows) ≡ None → (j : ℕ)
      → IsNamed (as_domain p) (kept_rows value_of p rows) j (key_name value_of key) → ⊥
  absent_named p key rows e j named = none_at rows (position-None (same_key key) (names_of rows) key e) j named
    where
      none_at : (rows : List (TableRow V)) → ((k : ℕ) → k < length (names_of rows) → same_key key (get_or (names_of rows) k key) ≡ false) → (j : ℕ)
          → IsNamed (as_domain p) (kept_rows value_of p rows) j (key_name value_of key) → ⊥
      none_at [] none j named = named
      none_at (q ∷ rows) none zero named = let l : true ≡ false = sym (key-same key q.name (sym named)) ∙ none zero (omega arith) in cc
      none_at (q ∷ rows) none (suc j) named = none_at rows (λ k h. none (suc k) (omega arith)) j named
