-- Parts of steps: joins of answers, and what is told of a row by its name.
use Rattle.std.proofs.Common.{◌≡◌, ℕ, zero, suc, ◌-◌, ◌≤◌, Bool, true, false, cond, not, ◌&&◌, nat_eq, nat_lt, eqb-true, count_by, List, [], ◌∷◌, slice_get}
use Rattle.std.proofs.Common.{Option, Some, None, Result, Ok, Err, OnOk, OnErr, IfOk, IfErr, IfSome, IfNone, sym, refl, ap, ◌∙◌, subst, arith}
use Rattle.std.proofs.lemmas.Bool.{eq-eqb}
use Rattle.std.specs.Option.{option_map}
use Rattle.std.specs.List.{list_any}
use Rattle.plai_arcs.specs.Links.{one_if}
use Rattle.plai_arcs.proofs.CountLemmas.{any_count}
use Rattle.plai_theory.specs.Domain.{Domain}
use Rattle.plai_theory.specs.Evaluation.{join_of}
use Rattle.plai_terms.specs.declared.abs.Abs.{Abs}
use Rattle.plai_domain.specs.declared.key.Key.{Key}
use Rattle.plai_domain.specs.Plain.{PlainDomain}
use Rattle.plai_table.specs.Rows.{TableRow, names_of}
use Rattle.plai_eval.specs.Meaning.{as_domain}
use Rattle.plai_fix_laws.specs.WorkStates.{KeptRow}
use Rattle.plai_fix_laws.specs.Changes.{Clears, SetsCalls}

pub some_more : {T E : Type 0} (P Q : T → Type 0) (r : Result (Option T) E) → IfOk r (λ n. IfSome n P) → ((v : T) → P v → Q v) → IfOk r (λ n. IfSome n Q)
some_more P Q (Ok None) h k = tt
some_more P Q (Ok (Some v)) h k = k v h
some_more P Q (Err e) h k = tt

pub none_more : {T E : Type 0} (P Q : Type 0) (r : Result (Option T) E) → IfOk r (λ n. IfNone n P) → (P → Q) → IfOk r (λ n. IfNone n Q)
none_more P Q (Ok None) h k = k h
none_more P Q (Ok (Some v)) h k = tt
none_more P Q (Err e) h k = tt

pub if_err : {T E : Type 0} (P Q : E → Type 0) (r : Result T E) → IfErr r P → ((e : E) → P e → Q e) → IfErr r Q
if_err P Q (Ok x) h k = tt
if_err P Q (Err e) h k = k e h

pub err_any : {T E : Type 0} (P : Type 0) (r : Result T E) → P → OnErr r P
err_any P (Ok x) h = tt
err_any P (Err e) h = h

pub ok_more : {T E : Type 0} (P Q : Type 0) (r : Result T E) → OnOk r P → (P → Q) → OnOk r Q
ok_more P Q (Ok x) h k = k h
ok_more P Q (Err e) h k = tt

pub ok_any : {T E : Type 0} (P : Type 0) (r : Result T E) → P → OnOk r P
ok_any P (Ok x) h = h
ok_any P (Err e) h = tt

pub ok_both : {T E : Type 0} (P Q R : Type 0) (r : Result T E) → OnOk r P → OnOk r Q → (P → Q → R) → OnOk r R
ok_both P Q R (Ok x) h k f = f h k
ok_both P Q R (Err e) h k f = tt

pub err_more : {T E : Type 0} (P Q : Type 0) (r : Result T E) → OnErr r P → (P → Q) → OnErr r Q
err_more P Q (Ok x) h k = tt
err_more P Q (Err e) h k = k h

pub ok_items : {T E : Type 0} (P Q : T → Type 0) (r : Result T E) → IfOk r P → ((x : T) → P x → Q x) → IfOk r Q
ok_items P Q (Ok x) h k = k x h
ok_items P Q (Err e) h k = tt

-- what is counted once is there
pub called_as : {T : Type 0} (b : Bool) (t : T → Bool) (xs : List T) → count_by t xs ≡ one_if b → b ≡ list_any t xs
called_as b t xs e = sym (any_count t xs ∙ ap (λ n. nat_lt 0 n) e ∙ at b)
  where
    at : (b : Bool) → nat_lt 0 (one_if b) ≡ b
    at true = refl
    at false = refl

join_none : (d : Domain) (o : Option d.Value) → join_of d o None ≡ o
unfolding join_of
join_none d None = refl
join_none d (Some a) = refl

join_first : (d : Domain) (b : Option d.Value) → join_of d None b ≡ b
unfolding join_of
join_first d b = refl

join_both : (d : Domain) (a b : d.Value) → join_of d (Some a) (Some b) ≡ Some (d.join a b)
unfolding join_of
join_both d a b = refl

module _ {V : Type 0} (value_of : V → Abs) (p : PlainDomain) (had answer : Option V) where
  pub kept_none : answer ≡ None → join_of (as_domain p) (option_map value_of had) (option_map value_of answer) ≡ option_map value_of had
  kept_none e = ap (λ (o : Option V). join_of (as_domain p) (option_map value_of had) (option_map value_of o)) e
      ∙ join_none (as_domain p) (option_map value_of had)

  pub grown_first : (v : V) → had ≡ None → answer ≡ Some v
      → (◌≡◌ {A = Option Abs} (Some (value_of v)) (join_of (as_domain p) (option_map value_of had) (option_map value_of answer)))
      × (◌≡◌ {A = Option Abs} (Some (value_of v)) (option_map value_of had) → ⊥)
  grown_first v e f =
      let h : option_map value_of had ≡ None = ap (option_map value_of) e in
      let a : option_map value_of answer ≡ Some (value_of v) = ap (option_map value_of) f in (
        sym (ap (λ (o : Option Abs). join_of (as_domain p) o (option_map value_of answer)) h ∙ join_first (as_domain p) (option_map value_of answer) ∙ a),
        λ s. let l : ◌≡◌ {A = Option Abs} (Some (value_of v)) None = s ∙ h in cc,
      )

  module _ (a b : V) (e : had ≡ Some a) (f : answer ≡ Some b) where
    join_is : join_of (as_domain p) (option_map value_of had) (option_map value_of answer) ≡ Some (p.join (value_of a) (value_of b))
    join_is =
        ap (λ (o : Option V). join_of (as_domain p) (option_map value_of o) (option_map value_of answer)) e
        ∙ ap (λ (o : Option V). join_of (as_domain p) (Some (value_of a)) (option_map value_of o)) f
        ∙ join_both (as_domain p) (value_of a) (value_of b)

    pub grown_later : (v : V) → (value_of v ≡ p.join (value_of a) (value_of b)) × (value_of v ≡ value_of a → ⊥)
        → (◌≡◌ {A = Option Abs} (Some (value_of v)) (join_of (as_domain p) (option_map value_of had) (option_map value_of answer)))
        × (◌≡◌ {A = Option Abs} (Some (value_of v)) (option_map value_of had) → ⊥)
    grown_later v h = (
      ap Some h.0 ∙ sym join_is,
      λ s. h.1 (let l : ◌≡◌ {A = Option Abs} (Some (value_of v)) (Some (value_of a)) = s ∙ ap (option_map value_of) e in cc),
    )

    pub kept_later : p.join (value_of a) (value_of b) ≡ value_of a
        → join_of (as_domain p) (option_map value_of had) (option_map value_of answer) ≡ option_map value_of had
    kept_later h = join_is ∙ ap Some h ∙ sym (ap (option_map value_of) e)

module _ {W : Type 0} where
  pub name_at : (rows : List (TableRow W)) (n : ℕ) (r : TableRow W) → slice_get rows n ≡ Some r → slice_get (names_of rows) n ≡ Some r.name
  name_at [] n r e = cc
  name_at (q ∷ rows) zero r e = let same : q ≡ r = cc in ap (λ (z : TableRow W). Some z.name) same
  name_at (q ∷ rows) (suc n) r e = name_at rows n r e

  pub one_name : (rows : List (TableRow W)) (n : ℕ) (r : TableRow W) (name : Key W) → slice_get rows n ≡ Some r → slice_get (names_of rows) n ≡ Some name
      → r.name ≡ name
  one_name rows n r name e f = let s : Some r.name ≡ Some name = sym (name_at rows n r e) ∙ f in cc

pub clears_from : (d : Domain) (rows : List (KeptRow d)) (dirty new : ℕ → ℕ → Bool) (calls called : ℕ → ℕ → ℕ → Bool) (n number : ℕ) → 1 ≤ number
    → ((r c : ℕ) → new r c ≡ (not (nat_eq r n && nat_eq c number) && dirty r c)) → ((r c q : ℕ) → called r c q ≡ calls r c q)
    → Clears d (record { rows = rows; dirty = dirty; calls = calls }) (record { rows = rows; dirty = new; calls = called }) n (number - 1)
clears_from d rows dirty new calls called n number h cleared same =
    let e : suc (number - 1) ≡ number = omega arith in
    record {
      rows = refl;
      dirty = λ a m. subst (λ z. new a m ≡ (not (nat_eq a n && nat_eq m z) && dirty a m)) (sym e) (cleared a m);
      calls = same;
    }

same_pair : (p q : Bool) → (p ≡ true → q ≡ true → ⊥) → (p && q) ≡ false
same_pair true true h = absurd (h refl refl)
same_pair true false h = refl
same_pair false q h = refl

pub sets_from : (d : Domain) (rows : List (KeptRow d)) (dirty new : ℕ → ℕ → Bool) (calls called : ℕ → ℕ → ℕ → Bool) (n number : ℕ) (set : ℕ → Bool) → 1 ≤ number
    → ((r c q : ℕ) → called r c q ≡ cond (nat_eq r n && nat_eq c number) (set q) (calls r c q)) → ((r c : ℕ) → new r c ≡ dirty r c)
    → SetsCalls d (record { rows = rows; dirty = dirty; calls = calls }) (record { rows = rows; dirty = new; calls = called }) n (number - 1) set
sets_from d rows dirty new calls called n number set h sets same =
    let e : suc (number - 1) ≡ number = omega arith in
    record {
      rows = refl;
      dirty = same;
      own = λ j. ap (λ z. called n z j) e ∙ sets n number j
          ∙ (let t : nat_eq n n ≡ true = eq-eqb n n refl in let u : nat_eq number number ≡ true = eq-eqb number number refl in rw (t, u) refl);
      others = λ a m j other.
          let t : (nat_eq a n && nat_eq m number) ≡ false =
          same_pair (nat_eq a n) (nat_eq m number) (λ u v. other (eqb-true a n u) (eqb-true m number v ∙ sym e)) in
          sets a m j ∙ rw t refl;
    }
