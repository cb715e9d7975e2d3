-- A row that is woken, at a table and its arcs: what they keep before it, and what after.
use Rattle.std.proofs.Common.{◌≡◌, ◌↔◌, ℕ, zero, suc, ◌+◌, ◌≤◌, ◌<◌, Bool, true, false, cond, nat_eq, eqb-true, List, [], ◌∷◌, map, Option, Some, None, IsSome}
use Rattle.std.proofs.Common.{sym, refl, ap, ◌∙◌, subst, arith}
use Rattle.std.proofs.lemmas.Bool.{eq-eqb, eqb-false}
use Rattle.plai_theory.specs.Words.{IsIn, given, item, HasSome}
use Rattle.plai_theory.specs.Domain.{Domain, Program, IsLawful}
use Rattle.plai_theory.specs.Evaluation.{NameOf}
use Rattle.plai_theory.specs.LegalWork.{WorkRow, after_waking}
use Rattle.plai_theory.specs.Measure.{one_at_none}
use Rattle.plai_theory.proofs.Options.{by_test}
use Rattle.plai_fix_laws.specs.WorkStates.{KeptRow, Keeping, IsNamed, KeepsRow, AtBoth, Keeps, Extends, is_live, kept_live}
use Rattle.plai_fix_laws.specs.Changes.{kept_woken, Wakes}
use Rattle.plai_fix_laws.specs.Measures.{kept_nones, kept_room, Adds}
use Rattle.plai_fix_laws.proofs.Lists.{count_cons}
use Rattle.plai_fix_laws.proofs.Places.{item_map, one_place, own_map, there, have}
use Rattle.plai_fix_laws.proofs.Steps.{some_not}

dead : (b : Bool) (n : ℕ) → b ≡ false → cond b 1 0 + n ≡ n
dead true n e = cc
dead false n e = omega arith

module _ (d : Domain) where
  woken_here : (kept : List (KeptRow d)) (n : ℕ) → item (kept_woken d kept n) n
      ≡ given None (λ (r : KeptRow d). Some (record { name = r.name; answer = r.answer; live = true })) (item kept n)
  woken_here [] n = refl
  woken_here (r ∷ kept) zero = refl
  woken_here (r ∷ kept) (suc n) = woken_here kept n

  woken_else : (kept : List (KeptRow d)) (n j : ℕ) → (j ≡ n → ⊥) → item (kept_woken d kept n) j ≡ item kept j
  woken_else [] n j other = refl
  woken_else (r ∷ kept) zero zero other = absurd (other refl)
  woken_else (r ∷ kept) zero (suc j) other = refl
  woken_else (r ∷ kept) (suc n) zero other = refl
  woken_else (r ∷ kept) (suc n) (suc j) other = woken_else kept n j (λ e. other (ap suc e))

  stays : (o : Option (KeptRow d)) → o ≡ given None (λ (r : KeptRow d). Some (record { name = r.name; answer = r.answer; live = r.live })) o
  stays None = refl
  stays (Some r) = refl

  -- the rows by their numbers
  pub woken_at : (kept : List (KeptRow d)) (n j : ℕ) → item (kept_woken d kept n) j
      ≡ given None (λ (r : KeptRow d). Some (record { name = r.name; answer = r.answer; live = cond (nat_eq j n) true r.live })) (item kept j)
  woken_at kept n j =
      by_test (nat_eq j n)
      (λ t. rw t (subst (λ z. item (kept_woken d kept n) z
      ≡ given None (λ (r : KeptRow d). Some (record { name = r.name; answer = r.answer; live = true })) (item kept z)) (sym (eqb-true j n t))
      (woken_here kept n)))
      (λ t. rw t (woken_else kept n j (eqb-false j n t) ∙ stays (item kept j)))

  pub live_stays : (kept : List (KeptRow d)) (n j : ℕ) → is_live d kept j ≡ true → is_live d (kept_woken d kept n) j ≡ true
  live_stays kept n j l = ap (given false (λ (r : KeptRow d). r.live)) (woken_at kept n j) ∙ at (item kept j) l
    where
      at : (o : Option (KeptRow d)) → given false (λ (r : KeptRow d). r.live) o ≡ true
          → given false (λ (r : KeptRow d). r.live)
          (given None (λ (r : KeptRow d). Some (record { name = r.name; answer = r.answer; live = cond (nat_eq j n) true r.live })) o) ≡ true
      at None e = e
      at (Some r) e = by_test (nat_eq j n) (λ t. rw t refl) (λ t. rw t e)

  pub woken_live : (kept : List (KeptRow d)) (n : ℕ) → IsSome (item kept n) → is_live d (kept_woken d kept n) n ≡ true
  woken_live kept n h = let (r, e) = have (item kept n) h in
      ap (given false (λ (r : KeptRow d). r.live)) (woken_here kept n
      ∙ ap (given None (λ (r : KeptRow d). Some (record { name = r.name; answer = r.answer; live = true }))) e)

  pub live_before : (kept : List (KeptRow d)) (n j : ℕ) → (j ≡ n → ⊥) → is_live d (kept_woken d kept n) j ≡ is_live d kept j
  live_before kept n j other = ap (given false (λ (r : KeptRow d). r.live)) (woken_else kept n j other)

  woken_count : (kept : List (KeptRow d)) (n : ℕ) → IsSome (item kept n) → is_live d kept n ≡ false → kept_live d (kept_woken d kept n) ≡ kept_live d kept + 1
  woken_count [] n h e = cc
  woken_count (r ∷ kept) zero h e =
      let q : KeptRow d = record { name = r.name; answer = r.answer; live = true } in
      let a : kept_live d (q ∷ kept) ≡ 1 + kept_live d kept = count_cons (λ (z : KeptRow d). z.live) q kept in
      let b : kept_live d (r ∷ kept) ≡ kept_live d kept = count_cons (λ (z : KeptRow d). z.live) r kept ∙ dead r.live (kept_live d kept) e in
      omega arith
  woken_count (r ∷ kept) (suc n) h e =
      let k : kept_live d (kept_woken d kept n) ≡ kept_live d kept + 1 = woken_count kept n h e in
      let a : kept_live d (r ∷ kept_woken d kept n) ≡ cond r.live 1 0 + kept_live d (kept_woken d kept n) =
      count_cons (λ (z : KeptRow d). z.live) r (kept_woken d kept n) in
      let b : kept_live d (r ∷ kept) ≡ cond r.live 1 0 + kept_live d kept = count_cons (λ (z : KeptRow d). z.live) r kept in
      omega arith

  at_most_one : (o : Option d.Value) → one_at_none o ≤ 1
  at_most_one None = omega arith
  at_most_one (Some v) = omega arith

  woken_nones : (kept : List (KeptRow d)) (n : ℕ) → kept_nones d (kept_woken d kept n) ≤ kept_nones d kept + 1
  woken_nones [] n = omega arith
  woken_nones (r ∷ kept) zero = let a = at_most_one r.answer in omega arith
  woken_nones (r ∷ kept) (suc n) = let k : kept_nones d (kept_woken d kept n) ≤ kept_nones d kept + 1 = woken_nones kept n in omega arith

  module _ (k new : Keeping d) (n : ℕ) (wakes : Wakes d k new n) where
    pub wakes_lives : (j : ℕ) → is_live d k.rows j ≡ true → is_live d new.rows j ≡ true
    wakes_lives j l = subst (λ ks. is_live d ks j ≡ true) (sym wakes.rows) (live_stays k.rows n j l)

    pub wakes_named : (j : ℕ) (y : NameOf d) → IsNamed d k.rows j y → IsNamed d new.rows j y
    wakes_named j y named = subst (HasSome (λ (z : KeptRow d). z.name ≡ y)) (sym (ap (λ ks. item ks j) wakes.rows ∙ woken_at k.rows n j))
        (at (item k.rows j) named)
      where
        at : (o : Option (KeptRow d)) → HasSome (λ (z : KeptRow d). z.name ≡ y) o → HasSome (λ (z : KeptRow d). z.name ≡ y)
            (given None (λ (r : KeptRow d). Some (record { name = r.name; answer = r.answer; live = cond (nat_eq j n) true r.live })) o)
        at None h = h
        at (Some r) h = h

    pub wakes_back : (j : ℕ) (y : NameOf d) → IsNamed d new.rows j y → IsNamed d k.rows j y
    wakes_back j y named = at (item k.rows j) (subst (HasSome (λ (z : KeptRow d). z.name ≡ y)) (ap (λ ks. item ks j) wakes.rows ∙ woken_at k.rows n j) named)
      where
        at : (o : Option (KeptRow d)) → HasSome (λ (z : KeptRow d). z.name ≡ y)
            (given None (λ (r : KeptRow d). Some (record { name = r.name; answer = r.answer; live = cond (nat_eq j n) true r.live })) o)
            → HasSome (λ (z : KeptRow d). z.name ≡ y) o
        at None h = h
        at (Some r) h = h

    module _ (some : IsSome (item k.rows n)) (asleep : is_live d k.rows n ≡ false) where
      pub wakes_count : kept_live d new.rows ≡ kept_live d k.rows + 1
      wakes_count = ap (kept_live d) wakes.rows ∙ woken_count k.rows n some asleep

      pub wakes_room : (limit : ℕ) → kept_live d k.rows < limit → kept_room d limit new.rows < kept_room d limit k.rows
      wakes_room limit room =
          let a = wakes_count in
          let b : kept_nones d new.rows ≡ kept_nones d (kept_woken d k.rows n) = ap (kept_nones d) wakes.rows in
          let c = woken_nones k.rows n in omega arith

      pub wakes_adds : (limit : ℕ) → kept_live d k.rows < limit → Adds d limit k new
      wakes_adds limit room =
          let a = wakes_count in
          record {
            more = omega arith;
            room = λ h. wakes_room limit room;
            rows = λ e. absurd (omega arith);
            dirty = λ e. absurd (omega arith);
          }

      pub wakes_extends : Extends d k.rows new.rows
      wakes_extends = record { live = let a = wakes_count in omega arith; names = wakes_named; lives = wakes_lives }

module _ (d : Domain) (g : Program d) (laws : IsLawful d g) (k new : Keeping d) (rows : List (WorkRow d)) (keeps : Keeps d g k None rows) (n : ℕ)
    (r : WorkRow d) (at : item rows n ≡ Some r) (wakes : Wakes d k new n) where
  abbrev wake : WorkRow d → WorkRow d
  wake = after_waking d r.name

  abbrev changed : ℕ → KeptRow d → KeptRow d
  changed b kept = record { name = kept.name; answer = kept.answer; live = cond (nat_eq b n) true kept.live }

  new_at : (j : ℕ) → item new.rows j ≡ given None (λ z. Some (changed j z)) (item k.rows j)
  new_at j = ap (λ ks. item ks j) wakes.rows ∙ woken_at d k.rows n j

  some_kept : (j : ℕ) → IsSome (item k.rows j) → IsSome (item new.rows j)
  some_kept j h = let (kept, e) = have (item k.rows j) h in
      there (item new.rows j) (changed j kept) (new_at j ∙ ap (given None (λ z. Some (changed j z))) e)

  woken_row : (b : ℕ) (kept : KeptRow d) (q : WorkRow d) → item k.rows b ≡ Some kept → item rows b ≡ Some q → KeepsRow d g k None b kept q
      → KeepsRow d g new None b (changed b kept) (wake q)
  woken_row b kept q e f h =
      record {
        name = h.name;
        answer = h.answer;
        live =
            by_test (d.same_name q.name r.name)
            (λ t. let u : nat_eq b n ≡ true = eq-eqb b n (one_place d g laws rows keeps.own b n q r f at (laws.same_true q.name r.name t)) in rw (t, u) refl)
            (λ t. let u : nat_eq b n ≡ false = elsewhere t in rw (t, u) h.live);
        dirty = λ j c s. wakes.dirty b (suc j) ∙ h.dirty j c s;
        calls = λ j c s clean shut l y named.
            subst (λ (z : Bool). (z ≡ true) ↔ IsIn y (q.calls j)) (sym (wakes.calls b (suc j) l))
            (h.calls j c s clean (some_not (b, j)) l y (wakes_back d k new n wakes l y named));
        dirty_clauses = λ m t. h.dirty_clauses m (sym (wakes.dirty b m) ∙ t);
        calls_clauses = λ m j t. h.calls_clauses m j (sym (wakes.calls b m j) ∙ t);
      }
    where
      elsewhere : d.same_name q.name r.name ≡ false → nat_eq b n ≡ false
      elsewhere t =
          by_test (nat_eq b n)
          (λ u.
          let both : Some q ≡ Some r = sym f ∙ ap (item rows) (eqb-true b n u) ∙ at in
          let same : q ≡ r = cc in
          let v : d.same_name q.name r.name ≡ true = subst (λ (z : WorkRow d). d.same_name z.name r.name ≡ true) (sym same) (laws.same_refl r.name) in
          let l : true ≡ false = sym v ∙ t in cc)
          (λ u. u)

  -- Theorem: where a row is woken, the arcs keep the work with that row live.
  pub woken : Keeps d g new None (map wake rows)
  woken =
      record {
        own = own_map d g laws wake (λ q. refl) rows keeps.own;
        each = λ a.
            subst (λ (o : Option (WorkRow d)). AtBoth (KeepsRow d g new None a) (item new.rows a) o) (sym (item_map wake rows a))
            (subst (λ (o : Option (KeptRow d)). AtBoth (KeepsRow d g new None a) o (given None (λ q. Some (wake q)) (item rows a))) (sym (new_at a))
            (at_row a (item k.rows a) (item rows a) refl refl (keeps.each a)));
        dirty_rows = λ a m e. some_kept a (keeps.dirty_rows a m (sym (wakes.dirty a m) ∙ e));
        calls_rows = λ a m j e. let (u, v) = keeps.calls_rows a m j (sym (wakes.calls a m j) ∙ e) in (some_kept a u, some_kept j v);
      }
    where
      at_row : (b : ℕ) (o : Option (KeptRow d)) (u : Option (WorkRow d)) → item k.rows b ≡ o → item rows b ≡ u → AtBoth (KeepsRow d g k None b) o u
          → AtBoth (KeepsRow d g new None b) (given None (λ z. Some (changed b z)) o) (given None (λ q. Some (wake q)) u)
      at_row b None None e f h = tt
      at_row b None (Some q) e f h = h
      at_row b (Some kept) None e f h = h
      at_row b (Some kept) (Some q) e f h = woken_row b kept q e f h
