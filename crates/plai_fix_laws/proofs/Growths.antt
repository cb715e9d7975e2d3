-- A growth and a made row at a table and its arcs: what they keep before it, and what after.
use Rattle.std.proofs.Common.{◌≡◌, ◌↔◌, ℕ, suc, Bool, true, false, cond, ◌||◌, nat_eq, eqb-true, List, [], ◌∷◌, ◌++◌, map, length, Option, Some, None, IsSome}
use Rattle.std.proofs.Common.{sym, refl, ap, ◌∙◌, subst}
use Rattle.std.proofs.lemmas.Bool.{eq-eqb, eqb-false}
use Rattle.plai_theory.specs.Words.{IsIn, given, item, HasSome}
use Rattle.plai_theory.specs.Domain.{Domain, Program, IsLawful}
use Rattle.plai_theory.specs.Evaluation.{NameOf}
use Rattle.plai_theory.specs.LegalWork.{WorkRow, find, mentions, new_row, after_growing}
use Rattle.plai_theory.proofs.Options.{by_test}
use Rattle.plai_fix_laws.specs.WorkStates.{KeptRow, Keeping, IsNamed, KeepsRow, AtBoth, Keeps}
use Rattle.plai_fix_laws.specs.Changes.{Answers, Makes}
use Rattle.plai_fix_laws.proofs.Places.{item_map, both_push, one_place, mentions_in, in_mentions, own_map, own_push, push_at, push_before, push_cases, none_at_end, there, have, has_some}
use Rattle.plai_fix_laws.proofs.Steps.{row_at, some_not, same_test, or_right, or_false, or_cases, cond_true}

module _ (d : Domain) (g : Program d) (laws : IsLawful d g) where
  -- Theorem: where the answer of a row grows and its callers are marked, the arcs keep the grown work.
  module _ (k new : Keeping d) (rows : List (WorkRow d)) (keeps : Keeps d g k None rows) (n : ℕ) (r : WorkRow d) (at : item rows n ≡ Some r)
      (a : Option d.Value) (answers : Answers d k new n a) where
    abbrev grow : WorkRow d → WorkRow d
    grow = after_growing d r.name a

    abbrev changed : ℕ → KeptRow d → KeptRow d
    changed b kept = record { name = kept.name; answer = cond (nat_eq b n) a kept.answer; live = kept.live }

    some_kept : (j : ℕ) → IsSome (item k.rows j) → IsSome (item new.rows j)
    some_kept j h = let (kept, e) = have (item k.rows j) h in
        there (item new.rows j) (changed j kept) (answers.rows j ∙ ap (given None (λ z. Some (changed j z))) e)

    named_before : (j : ℕ) (y : NameOf d) → IsNamed d new.rows j y → IsNamed d k.rows j y
    named_before j y h = at_kept (item k.rows j) (subst (λ (o : Option (KeptRow d)). HasSome (λ (z : KeptRow d). z.name ≡ y) o) (answers.rows j) h)
      where
        at_kept : (o : Option (KeptRow d)) → HasSome (λ (z : KeptRow d). z.name ≡ y) (given None (λ z. Some (changed j z)) o)
            → HasSome (λ (z : KeptRow d). z.name ≡ y) o
        at_kept None h = h
        at_kept (Some kept) h = h

    own_name : IsNamed d k.rows n r.name
    own_name = let (kept, e, h) = row_at d g laws k None rows keeps n r at in has_some (λ (z : KeptRow d). z.name ≡ r.name) (item k.rows n) kept e h.name

    grown_row : (b : ℕ) (kept : KeptRow d) (q : WorkRow d) → item k.rows b ≡ Some kept → item rows b ≡ Some q → KeepsRow d g k None b kept q
        → KeepsRow d g new None b (changed b kept) (grow q)
    grown_row b kept q e f h =
        record {
          name = h.name;
          answer =
              by_test (d.same_name q.name r.name)
              (λ t. let u : nat_eq b n ≡ true = eq-eqb b n (one_place d g laws rows keeps.own b n q r f at (laws.same_true q.name r.name t)) in rw (t, u) refl)
              (λ t. let u : nat_eq b n ≡ false = elsewhere t in rw (t, u) h.answer);
          live = h.live;
          dirty = λ j c s. answers.dirty b (suc j) ∙ marked j c s;
          calls = λ j c s clean shut l y named.
              subst (λ (z : Bool). (z ≡ true) ↔ IsIn y (q.calls j)) (sym (answers.calls b (suc j) l))
              (h.calls j c s (was_clean j clean) (some_not (b, j)) l y (named_before l y named));
          dirty_clauses = λ m t. or_cases (k.calls b m n) (k.dirty b m) (sym (answers.dirty b m) ∙ t) (h.calls_clauses m n) (h.dirty_clauses m);
          calls_clauses = λ m j t. h.calls_clauses m j (sym (answers.calls b m j) ∙ t);
        }
      where
        elsewhere : d.same_name q.name r.name ≡ false → nat_eq b n ≡ false
        elsewhere t =
            by_test (nat_eq b n)
            (λ u.
            let both : Some q ≡ Some r = sym f ∙ ap (item rows) (eqb-true b n u) ∙ at in
            let same : q ≡ r = cc in
            let v : d.same_name q.name r.name ≡ true = subst (λ (z : WorkRow d). d.same_name z.name r.name ≡ true) (sym same) (laws.same_refl r.name) in
            let l : true ≡ false = sym v ∙ t in cc)
            (λ u. u)

        was_clean : (j : ℕ) → cond (mentions d r.name (q.calls j)) true (q.dirty j) ≡ false → q.dirty j ≡ false
        was_clean j e = by_test (mentions d r.name (q.calls j)) (λ t. let l : true ≡ false = rw t at e in cc) (λ t. rw t at e)

        marked : (j : ℕ) (c : d.Clause) → item (g.clauses q.name.pred) j ≡ Some c
            → (k.calls b (suc j) n || k.dirty b (suc j)) ≡ cond (mentions d r.name (q.calls j)) true (q.dirty j)
        marked j c s =
            by_test (q.dirty j)
            (λ t. or_right (k.calls b (suc j) n) (k.dirty b (suc j)) (h.dirty j c s ∙ t) ∙ sym (cond_true (mentions d r.name (q.calls j)) (q.dirty j) t))
            (λ t.
            or_false (k.calls b (suc j) n) (k.dirty b (suc j)) (h.dirty j c s ∙ t)
            ∙ same_test (k.calls b (suc j) n) (cond (mentions d r.name (q.calls j)) true (q.dirty j))
            (λ u. let v : mentions d r.name (q.calls j) ≡ true =
            in_mentions d g laws r.name (q.calls j) ((h.calls j c s t (some_not (b, j)) n r.name own_name).0 u) in rw v refl)
            (λ u. (h.calls j c s t (some_not (b, j)) n r.name own_name).1 (mentions_in d g laws r.name (q.calls j)
            (by_test (mentions d r.name (q.calls j)) (λ v. v) (λ v. let l : false ≡ true = sym t ∙ (rw v at u) in cc)))))

    pub grown : Keeps d g new None (map grow rows)
    grown =
        record {
          own = own_map d g laws grow (λ q. refl) rows keeps.own;
          each = λ b.
              subst (λ (o : Option (WorkRow d)). AtBoth (KeepsRow d g new None b) (item new.rows b) o) (sym (item_map grow rows b))
              (subst (λ (o : Option (KeptRow d)). AtBoth (KeepsRow d g new None b) o (given None (λ q. Some (grow q)) (item rows b))) (sym (answers.rows b))
              (at_row b (item k.rows b) (item rows b) refl refl (keeps.each b)));
          dirty_rows = λ b m t.
              some_kept b (or_cases (k.calls b m n) (k.dirty b m) (sym (answers.dirty b m) ∙ t) (λ u. (keeps.calls_rows b m n u).0) (keeps.dirty_rows b m));
          calls_rows = λ b m j t. let (u, v) = keeps.calls_rows b m j (sym (answers.calls b m j) ∙ t) in (some_kept b u, some_kept j v);
        }
      where
        at_row : (b : ℕ) (o : Option (KeptRow d)) (u : Option (WorkRow d)) → item k.rows b ≡ o → item rows b ≡ u → AtBoth (KeepsRow d g k None b) o u
            → AtBoth (KeepsRow d g new None b) (given None (λ z. Some (changed b z)) o) (given None (λ q. Some (grow q)) u)
        at_row b None None e f h = tt
        at_row b None (Some q) e f h = h
        at_row b (Some kept) None e f h = h
        at_row b (Some kept) (Some q) e f h = grown_row b kept q e f h

  -- Theorem: where a row is made for a name that no pair but an open one calls, the arcs keep the work with that row.
  module _ (k new : Keeping d) (rows : List (WorkRow d)) (open_pair : Option (ℕ × ℕ)) (keeps : Keeps d g k open_pair rows) (x : NameOf d)
      (absent : find d rows x ≡ None)
      (uncalled : (a : ℕ) (q : WorkRow d) → item rows a ≡ Some q → (j : ℕ) (c : d.Clause) → item (g.clauses q.name.pred) j ≡ Some c → q.dirty j ≡ false
      → (open_pair ≡ Some (a, j) → ⊥) → IsIn x (q.calls j) → ⊥) (makes : Makes d g k new x) where
    abbrev new_kept : KeptRow d
    new_kept = record { name = x; answer = None; live = true }

    rows_are : new.rows ≡ k.rows ++ new_kept ∷ []
    rows_are = makes.rows

    some_before : (j : ℕ) → IsSome (item k.rows j) → IsSome (item new.rows j)
    some_before j h =
        let (kept, e) = have (item k.rows j) h in
        subst (λ (rs : List (KeptRow d)). IsSome (item rs j)) (sym rows_are)
        (there (item (k.rows ++ new_kept ∷ []) j) kept (push_before k.rows new_kept kept j e))

    -- no pair of the new row is one of the old arcs
    not_last : (a : ℕ) → IsSome (item k.rows a) → a ≡ length k.rows → ⊥
    not_last a h e =
        let c : IsSome {T = KeptRow d} None = subst IsSome (ap (item k.rows) e ∙ none_at_end k.rows) h in cc

    by_name : {P : Type 0} (j : ℕ) (y : NameOf d) → IsNamed d new.rows j y → (IsNamed d k.rows j y → P) → (j ≡ length k.rows → x ≡ y → P) → P
    by_name {P} j y named h last =
        at_kept (item (k.rows ++ new_kept ∷ []) j) refl (subst (λ (rs : List (KeptRow d)). IsNamed d rs j y) rows_are named)
      where
        at_kept : (o : Option (KeptRow d)) → item (k.rows ++ new_kept ∷ []) j ≡ o → HasSome (λ (z : KeptRow d). z.name ≡ y) o → P
        at_kept None e n = absurd n
        at_kept (Some kept) e n =
            push_cases k.rows new_kept kept j e
            (λ f. h (has_some (λ (z : KeptRow d). z.name ≡ y) (item k.rows j) kept f n))
            (λ f s. last f (ap (λ (z : KeptRow d). z.name) s ∙ n))

    dirty_before : (a m : ℕ) → IsSome (item k.rows a) → new.dirty a m ≡ k.dirty a m
    dirty_before a m h = makes.others a m (not_last a h)

    kept_row : (a : ℕ) (kept : KeptRow d) (q : WorkRow d) → item k.rows a ≡ Some kept → item rows a ≡ Some q → KeepsRow d g k open_pair a kept q
        → KeepsRow d g new open_pair a kept q
    kept_row a kept q e f h =
        let here : IsSome (item k.rows a) = there (item k.rows a) kept e in
        record {
          name = h.name;
          answer = h.answer;
          live = h.live;
          dirty = λ j c s. dirty_before a (suc j) here ∙ h.dirty j c s;
          calls = λ j c s clean shut l y named.
              subst (λ (z : Bool). (z ≡ true) ↔ IsIn y (q.calls j)) (sym (makes.calls a (suc j) l))
              (by_name l y named (h.calls j c s clean shut l y)
              (λ last same. (
                λ t. absurd (not_last l (keeps.calls_rows a (suc j) l t).1 last),
                λ i. absurd (uncalled a q f j c s clean shut (subst (λ (z : NameOf d). IsIn z (q.calls j)) (sym same) i)),
              )));
          dirty_clauses = λ m t. h.dirty_clauses m (sym (dirty_before a m here) ∙ t);
          calls_clauses = λ m j t. h.calls_clauses m j (sym (makes.calls a m j) ∙ t);
        }

    last_row : KeepsRow d g new open_pair (length k.rows) new_kept (new_row d x)
    last_row =
        record {
          name = refl;
          answer = refl;
          live = refl;
          dirty = λ j c s. (makes.own (suc j)).1 (there (item (g.clauses x.pred) j) c s);
          calls = λ j c s clean shut l y named. cc;
          dirty_clauses = λ m t. (makes.own m).0 t;
          calls_clauses = λ m j t. absurd (not_last (length k.rows) (keeps.calls_rows (length k.rows) m j (sym (makes.calls (length k.rows) m j) ∙ t)).0 refl);
        }

    pub made : Keeps d g new open_pair (rows ++ new_row d x ∷ [])
    made =
        record {
          own = own_push d g laws rows (new_row d x) keeps.own absent;
          each = λ a. subst (λ (rs : List (KeptRow d)). AtBoth (KeepsRow d g new open_pair a) (item rs a) (item (rows ++ new_row d x ∷ []) a)) (sym rows_are)
              (both_push (KeepsRow d g new open_pair) k.rows rows new_kept (new_row d x)
              (λ b. at_row b (item k.rows b) (item rows b) refl refl (keeps.each b)) last_row a);
          dirty_rows = λ a m t.
              by_test (nat_eq a (length k.rows))
              (λ u. subst (λ (z : ℕ). IsSome (item new.rows z)) (sym (eqb-true a (length k.rows) u)) last_there)
              (λ u. some_before a (keeps.dirty_rows a m (sym (makes.others a m (eqb-false a (length k.rows) u)) ∙ t)));
          calls_rows = λ a m j t. let (u, v) = keeps.calls_rows a m j (sym (makes.calls a m j) ∙ t) in (some_before a u, some_before j v);
        }
      where
        last_there : IsSome (item new.rows (length k.rows))
        last_there = subst (λ (rs : List (KeptRow d)). IsSome (item rs (length k.rows))) (sym rows_are)
            (there (item (k.rows ++ new_kept ∷ []) (length k.rows)) new_kept (push_at k.rows new_kept))

        at_row : (b : ℕ) (o : Option (KeptRow d)) (u : Option (WorkRow d)) → item k.rows b ≡ o → item rows b ≡ u → AtBoth (KeepsRow d g k open_pair b) o u
            → AtBoth (KeepsRow d g new open_pair b) o u
        at_row b None None e f h = tt
        at_row b None (Some q) e f h = h
        at_row b (Some kept) None e f h = h
        at_row b (Some kept) (Some q) e f h = kept_row b kept q e f h
