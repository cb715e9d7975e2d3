-- One step of legal work at a table and its arcs: what they keep before it, and what after.
use Rattle.std.proofs.Common.{◌≡◌, ◌↔◌, ℕ, zero, suc, Bool, true, false, cond, ◌&&◌, ◌||◌, nat_eq, eqb-true, List, map, Option, Some, None, IsSome, sym, refl}
use Rattle.std.proofs.Common.{ap, ap₂, ◌∙◌, subst, arith}
use Rattle.std.proofs.lemmas.Bool.{eq-eqb}
use Rattle.plai_theory.specs.Words.{IsIn, given, item}
use Rattle.plai_theory.specs.Domain.{Domain, Program, IsLawful}
use Rattle.plai_theory.specs.Evaluation.{NameOf}
use Rattle.plai_theory.specs.LegalWork.{WorkRow, after_evaluating}
use Rattle.plai_theory.proofs.Options.{by_test}
use Rattle.plai_fix_laws.specs.WorkStates.{KeptRow, Keeping, clause_at, IsNamed, KeepsRow, AtBoth, Keeps}
use Rattle.plai_fix_laws.specs.Changes.{Clears, SetsCalls}
use Rattle.plai_fix_laws.proofs.Places.{item_map, both_map, one_place, own_map, there, in_both}

pub some_not : {A : Type 0} (x : A) → None ≡ Some x → ⊥
some_not x e = cc

pub same_test : (p q : Bool) → (p ≡ true → q ≡ true) → (q ≡ true → p ≡ true) → p ≡ q
same_test true true h k = refl
same_test true false h k = sym (h refl)
same_test false true h k = k refl
same_test false false h k = refl

pub or_right : (p q : Bool) → q ≡ true → (p || q) ≡ true
or_right true q e = refl
or_right false q e = e

pub or_false : (p q : Bool) → q ≡ false → (p || q) ≡ p
or_false true q e = refl
or_false false q e = e

pub or_cases : {P : Type 0} (p q : Bool) → (p || q) ≡ true → (p ≡ true → P) → (q ≡ true → P) → P
or_cases true q e h k = h refl
or_cases false q e h k = k e

pub and_right : (p q : Bool) → (p && q) ≡ true → q ≡ true
and_right true q e = e
and_right false q e = cc

pub cond_true : (p : Bool) (q : Bool) → q ≡ true → cond p true q ≡ true
cond_true true q e = refl
cond_true false q e = e

module _ (d : Domain) (g : Program d) (laws : IsLawful d g) where
  -- the row under work at the place of a kept row
  pub row_at : (k : Keeping d) (open_pair : Option (ℕ × ℕ)) (rows : List (WorkRow d)) → Keeps d g k open_pair rows → (n : ℕ) (r : WorkRow d)
      → item rows n ≡ Some r
      → (kept : KeptRow d) × (item k.rows n ≡ Some kept) × KeepsRow d g k open_pair n kept r
  row_at k open_pair rows keeps n r e = in_both (KeepsRow d g k open_pair n) (item k.rows n) (item rows n) r e (keeps.each n)

  -- Theorem: where the pair of a row is evaluated, the arcs with that pair clean keep the work, with that pair open.
  module _ (k new : Keeping d) (rows : List (WorkRow d)) (keeps : Keeps d g k None rows) (n i : ℕ) (r : WorkRow d) (at : item rows n ≡ Some r)
      (names : List (NameOf d)) (clears : Clears d k new n i) where
    cleared_row : (a : ℕ) (kept : KeptRow d) (q : WorkRow d) → item k.rows a ≡ Some kept → item rows a ≡ Some q → KeepsRow d g k None a kept q
        → KeepsRow d g new (Some (n, i)) a kept (after_evaluating d r.name i names q)
    cleared_row a kept q e f h =
        record {
          name = h.name;
          answer = h.answer;
          live = h.live;
          dirty = λ j c s.
              by_test (d.same_name q.name r.name)
              (λ t.
              let place : a ≡ n = one_place d g laws rows keeps.own a n q r f at (laws.same_true q.name r.name t) in
              let u : nat_eq a n ≡ true = eq-eqb a n place in
              by_test (nat_eq i j)
              (λ v. let w : nat_eq (suc j) (suc i) ≡ true = eq-eqb (suc j) (suc i) (ap suc (sym (eqb-true i j v))) in
              rw (t, v) (clears.dirty a (suc j) ∙ rw (u, w) refl))
              (λ v. let w : nat_eq (suc j) (suc i) ≡ false =
              by_test (nat_eq (suc j) (suc i)) (λ z. let b : suc j ≡ suc i = eqb-true (suc j) (suc i) z in let l : true ≡ false =
              sym (eq-eqb i j (omega arith)) ∙ v in cc) (λ z. z) in
              rw (t, v) (clears.dirty a (suc j) ∙ rw (u, w) (h.dirty j c s))))
              (λ t. rw t (clears.dirty a (suc j) ∙ rw (elsewhere a q f t) (h.dirty j c s)));
          calls = λ j c s clean shut b y named.
              by_test (d.same_name q.name r.name)
              (λ t.
              let place : a ≡ n = one_place d g laws rows keeps.own a n q r f at (laws.same_true q.name r.name t) in
              by_test (nat_eq i j)
              (λ v. absurd (shut (ap₂ (λ (x z : ℕ). Some (x, z)) (sym place) (eqb-true i j v))))
              (λ v. rw (t, v) (old j c s (rw (t, v) at clean) b y named)))
              (λ t. rw t (old j c s (rw t at clean) b y named));
          dirty_clauses = λ m e. h.dirty_clauses m (and_right _ _ (sym (clears.dirty a m) ∙ e));
          calls_clauses = λ m j e. h.calls_clauses m j (sym (clears.calls a m j) ∙ e);
        }
      where
        elsewhere : (a : ℕ) (q : WorkRow d) → item rows a ≡ Some q → d.same_name q.name r.name ≡ false → nat_eq a n ≡ false
        elsewhere a q f t =
            by_test (nat_eq a n)
            (λ u.
            let place : a ≡ n = eqb-true a n u in
            let both : Some q ≡ Some r = sym f ∙ ap (item rows) place ∙ at in
            let same : q ≡ r = cc in
            let v : d.same_name q.name r.name ≡ true = subst (λ (z : WorkRow d). d.same_name z.name r.name ≡ true) (sym same) (laws.same_refl r.name) in
            let l : true ≡ false = sym v ∙ t in cc)
            (λ u. u)

        old : (j : ℕ) (c : d.Clause) → item (g.clauses q.name.pred) j ≡ Some c → q.dirty j ≡ false → (b : ℕ) (y : NameOf d) → IsNamed d new.rows b y
            → (new.calls a (suc j) b ≡ true) ↔ IsIn y (q.calls j)
        old j c s clean b y named =
            subst (λ (z : Bool). (z ≡ true) ↔ IsIn y (q.calls j)) (sym (clears.calls a (suc j) b))
            (h.calls j c s clean (some_not (a, j)) b y (subst (λ (rs : List (KeptRow d)). IsNamed d rs b y) clears.rows named))

    pub cleared : Keeps d g new (Some (n, i)) (map (after_evaluating d r.name i names) rows)
    cleared =
        record {
          own = own_map d g laws (after_evaluating d r.name i names) (λ q. refl) rows keeps.own;
          each = λ a.
              subst (λ (o : Option (WorkRow d)). AtBoth (KeepsRow d g new (Some (n, i)) a) (item new.rows a) o)
              (sym (item_map (after_evaluating d r.name i names) rows a))
              (subst (λ (rs : List (KeptRow d)). AtBoth (KeepsRow d g new (Some (n, i)) a) (item rs a)
              (given None (λ q. Some (after_evaluating d r.name i names q)) (item rows a))) (sym clears.rows)
              (both_map (KeepsRow d g k None a) (KeepsRow d g new (Some (n, i)) a) (after_evaluating d r.name i names) (item k.rows a) (item rows a)
              (keeps.each a) (cleared_row a)));
          dirty_rows = λ a m e. subst (λ (rs : List (KeptRow d)). IsSome (item rs a)) (sym clears.rows)
              (keeps.dirty_rows a m (and_right _ _ (sym (clears.dirty a m) ∙ e)));
          calls_rows = λ a m j e.
              subst (λ (rs : List (KeptRow d)). IsSome (item rs a) × IsSome (item rs j)) (sym clears.rows)
              (keeps.calls_rows a m j (sym (clears.calls a m j) ∙ e));
        }

  -- fewer pairs are asked about where one is open
  pub opened : (k : Keeping d) (rows : List (WorkRow d)) → Keeps d g k None rows → (open_pair : Option (ℕ × ℕ)) → Keeps d g k open_pair rows
  opened k rows keeps open_pair =
      record { own = keeps.own; each = λ a. at (item k.rows a) (item rows a) a (keeps.each a); dirty_rows = keeps.dirty_rows; calls_rows = keeps.calls_rows }
    where
      at : (o : Option (KeptRow d)) (u : Option (WorkRow d)) (a : ℕ) → AtBoth (KeepsRow d g k None a) o u → AtBoth (KeepsRow d g k open_pair a) o u
      at None None a h = tt
      at None (Some q) a h = h
      at (Some kept) None a h = h
      at (Some kept) (Some q) a h =
          record {
            name = h.name;
            answer = h.answer;
            live = h.live;
            dirty = h.dirty;
            calls = λ j c s clean shut. h.calls j c s clean (some_not (a, j));
            dirty_clauses = h.dirty_clauses;
            calls_clauses = h.calls_clauses;
          }

  -- Theorem: where the calls of the open pair are set to the rows of the names that its evaluation called, no pair is open.
  module _ (k new : Keeping d) (rows : List (WorkRow d)) (n i : ℕ) (keeps : Keeps d g k (Some (n, i)) rows) (r : WorkRow d) (at : item rows n ≡ Some r)
      (c : d.Clause) (is_clause : item (g.clauses r.name.pred) i ≡ Some c)
      (called : ℕ → Bool) (sets : SetsCalls d k new n i called) (inside : (j : ℕ) → called j ≡ true → IsSome (item k.rows j))
      (right : (j : ℕ) (y : NameOf d) → IsNamed d k.rows j y → (called j ≡ true) ↔ IsIn y (r.calls i)) where
    -- the pair, or another one
    by_pair : {P : Type 0} (a m : ℕ) → (a ≡ n → m ≡ i → P) → ((a ≡ n → suc m ≡ suc i → ⊥) → P) → P
    by_pair a m h other =
        by_test (nat_eq a n && nat_eq m i)
        (λ t. h (eqb-true a n (first (nat_eq a n) (nat_eq m i) t)) (eqb-true m i (and_right (nat_eq a n) (nat_eq m i) t)))
        (λ t. other (λ e f. let u : nat_eq a n ≡ true = eq-eqb a n e in let v : nat_eq m i ≡ true = eq-eqb m i (omega arith) in let l : true ≡ false =
        rw (u, v) at t in cc))
      where
        first : (p q : Bool) → (p && q) ≡ true → p ≡ true
        first true q e = refl
        first false q e = e

    -- a call that is there now
    by_call : {P : Type 0} (a m j : ℕ) → new.calls a m j ≡ true → (a ≡ n → m ≡ suc i → called j ≡ true → P) → (k.calls a m j ≡ true → P) → P
    by_call a zero j e h other = other (sym (sets.others a zero j (λ u v. absurd (omega arith))) ∙ e)
    by_call a (suc m) j e h other =
        by_pair a m
        (λ u v. h u (ap suc v) (sym (sets.own j) ∙ sym (ap₂ (λ x z. new.calls x z j) u (ap suc v)) ∙ e))
        (λ w. other (sym (sets.others a (suc m) j w) ∙ e))

    closed_row : (a : ℕ) (kept : KeptRow d) (q : WorkRow d) → item k.rows a ≡ Some kept → item rows a ≡ Some q → KeepsRow d g k (Some (n, i)) a kept q
        → KeepsRow d g new None a kept q
    closed_row a kept q e f h =
        record {
          name = h.name;
          answer = h.answer;
          live = h.live;
          dirty = λ j b s. sets.dirty a (suc j) ∙ h.dirty j b s;
          calls = λ j b s clean shut l y named.
              let before : IsNamed d k.rows l y = subst (λ (rs : List (KeptRow d)). IsNamed d rs l y) sets.rows named in
              by_pair a j
              (λ u v.
              let both : Some q ≡ Some r = sym f ∙ ap (item rows) u ∙ at in
              let same : q ≡ r = cc in
              let is : new.calls a (suc j) l ≡ called l = ap₂ (λ x z. new.calls x (suc z) l) u v ∙ sets.own l in
              subst (λ (z : Bool). (z ≡ true) ↔ IsIn y (q.calls j)) (sym is)
              (subst (λ (ns : List (NameOf d)). (called l ≡ true) ↔ IsIn y ns) (sym (ap₂ (λ (z : WorkRow d) (m : ℕ). z.calls m) same v)) (right l y before)))
              (λ w. subst (λ (z : Bool). (z ≡ true) ↔ IsIn y (q.calls j)) (sym (sets.others a (suc j) l w))
              (h.calls j b s clean (λ p. let x : n ≡ a = ap (fst n) p in let z : i ≡ j = ap (snd i) p in w (sym x) (ap suc (sym z))) l y before));
          dirty_clauses = λ m d. h.dirty_clauses m (sym (sets.dirty a m) ∙ d);
          calls_clauses = λ m j b.
              by_call a m j b
              (λ u v t.
              let both : Some q ≡ Some r = sym f ∙ ap (item rows) u ∙ at in
              let same : q ≡ r = cc in
              let s : item (g.clauses q.name.pred) i ≡ Some c = ap (λ (z : WorkRow d). item (g.clauses z.name.pred) i) same ∙ is_clause in
              subst (λ z. IsSome (clause_at d g q.name.pred z)) (sym v) (there (item (g.clauses q.name.pred) i) c s))
              (λ t. h.calls_clauses m j t);
        }
      where
        fst : ℕ → Option (ℕ × ℕ) → ℕ
        fst z None = z
        fst z (Some p) = p.0

        snd : ℕ → Option (ℕ × ℕ) → ℕ
        snd z None = z
        snd z (Some p) = p.1

    pub closed : Keeps d g new None rows
    closed =
        record {
          own = keeps.own;
          each = λ a.
              subst (λ (rs : List (KeptRow d)). AtBoth (KeepsRow d g new None a) (item rs a) (item rows a)) (sym sets.rows)
              (at_row a (item k.rows a) (item rows a) refl refl (keeps.each a));
          dirty_rows = λ a m e. subst (λ (rs : List (KeptRow d)). IsSome (item rs a)) (sym sets.rows) (keeps.dirty_rows a m (sym (sets.dirty a m) ∙ e));
          calls_rows = λ a m j e.
              subst (λ (rs : List (KeptRow d)). IsSome (item rs a) × IsSome (item rs j)) (sym sets.rows)
              (by_call a m j e
              (λ u v t. let (kept, f, h) = row_at k (Some (n, i)) rows keeps n r at in (there (item k.rows a) kept (ap (item k.rows) u ∙ f), inside j t))
              (λ t. keeps.calls_rows a m j t));
        }
      where
        at_row : (a : ℕ) (o : Option (KeptRow d)) (u : Option (WorkRow d)) → item k.rows a ≡ o → item rows a ≡ u → AtBoth (KeepsRow d g k (Some (n, i)) a) o u
            → AtBoth (KeepsRow d g new None a) o u
        at_row a None None e f h = tt
        at_row a None (Some q) e f h = h
        at_row a (Some kept) None e f h = h
        at_row a (Some kept) (Some q) e f h = closed_row a kept q e f h
