-- Rows that are woken, with all that they call, each noted at the end of a log.
use Rattle.std.proofs.Common.{◌≡◌, ◌⊎◌, ℕ, suc, ◌<◌, ◌≤◌, length, Bool, true, false, ◌&&◌, ◌||◌, nat_eq, eqb-true, List, [], ◌∷◌, ◌++◌, map}
use Rattle.std.proofs.Common.{Some, None, IsSome, sym, refl, ap, ap₂, ◌∙◌, subst, inl, inr, arith}
use Rattle.std.proofs.lemmas.Bool.{eq-eqb}
use Rattle.plai_theory.specs.Words.{IsIn, given, item}
use Rattle.plai_theory.specs.Domain.{Domain, Program, IsLawful}
use Rattle.plai_theory.specs.Evaluation.{NameOf}
use Rattle.plai_theory.specs.LegalWork.{WorkRow, Work, LogEntry, Woke, find, after_waking, after, IsDemanded, live_count, after_all}
use Rattle.plai_theory.specs.Limits.{Limits}
use Rattle.plai_theory.proofs.Options.{by_test}
use Rattle.plai_theory.proofs.Rows.{find_name, find_map}
use Rattle.plai_theory.proofs.Walk.{after_push, legal_push}
use Rattle.plai_fix_laws.specs.WorkStates.{KeptRow, Keeping, Keeps, IsNamed, IsMet, IsMetBut, IsFull, clause_at, is_live, kept_live, no_pair, with_pair}
use Rattle.plai_fix_laws.specs.Changes.{kept_woken, Wakes}
use Rattle.plai_fix_laws.specs.Queues.{Awaits}
use Rattle.plai_fix_laws.specs.Logs.{IsWorking, IsWaking}
use Rattle.plai_fix_laws.proofs.Lists.{item_within}
use Rattle.plai_fix_laws.proofs.Places.{place_of, found_at, one_place, there, have, has_some}
use Rattle.plai_fix_laws.proofs.Steps.{row_at, some_not, or_right, or_cases}
use Rattle.plai_fix_laws.proofs.Linked.{row_under, same_live, live_at}
use Rattle.plai_fix_laws.proofs.Working.{at_map, fits_push}
use Rattle.plai_fix_laws.proofs.Wakings.{woken, wakes_lives, woken_live, wakes_count}

both : (p q : Bool) → (p && q) ≡ true → (p ≡ true) × (q ≡ true)
both true q e = (refl, e)
both false q e = cc

neither : (p q : Bool) → (p || q) ≡ false → (p ≡ false) × (q ≡ false)
neither true q e = cc
neither false q e = (refl, e)

or_left : (p q : Bool) → p ≡ true → (p || q) ≡ true
or_left true q e = refl
or_left false q e = cc

not_true : (b : Bool) → (b ≡ true → ⊥) → b ≡ false
not_true true h = absurd (h refl)
not_true false h = refl

-- where nothing is pending, all that live rows call is live
pub met_but : (d : Domain) (g : Program d) (pending unmet : ℕ → ℕ → Bool) (rows : List (WorkRow d)) → IsMet d g None unmet rows
    → IsMetBut d g pending unmet rows
met_but d g pending unmet rows met =
    record { met = λ n r e i c s clean free y inside. let (q, f, l) = met.met n r e i c s clean (some_not (n, i)) free y inside in (q, f, λ o. l) }

module _ (d : Domain) (g : Program d) (limits : Limits d) (limit : ℕ) (start : Work d) (log : List (LogEntry d)) (k : Keeping d) (unmet : ℕ → ℕ → Bool) where
  pub begins_waking : IsWorking d g limits limit start log k None None unmet → IsWaking d g limits limit start log k no_pair unmet
  begins_waking working =
      record {
        logged = working.logged;
        none_due = working.none_due;
        met = met_but d g no_pair unmet (after_all d g start log).rows working.met;
        full = working.full;
        pairs = λ n m e. cc;
      }

  pub ends_waking : IsWaking d g limits limit start log k no_pair unmet → IsWorking d g limits limit start log k None None unmet
  ends_waking waking =
      record {
        logged = waking.logged;
        none_due = waking.none_due;
        met = record { met = λ n r e i c s clean shut free y inside. let (q, f, l) = waking.met.met n r e i c s clean free y inside in (q, f, l refl) };
        full = waking.full;
      }

  -- pairs that are pending by another test
  pub waking_as : (pending other : ℕ → ℕ → Bool) → ((n m : ℕ) → pending n m ≡ other n m) → IsWaking d g limits limit start log k pending unmet
      → IsWaking d g limits limit start log k other unmet
  waking_as pending other same waking = subst (λ p. IsWaking d g limits limit start log k p unmet) (λ j n m. same n m j) waking

module _ (d : Domain) (g : Program d) (laws : IsLawful d g) (limits : Limits d) (limit : ℕ) (start : Work d) (log : List (LogEntry d)) where
  abbrev rows : List (WorkRow d)
  rows = (after_all d g start log).rows

  -- Theorem: the dormant row of a demanded name is woken.
  module _ (k new : Keeping d) (pending more unmet : ℕ → ℕ → Bool) (waking : IsWaking d g limits limit start log k pending unmet) (n : ℕ) (r : WorkRow d)
      (at : item rows n ≡ Some r) (asleep : r.live ≡ false) (demanded : IsDemanded d g rows r.name) (room : live_count d rows < limit)
      (wakes : Wakes d k new n) (awaits : Awaits n (length (g.clauses r.name.pred)) pending more) where
    abbrev wake : WorkRow d → WorkRow d
    wake = after_waking d r.name

    abbrev step : LogEntry d
    step = Woke r.name

    same : after_all d g start (log ++ step ∷ []) ≡ after d g (after_all d g start log) step
    same = after_push d g limit start log step

    keeps : Keeps d g new None (map wake rows)
    keeps = woken d g laws k new rows waking.logged.keeps n r at wakes

    kept_there : IsSome (item k.rows n)
    kept_there = let (kept, e, h) = row_at d g laws k None rows waking.logged.keeps n r at in there (item k.rows n) kept e

    asleep_kept : is_live d k.rows n ≡ false
    asleep_kept = live_at d g laws k None rows waking.logged.keeps n r at ∙ asleep

    unmarked : (a m : ℕ) → unmet a m ≡ false
    unmarked a m = by_test (unmet a m) (λ t. let f = waking.full.full a m t in absurd (omega arith)) (λ t. t)

    -- a pair that isn't pending then calls live rows, where its own is live
    live_then : (a : ℕ) (q z : WorkRow d) → item rows a ≡ Some q → (i : ℕ) (c : d.Clause) → item (g.clauses q.name.pred) i ≡ Some c → q.dirty i ≡ false
        → (pending a (suc i) ≡ false → q.live ≡ true → z.live ≡ true) → more a (suc i) ≡ false → (wake q).live ≡ true → (wake z).live ≡ true
    live_then a q z f i c s clean before free =
        by_test (d.same_name q.name r.name)
        (λ t l.
        let q_name : q.name ≡ r.name = laws.same_true q.name r.name t in
        let one : Some q ≡ Some r = sym (found_at d g laws rows waking.logged.keeps.own a q f)
        ∙ ap (find d rows) q_name ∙ found_at d g laws rows waking.logged.keeps.own n r at in
        let is_r : q ≡ r = cc in
        let place : a ≡ n = one_row a q f q_name in
        let within : i < length (g.clauses r.name.pred) = subst (λ (x : NameOf d). i < length (g.clauses x.pred)) q_name
        (item_within (g.clauses q.name.pred) i (there (item (g.clauses q.name.pred) i) c s)) in
        let own : more n (suc i) ≡ true = awaits.own (suc i) (omega arith) (omega arith) in
        let l : true ≡ false = sym own ∙ ap (λ z. more z (suc i)) (sym place) ∙ free in cc)
        (λ t l.
        let live : z.live ≡ true = before (not_true (pending a (suc i)) (λ u. let v = awaits.kept a (suc i) u in let l : true ≡ false = sym v ∙ free in cc))
        (rw t at l) in
        by_test (d.same_name z.name r.name) (λ u. rw u refl) (λ u. rw u live))
      where
        one_row : (a : ℕ) (q : WorkRow d) → item rows a ≡ Some q → q.name ≡ r.name → a ≡ n
        one_row a q f e = one_place d g laws rows waking.logged.keeps.own a n q r f at e

    pub wakes_row : IsWaking d g limits limit start (log ++ step ∷ []) new more unmet
    wakes_row =
        record {
          logged =
              record {
                legal = legal_push d g limit start log step waking.logged.legal
                    (waking.none_due, demanded, (r, found_at d g laws rows waking.logged.keeps.own n r at, asleep), room);
                fits = fits_push d g limits start log step waking.logged.fits tt;
                keeps = subst (λ (w : Work d). Keeps d g new None w.rows) (sym same) keeps;
                few = subst (λ (w : Work d). live_count d w.rows ≤ limit) (sym same)
                    (let a = same_live d g laws new None (map wake rows) keeps in
                    let b = same_live d g laws k None rows waking.logged.keeps in
                    let c = wakes_count d k new n wakes kept_there asleep_kept in omega arith);
                values = waking.logged.values;
              };
          none_due = λ y j e. let l : None ≡ Some (y, j) = sym (ap (λ (w : Work d). w.last) same) ∙ e in cc;
          met = subst (λ (w : Work d). IsMetBut d g more unmet w.rows) (sym same)
              record {
                met = λ a q e i c s clean free y inside.
                    at_map wake rows a q e (λ b f is.
                    subst (λ (w : WorkRow d). (z : WorkRow d) × (find d (map wake rows) y ≡ Some z)
                    × (more a (suc i) ≡ false → w.live ≡ true → z.live ≡ true)) is
                    (let s' : item (g.clauses b.name.pred) i ≡ Some c = subst (λ (w : WorkRow d). item (g.clauses w.name.pred) i ≡ Some c) (sym is) s in
                    let clean' : b.dirty i ≡ false = subst (λ (w : WorkRow d). w.dirty i ≡ false) (sym is) clean in
                    let (z, found, live) = waking.met.met a b f i c s' clean' free y (subst (λ (w : WorkRow d). IsIn y (w.calls i)) (sym is) inside) in (
                      wake z,
                      find_map d g laws wake (λ w. refl) rows y ∙ ap (given None (λ w. Some (wake w))) found,
                      live_then a b z f i c s' clean' live,
                    )));
              };
          full = subst (λ (w : Work d). IsFull d g limit unmet w.rows) (sym same)
              record {
                full = λ a m e. let l : true ≡ false = sym e ∙ unmarked a m in cc;
                pairs = λ a m e. let l : true ≡ false = sym e ∙ unmarked a m in cc;
                missing = λ a q e j clean marked. let l : true ≡ false = sym marked ∙ unmarked a (suc j) in cc;
              };
          pairs = λ a m e. awaited a m (awaits.only a m e);
        }
      where
        awaited : (a m : ℕ) → (pending a m ≡ true) ⊎ (a ≡ n) → is_live d new.rows a ≡ true
        awaited a m (inl p) = wakes_lives d k new n wakes a (waking.pairs a m p)
        awaited a m (inr e) =
            subst (λ ks. is_live d ks a ≡ true) (sym wakes.rows)
            (subst (λ z. is_live d (kept_woken d k.rows n) z ≡ true) (sym e) (woken_live d k.rows n kept_there))

  -- Theorem: a pending pair whose called rows are live is pending no more.
  module _ (k : Keeping d) (pending unmet : ℕ → ℕ → Bool) (n m : ℕ) (waking : IsWaking d g limits limit start log k (with_pair n m pending) unmet) where
    -- the row of a called name
    called_row : (a : ℕ) (r : WorkRow d) → item rows a ≡ Some r → (i : ℕ) (c : d.Clause) → item (g.clauses r.name.pred) i ≡ Some c → r.dirty i ≡ false
        → (y : NameOf d) → IsIn y (r.calls i) → (q : WorkRow d) → find d rows y ≡ Some q → (j : ℕ) × (item rows j ≡ Some q) × (k.calls a (suc i) j ≡ true)
    called_row a r e i c s clean y inside q f =
        let (j, place) = place_of d g laws rows y q f in
        let (kept, there', h) = row_at d g laws k None rows waking.logged.keeps j q place in
        let named : IsNamed d k.rows j y = has_some (λ (z : KeptRow d). z.name ≡ y) (item k.rows j) kept there' (h.name ∙ find_name d g laws rows y q f) in
        let (own, own_there, keep) = row_at d g laws k None rows waking.logged.keeps a r e in
        (j, place, (keep.calls i c s clean (some_not (a, i)) j y named).1 inside)

    pub meets_pair : ((j : ℕ) → k.calls n m j ≡ true → is_live d k.rows j ≡ true) → IsWaking d g limits limit start log k pending unmet
    meets_pair all =
        record {
          logged = waking.logged;
          none_due = waking.none_due;
          met = record {
            met = λ a r e i c s clean free y inside.
                let (q, f, l) = waking.met.met a r e i c s clean free y inside in (
                  q,
                  f,
                  λ o live. by_test (nat_eq a n && nat_eq (suc i) m)
                      (λ t.
                      let (u, v) = both (nat_eq a n) (nat_eq (suc i) m) t in
                      let (j, place, calls) = called_row a r e i c s clean y inside q f in
                      sym (live_at d g laws k None rows waking.logged.keeps j q place)
                      ∙ all j (ap₂ (λ x z. k.calls x z j) (sym (eqb-true a n u)) (sym (eqb-true (suc i) m v)) ∙ calls))
                      (λ t. l (rw t o) live),
                );
          };
          full = waking.full;
          pairs = λ a b e. waking.pairs a b (or_right (nat_eq a n && nat_eq b m) (pending a b) e);
        }

    -- Theorem: so is one that is dirty.
    pub drops_pair : k.dirty n m ≡ true → IsWaking d g limits limit start log k pending unmet
    drops_pair dirty =
        record {
          logged = waking.logged;
          none_due = waking.none_due;
          met = record {
            met = λ a r e i c s clean free y inside.
                let (q, f, l) = waking.met.met a r e i c s clean free y inside in (
                  q,
                  f,
                  λ o live. by_test (nat_eq a n && nat_eq (suc i) m)
                      (λ t.
                      let (u, v) = both (nat_eq a n) (nat_eq (suc i) m) t in
                      let (kept, f', h) = row_at d g laws k None rows waking.logged.keeps a r e in
                      let x : true ≡ false = sym dirty ∙ ap₂ k.dirty (sym (eqb-true a n u)) (sym (eqb-true (suc i) m v)) ∙ h.dirty i c s ∙ clean in cc)
                      (λ t. l (rw t o) live),
                );
          };
          full = waking.full;
          pairs = λ a b e. waking.pairs a b (or_right (nat_eq a n && nat_eq b m) (pending a b) e);
        }

    -- Theorem: where the limit is met and one of them is dormant, it is marked as unmet.
    module _ (marked : ℕ → ℕ → Bool) (no_room : limit ≤ kept_live d k.rows) (j : ℕ) (calls : k.calls n m j ≡ true) (asleep : is_live d k.rows j ≡ false)
        (marks : (a b : ℕ) → marked a b ≡ ((nat_eq a n && nat_eq b m) || unmet a b)) where
      same_lives : live_count d rows ≡ kept_live d k.rows
      same_lives = same_live d g laws k None rows waking.logged.keeps

      own_pair : is_live d k.rows n ≡ true
      own_pair = waking.pairs n m (or_left (nat_eq n n && nat_eq m m) (pending n m) (rw (eq-eqb n n refl, eq-eqb m m refl) refl))

      own_row : (r : WorkRow d) × (item rows n ≡ Some r) × (r.live ≡ true) × IsSome (clause_at d g r.name.pred m)
      own_row =
          let (u, v) = waking.logged.keeps.calls_rows n m j calls in
          let (kept, e) = have (item k.rows n) u in
          let (r, f, h) = row_under d g laws k None rows waking.logged.keeps n kept e in (
            r,
            f,
            sym (live_at d g laws k None rows waking.logged.keeps n r f) ∙ own_pair,
            h.calls_clauses m j calls,
          )

      dormant : (r : WorkRow d) → item rows n ≡ Some r → (i : ℕ) → suc i ≡ m → r.dirty i ≡ false
          → (y : NameOf d) × IsIn y (r.calls i) × ((q : WorkRow d) → find d rows y ≡ Some q → q.live ≡ false)
      dormant r at i same clean =
          let (u, v) = waking.logged.keeps.calls_rows n m j calls in
          let (kept, e) = have (item k.rows j) v in
          let (z, f, h) = row_under d g laws k None rows waking.logged.keeps j kept e in
          let (own, e', keep) = row_at d g laws k None rows waking.logged.keeps n r at in
          let real : IsSome (clause_at d g r.name.pred (suc i)) = keep.calls_clauses (suc i) j (ap (λ b. k.calls n b j) same ∙ calls) in
          let (c, s) = have (item (g.clauses r.name.pred) i) real in
          let named : IsNamed d k.rows j z.name = has_some (λ (w : KeptRow d). w.name ≡ z.name) (item k.rows j) kept e h.name in (
            z.name,
            (keep.calls i c s clean (some_not (n, i)) j z.name named).0 (ap (λ b. k.calls n b j) same ∙ calls),
            λ q g'. let one : Some z ≡ Some q = sym (found_at d g laws rows waking.logged.keeps.own j z f) ∙ g' in let w : z ≡ q = cc in
                ap (λ (x : WorkRow d). x.live) (sym w) ∙ sym (live_at d g laws k None rows waking.logged.keeps j z f) ∙ asleep,
          )

      pub leaves_pair : IsWaking d g limits limit start log k pending marked
      leaves_pair =
          record {
            logged = waking.logged;
            none_due = waking.none_due;
            met = record {
              met = λ a r e i c s clean free y inside.
                  let (t, u) = neither (nat_eq a n && nat_eq (suc i) m) (unmet a (suc i)) (sym (marks a (suc i)) ∙ free) in
                  let (q, f, l) = waking.met.met a r e i c s clean u y inside in
                  (q, f, λ o live. l (rw t o) live);
            };
            full = record {
              full = λ a b e. let s = same_lives in omega arith;
              pairs = λ a b e.
                  or_cases (nat_eq a n && nat_eq b m) (unmet a b) (sym (marks a b) ∙ e)
                  (λ t. let (u, v) = both (nat_eq a n) (nat_eq b m) t in
                  let (r, f, l, c) = own_row in
                  (r, ap (item rows) (eqb-true a n u) ∙ f, l, subst (λ z. IsSome (clause_at d g r.name.pred z)) (sym (eqb-true b m v)) c))
                  (waking.full.pairs a b);
              missing = λ a r e i clean mark.
                  or_cases (nat_eq a n && nat_eq (suc i) m) (unmet a (suc i)) (sym (marks a (suc i)) ∙ mark)
                  (λ t. let (u, v) = both (nat_eq a n) (nat_eq (suc i) m) t in
                  dormant r (sym (ap (item rows) (eqb-true a n u)) ∙ e) i (eqb-true (suc i) m v) clean)
                  (waking.full.missing a r e i clean);
            };
            pairs = λ a b e. waking.pairs a b (or_right (nat_eq a n && nat_eq b m) (pending a b) e);
          }
