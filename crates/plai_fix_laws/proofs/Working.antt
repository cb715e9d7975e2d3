-- Steps of legal work at a table and its arcs, each noted at the end of a log.
use Rattle.std.proofs.Common.{◌≡◌, ℕ, suc, ◌+◌, ◌≤◌, Bool, true, false, cond, nat_eq, eqb-true, List, [], ◌∷◌, ◌++◌, map, Option, Some, None}
use Rattle.std.proofs.Common.{IsSome, sym, refl, ap, ap₂, ◌∙◌, subst, arith}
use Rattle.plai_theory.specs.Words.{IsIn, given, item}
use Rattle.plai_theory.specs.Domain.{Domain, Program, IsLawful}
use Rattle.plai_theory.specs.Evaluation.{NameOf}
use Rattle.plai_theory.specs.LegalWork.{WorkRow, Work, LogEntry, Evaluated, find, present_source, new_row, after_evaluating}
use Rattle.plai_theory.specs.LegalWork.{calls_now, next_answer, after, live_count, IsLegal, after_all}
use Rattle.plai_theory.specs.Limits.{Limits, IsOverAt, Fits, AllFit}
use Rattle.plai_theory.proofs.Options.{by_test}
use Rattle.plai_theory.proofs.Rows.{find_map}
use Rattle.plai_theory.proofs.Walk.{after_push, legal_push}
use Rattle.plai_fix_laws.specs.WorkStates.{clause_at, Keeping, Keeps, IsMet, IsFull}
use Rattle.plai_fix_laws.specs.Changes.{Clears}
use Rattle.plai_fix_laws.specs.Logs.{IsWorking, IsEvaluated}
use Rattle.plai_fix_laws.proofs.Places.{item_map, found_at, one_place}
use Rattle.std.proofs.lemmas.Bool.{eqb-false}
use Rattle.plai_fix_laws.proofs.Steps.{row_at, cleared}

-- live rows, of which a change of rows makes as many
pub live_map : (d : Domain) (f : WorkRow d → WorkRow d) → ((r : WorkRow d) → (f r).live ≡ r.live) → (rows : List (WorkRow d))
    → live_count d (map f rows) ≡ live_count d rows
live_map d f keeps [] = refl
live_map d f keeps (r ∷ rows) = ap₂ (λ (b : Bool) (n : ℕ). cond b 1 0 + n) (keeps r) (live_map d f keeps rows)

pub live_push : (d : Domain) (rows : List (WorkRow d)) (x : NameOf d) → live_count d (rows ++ new_row d x ∷ []) ≡ live_count d rows + 1
live_push d [] x = refl
live_push d (r ∷ rows) x = let k : live_count d (rows ++ new_row d x ∷ []) ≡ live_count d rows + 1 = live_push d rows x in omega arith

pub fits_push : (d : Domain) (g : Program d) (limits : Limits d) (w : Work d) (es : List (LogEntry d)) (e : LogEntry d) → AllFit d g limits w es
    → Fits d g limits (after_all d g w es) e → AllFit d g limits w (es ++ e ∷ [])
fits_push d g limits w [] e fits h = (h, tt)
fits_push d g limits w (b ∷ es) e fits h = (fits.0, fits_push d g limits (after d g w b) es e fits.1 h)

-- a row of a changed list
pub at_map : {A : Type 0} {P : Type 0} (f : A → A) (xs : List A) (n : ℕ) (x : A) → item (map f xs) n ≡ Some x → ((y : A) → item xs n ≡ Some y → f y ≡ x → P) → P
at_map {A} {P} f xs n x e h = at_item (item xs n) refl (sym (item_map f xs n) ∙ e)
  where
    at_item : (o : Option A) → item xs n ≡ o → given None (λ y. Some (f y)) o ≡ Some x → P
    at_item None k u = cc
    at_item (Some y) k u = h y k cc

pub some_pair : {n i a j : ℕ} → ◌≡◌ {A = Option (ℕ × ℕ)} (Some (n, i)) (Some (a, j)) → (n ≡ a) × (i ≡ j)
some_pair {n = n} {i = i} e = (ap (fst n) e, ap (snd i) e)
  where
    fst : ℕ → Option (ℕ × ℕ) → ℕ
    fst z None = z
    fst z (Some p) = p.0

    snd : ℕ → Option (ℕ × ℕ) → ℕ
    snd z None = z
    snd z (Some p) = p.1

module _ (d : Domain) (g : Program d) (laws : IsLawful d g) where
  -- a change of rows keeps what is met, where pairs that are not dirty were not dirty and call the same
  module _ (f : WorkRow d → WorkRow d) (keeps : (r : WorkRow d) → (f r).name ≡ r.name) (lives : (r : WorkRow d) → (f r).live ≡ r.live) where
    pub found_map : (rows : List (WorkRow d)) (y : NameOf d) (q : WorkRow d) → find d rows y ≡ Some q → find d (map f rows) y ≡ Some (f q)
    found_map rows y q e = find_map d g laws f keeps rows y ∙ ap (given None (λ r. Some (f r))) e

    pub found_back : (rows : List (WorkRow d)) (y : NameOf d) (q : WorkRow d) → find d (map f rows) y ≡ Some q
        → (z : WorkRow d) × (find d rows y ≡ Some z) × (f z ≡ q)
    found_back rows y q e = at_found (find d rows y) refl (sym (find_map d g laws f keeps rows y) ∙ e)
      where
        at_found : (o : Option (WorkRow d)) → find d rows y ≡ o → given None (λ r. Some (f r)) o ≡ Some q
            → (z : WorkRow d) × (find d rows y ≡ Some z) × (f z ≡ q)
        at_found None k u = cc
        at_found (Some z) k u = (z, k, cc)

    pub met_map : (rows : List (WorkRow d)) (waiting next : Option (ℕ × ℕ)) (unmet new : ℕ → ℕ → Bool) → IsMet d g waiting unmet rows
        → ((n : ℕ) (r : WorkRow d) → item rows n ≡ Some r → (i : ℕ) → (f r).dirty i ≡ false → (next ≡ Some (n, i) → ⊥) → new n (suc i) ≡ false
        → (r.dirty i ≡ false) × ((f r).calls i ≡ r.calls i) × (waiting ≡ Some (n, i) → ⊥) × (unmet n (suc i) ≡ false))
        → IsMet d g next new (map f rows)
    met_map rows waiting next unmet new met h =
        record {
          met = λ n r e i c s clean shut free y inside.
              at_map f rows n r e (λ q k same.
              let s' : item (g.clauses q.name.pred) i ≡ Some c =
              subst (λ (x : NameOf d). item (g.clauses x.pred) i ≡ Some c) (keeps q)
              (subst (λ (z : WorkRow d). item (g.clauses z.name.pred) i ≡ Some c) (sym same) s) in
              let (was, calls, unwaited, unmarked) = h n q k i (subst (λ (z : WorkRow d). z.dirty i ≡ false) (sym same) clean) shut free in
              let (z, there, live) = met.met n q k i c s' was unwaited unmarked y
              (subst (IsIn y) calls (subst (λ (w : WorkRow d). IsIn y (w.calls i)) (sym same) inside)) in
              (f z, found_map rows y z there, λ l. lives z ∙ live (sym (lives q) ∙ ap (λ (w : WorkRow d). w.live) same ∙ l)));
        }

    pub full_map : (rows : List (WorkRow d)) (limit : ℕ) (unmet new : ℕ → ℕ → Bool) → IsFull d g limit unmet rows
        → ((n m : ℕ) → new n m ≡ true → unmet n m ≡ true)
        → ((n : ℕ) (r : WorkRow d) → item rows n ≡ Some r → (i : ℕ) → (f r).dirty i ≡ false → new n (suc i) ≡ true
        → (r.dirty i ≡ false) × ((f r).calls i ≡ r.calls i))
        → IsFull d g limit new (map f rows)
    full_map rows limit unmet new full fewer h =
        record {
          full = λ n m e. let k : limit ≤ live_count d rows = full.full n m (fewer n m e) in let s : live_count d (map f rows) ≡ live_count d rows =
              live_map d f lives rows in omega arith;
          pairs = λ n m e.
              let (q, t, l, u) = full.pairs n m (fewer n m e) in (
                f q,
                item_map f rows n ∙ ap (given None (λ z. Some (f z))) t,
                lives q ∙ l,
                subst (λ (x : NameOf d). IsSome (clause_at d g x.pred m)) (sym (keeps q)) u,
              );
          missing = λ n r e i clean marked.
              at_map f rows n r e (λ q k same.
              let (was, calls) = h n q k i (subst (λ (z : WorkRow d). z.dirty i ≡ false) (sym same) clean) marked in
              let (y, inside, none) = full.missing n q k i was (fewer n (suc i) marked) in (
                y,
                subst (λ (w : WorkRow d). IsIn y (w.calls i)) same (subst (IsIn y) (sym calls) inside),
                λ z t. let (w, u, v) = found_back rows y z t in sym (ap (λ (a : WorkRow d). a.live) v) ∙ lives w ∙ none w u,
              ));
        }

module _ (d : Domain) (g : Program d) (laws : IsLawful d g) (limits : Limits d) (limit : ℕ) (start : Work d) (log : List (LogEntry d)) where
  abbrev rows : List (WorkRow d)
  rows = (after_all d g start log).rows

  -- Theorem: a dirty pair of a row is evaluated.
  module _ (k new : Keeping d) (unmet left : ℕ → ℕ → Bool) (working : IsWorking d g limits limit start log k None None unmet) (n i : ℕ) (r : WorkRow d)
      (at : item rows n ≡ Some r) (live : r.live ≡ true)
      (c : d.Clause) (is_clause : item (g.clauses r.name.pred) i ≡ Some c) (is_dirty : k.dirty n (suc i) ≡ true)
      (within : IsOverAt d limits (present_source d rows) c r.name.call → ⊥) (clears : Clears d k new n i)
      (others : (a m : ℕ) → (a ≡ n → m ≡ suc i → ⊥) → left a m ≡ unmet a m) (own : left n (suc i) ≡ false) where
    abbrev evaluate : WorkRow d → WorkRow d
    evaluate = after_evaluating d r.name i (calls_now d g rows r.name i)

    abbrev step : LogEntry d
    step = Evaluated r.name i

    -- a pair that is clean behind the step, other than this one
    was_clean : (a : ℕ) (q : WorkRow d) → item rows a ≡ Some q → (j : ℕ) → (evaluate q).dirty j ≡ false → (a ≡ n → suc j ≡ suc i → ⊥)
        → (q.dirty j ≡ false) × ((evaluate q).calls j ≡ q.calls j)
    was_clean a q f j e other =
        by_test (d.same_name q.name r.name)
        (λ t. by_test (nat_eq i j)
        (λ u. absurd (other (one_place d g laws rows working.logged.keeps.own a n q r f at (laws.same_true q.name r.name t)) (ap suc (sym (eqb-true i j u)))))
        (λ u. (rw (t, u) at e, rw (t, u) refl)))
        (λ t. (rw t at e, rw t refl))

    not_own : (a j : ℕ) → left a (suc j) ≡ true → a ≡ n → suc j ≡ suc i → ⊥
    not_own a j e u v = let l : false ≡ true = sym own ∙ ap₂ left (sym u) (sym v) ∙ e in cc

    same : after_all d g start (log ++ step ∷ []) ≡ after d g (after_all d g start log) step
    same = after_push d g limit start log step

    pub evaluated : IsEvaluated d g limits limit start (log ++ step ∷ []) new (Some (n, i)) n i r.name left
    evaluated =
        record {
          logged =
              record {
                legal = legal_push d g limit start log step working.logged.legal legal;
                fits = fits_push d g limits start log step working.logged.fits
                    (λ b s. let e : Some c ≡ Some b = sym is_clause ∙ s in let f : c ≡ b = cc in
                    subst (λ (z : d.Clause). IsOverAt d limits (present_source d rows) z r.name.call → ⊥) f within);
                keeps = subst (λ (w : Work d). Keeps d g new (Some (n, i)) w.rows) (sym same)
                    (cleared d g laws k new rows working.logged.keeps n i r at (calls_now d g rows r.name i) clears);
                few = subst (λ (w : Work d). live_count d w.rows ≤ limit) (sym same)
                    (let l : live_count d (map evaluate rows) ≡ live_count d rows = live_map d evaluate (λ z. refl) rows in let f = working.logged.few in
                    omega arith);
                values = working.logged.values;
              };
          last = ap (λ (w : Work d). w.last) same;
          met = subst (λ (w : Work d). IsMet d g (Some (n, i)) left w.rows) (sym same)
              (met_map d g laws evaluate (λ z. refl) (λ z. refl) rows None (Some (n, i)) unmet left working.met
              (λ a q f j clean shut free.
              let other : a ≡ n → suc j ≡ suc i → ⊥ = λ u v. shut (ap₂ (λ (x z : ℕ). Some (x, z)) (sym u) (let b : i ≡ j = omega arith in b)) in
              let (x, y) = was_clean a q f j clean other in (x, y, none_is (a, j), sym (others a (suc j) other) ∙ free)));
          full = subst (λ (w : Work d). IsFull d g limit left w.rows) (sym same)
              (full_map d g laws evaluate (λ z. refl) (λ z. refl) rows limit unmet left working.full
              fewer (λ a q f j clean marked. was_clean a q f j clean (not_own a j marked)));
        }
      where
        none_is : (p : ℕ × ℕ) → None ≡ Some p → ⊥
        none_is p e = cc

        legal : IsLegal d g limit (after_all d g start log) step
        legal =
            let (kept, e, h) = row_at d g laws k None rows working.logged.keeps n r at in (
              working.none_due,
              (r, found_at d g laws rows working.logged.keeps.own n r at, live, sym (h.dirty i c is_clause) ∙ is_dirty),
              (c, is_clause),
            )

        fewer : (a m : ℕ) → left a m ≡ true → unmet a m ≡ true
        fewer a m e =
            by_test (nat_eq a n)
            (λ u. by_test (nat_eq m (suc i))
            (λ v. let l : false ≡ true = sym own ∙ ap₂ left (sym (eqb-true a n u)) (sym (eqb-true m (suc i) v)) ∙ e in cc)
            (λ v. sym (others a m (λ x y. eqb-false m (suc i) v y)) ∙ e))
            (λ u. sym (others a m (λ x y. eqb-false a n u x)) ∙ e)

  -- where the row's answer is the join already, nothing is due
  pub nothing_due : (k : Keeping d) (open_pair : Option (ℕ × ℕ)) (n i : ℕ) (x : NameOf d) (unmet : ℕ → ℕ → Bool)
      → IsEvaluated d g limits limit start log k open_pair n i x unmet
      → next_answer d g rows x i ≡ present_source d rows x.pred x.call → IsWorking d g limits limit start log k open_pair (Some (n, i)) unmet
  nothing_due k open_pair n i x unmet done same =
      record {
        logged = done.logged;
        none_due = λ y j e. let p : Some (x, i) ≡ Some (y, j) = sym done.last ∙ e in at_pair y j p;
        met = done.met;
        full = done.full;
      }
    where
      at_pair : (y : NameOf d) (j : ℕ) → ◌≡◌ {A = Option (NameOf d × ℕ)} (Some (x, i)) (Some (y, j))
          → next_answer d g rows y j ≡ present_source d rows y.pred y.call
      at_pair y j p =
          let u : x ≡ y = ap name p in
          let v : i ≡ j = ap number p in
          subst (λ (z : NameOf d). next_answer d g rows z j ≡ present_source d rows z.pred z.call) u
          (subst (λ m. next_answer d g rows x m ≡ present_source d rows x.pred x.call) v same)
        where
          name : Option (NameOf d × ℕ) → NameOf d
          name None = x
          name (Some q) = q.0

          number : Option (NameOf d × ℕ) → ℕ
          number None = i
          number (Some q) = q.1
