-- A growth, a made row and calls that are set, each noted at the end of a log.
use Rattle.std.proofs.Common.{◌≡◌, ◌≢◌, ℕ, suc, ◌+◌, ◌<◌, ◌≤◌, Bool, true, false, cond, ◌↔◌, List, [], ◌∷◌, ◌++◌, map, Option, Some, None, IsSome}
use Rattle.std.proofs.Common.{sym, refl, ap, ◌∙◌, subst, arith}
use Rattle.plai_theory.specs.Words.{IsIn, given, item}
use Rattle.plai_theory.specs.Domain.{Domain, Program, IsLawful}
use Rattle.plai_theory.specs.Evaluation.{NameOf}
use Rattle.plai_theory.specs.LegalWork.{WorkRow, Work, LogEntry, Made, Grew, find, present_source, mentions, new_row, after_growing, next_answer, after}
use Rattle.plai_theory.specs.LegalWork.{IsDemanded, live_count, after_all}
use Rattle.plai_theory.specs.Limits.{Limits}
use Rattle.plai_theory.proofs.Options.{by_test}
use Rattle.plai_theory.proofs.Rows.{find_push}
use Rattle.plai_theory.proofs.Walk.{after_push, legal_push}
use Rattle.plai_fix_laws.specs.WorkStates.{Keeping, Keeps, IsMet, IsFull, IsNamed}
use Rattle.plai_fix_laws.specs.Changes.{SetsCalls, Answers, Makes}
use Rattle.plai_fix_laws.specs.Logs.{IsLogged, IsWorking, IsEvaluated}
use Rattle.plai_fix_laws.proofs.Places.{push_cases}
use Rattle.plai_fix_laws.proofs.Steps.{opened, closed}
use Rattle.plai_fix_laws.proofs.Growths.{grown, made}
use Rattle.plai_fix_laws.proofs.Working.{live_map, live_push, fits_push, met_map, full_map}

module _ (d : Domain) (g : Program d) (laws : IsLawful d g) (limits : Limits d) (limit : ℕ) (start : Work d) (log : List (LogEntry d)) where
  abbrev rows : List (WorkRow d)
  rows = (after_all d g start log).rows

  -- Theorem: the growth that is due is done.
  module _ (k new : Keeping d) (n i : ℕ) (r : WorkRow d) (unmet : ℕ → ℕ → Bool) (done : IsEvaluated d g limits limit start log k None n i r.name unmet)
      (at : item rows n ≡ Some r)
      (a : Option d.Value) (is : a ≡ next_answer d g rows r.name i) (other : a ≢ present_source d rows r.name.pred r.name.call)
      (answers : Answers d k new n a) where
    abbrev growth : WorkRow d → WorkRow d
    growth = after_growing d r.name a

    abbrev growing : LogEntry d
    growing = Grew r.name a

    same_grown : after_all d g start (log ++ growing ∷ []) ≡ after d g (after_all d g start log) growing
    same_grown = after_push d g limit start log growing

    still_clean : (q : WorkRow d) (j : ℕ) → (growth q).dirty j ≡ false → q.dirty j ≡ false
    still_clean q j e = by_test (mentions d r.name (q.calls j)) (λ t. let l : true ≡ false = rw t at e in cc) (λ t. rw t at e)

    pub grew : IsWorking d g limits limit start (log ++ growing ∷ []) new None (Some (n, i)) unmet
    grew =
        record {
          logged =
              record {
                legal = legal_push d g limit start log growing done.logged.legal (i, done.last, is, other);
                fits = fits_push d g limits start log growing done.logged.fits tt;
                keeps = subst (λ (w : Work d). Keeps d g new None w.rows) (sym same_grown) (grown d g laws k new rows done.logged.keeps n r at a answers);
                few = subst (λ (w : Work d). live_count d w.rows ≤ limit) (sym same_grown)
                    (let l : live_count d (map growth rows) ≡ live_count d rows = live_map d growth (λ z. refl) rows in let f = done.logged.few in omega arith);
                values = done.logged.values;
              };
          none_due = λ y j e. let l : None ≡ Some (y, j) = sym (ap (λ (w : Work d). w.last) same_grown) ∙ e in cc;
          met = subst (λ (w : Work d). IsMet d g (Some (n, i)) unmet w.rows) (sym same_grown)
              (met_map d g laws growth (λ z. refl) (λ z. refl) rows (Some (n, i)) (Some (n, i)) unmet unmet done.met
              (λ b q f j clean shut free. (still_clean q j clean, refl, shut, free)));
          full = subst (λ (w : Work d). IsFull d g limit unmet w.rows) (sym same_grown)
              (full_map d g laws growth (λ z. refl) (λ z. refl) rows limit unmet unmet done.full (λ b m e. e)
              (λ b q f j clean marked. (still_clean q j clean, refl)));
        }

  -- Theorem: a row is made for a name that is demanded and has none.
  module _ (k new : Keeping d) (open_pair waiting : Option (ℕ × ℕ)) (unmet : ℕ → ℕ → Bool)
      (working : IsWorking d g limits limit start log k open_pair waiting unmet)
      (waits : (p : ℕ × ℕ) → waiting ≡ Some p → open_pair ≡ Some p) (x : NameOf d) (demanded : IsDemanded d g rows x) (absent : find d rows x ≡ None)
      (room : live_count d rows < limit) (makes : Makes d g k new x) where
    abbrev making : LogEntry d
    making = Made x

    same_made : after_all d g start (log ++ making ∷ []) ≡ after d g (after_all d g start log) making
    same_made = after_push d g limit start log making

    unmarked : (a m : ℕ) → unmet a m ≡ false
    unmarked a m = by_test (unmet a m) (λ t. let f = working.full.full a m t in absurd (omega arith)) (λ t. t)

    uncalled : (a : ℕ) (q : WorkRow d) → item rows a ≡ Some q → (j : ℕ) (c : d.Clause) → item (g.clauses q.name.pred) j ≡ Some c → q.dirty j ≡ false
        → (open_pair ≡ Some (a, j) → ⊥) → IsIn x (q.calls j) → ⊥
    uncalled a q f j c s clean shut inside =
        let (z, there, live) = working.met.met a q f j c s clean (λ e. shut (waits (a, j) e)) (unmarked a (suc j)) x inside in
        let l : None ≡ Some z = sym absent ∙ there in cc

    still_found : (y : NameOf d) (q : WorkRow d) → find d rows y ≡ Some q → find d (rows ++ new_row d x ∷ []) y ≡ Some q
    still_found y q e = find_push d g laws rows (new_row d x) y ∙ ap (given (cond (d.same_name x y) (Some (new_row d x)) None) Some) e

    pub makes_row : IsWorking d g limits limit start (log ++ making ∷ []) new open_pair waiting unmet
    makes_row =
        record {
          logged =
              record {
                legal = legal_push d g limit start log making working.logged.legal (working.none_due, demanded, absent, room);
                fits = fits_push d g limits start log making working.logged.fits tt;
                keeps = subst (λ (w : Work d). Keeps d g new open_pair w.rows) (sym same_made)
                    (made d g laws k new rows open_pair working.logged.keeps x absent uncalled makes);
                few = subst (λ (w : Work d). live_count d w.rows ≤ limit) (sym same_made)
                    (let l : live_count d (rows ++ new_row d x ∷ []) ≡ live_count d rows + 1 = live_push d rows x in omega arith);
                values = working.logged.values;
              };
          none_due = λ y j e. let l : None ≡ Some (y, j) = sym (ap (λ (w : Work d). w.last) same_made) ∙ e in cc;
          met = subst (λ (w : Work d). IsMet d g waiting unmet w.rows) (sym same_made)
              record {
                met = λ a q e j c s clean shut free y inside.
                    push_cases rows (new_row d x) q a e
                    (λ f. let (z, there, live) = working.met.met a q f j c s clean shut free y inside in (z, still_found y z there, live))
                    (λ f same. let l : true ≡ false = ap (λ (w : WorkRow d). w.dirty j) same ∙ clean in cc);
              };
          full = subst (λ (w : Work d). IsFull d g limit unmet w.rows) (sym same_made)
              record {
                full = λ a m e. let l : true ≡ false = sym e ∙ unmarked a m in cc;
                pairs = λ a m e. let l : true ≡ false = sym e ∙ unmarked a m in cc;
                missing = λ a q e j clean marked. let l : true ≡ false = sym marked ∙ unmarked a (suc j) in cc;
              };
        }

  -- Theorem: the calls of the open pair are set.
  pub sets : (k new : Keeping d) (n i : ℕ) → IsLogged d g limits limit start log k (Some (n, i)) → (r : WorkRow d) → item rows n ≡ Some r → (c : d.Clause)
      → item (g.clauses r.name.pred) i ≡ Some c
      → (called : ℕ → Bool) → SetsCalls d k new n i called → ((j : ℕ) → called j ≡ true → IsSome (item k.rows j))
      → ((j : ℕ) (y : NameOf d) → IsNamed d k.rows j y → (called j ≡ true) ↔ IsIn y (r.calls i)) → IsLogged d g limits limit start log new None
  sets k new n i logged r at c s called set inside right =
      record {
        legal = logged.legal;
        fits = logged.fits;
        keeps = closed d g laws k new rows n i logged.keeps r at c s called set inside right;
        few = logged.few;
        values = logged.values;
      }

  pub opens : (k : Keeping d) (open_pair : Option (ℕ × ℕ)) → IsLogged d g limits limit start log k None → IsLogged d g limits limit start log k open_pair
  opens k open_pair logged =
      record { legal = logged.legal; fits = logged.fits; keeps = opened d g laws k rows logged.keeps open_pair; few = logged.few; values = logged.values }
