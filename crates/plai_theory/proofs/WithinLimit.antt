-- Each legal step keeps the names of rows distinct and the live rows within the limit.
use Rattle.std.proofs.Common.{◌≡◌, ℕ, suc, ◌≤◌, true, false, List, [], ◌∷◌, ◌++◌, map, Some, None, sym, refl, ap, ◌∙◌, subst, arith}
use Rattle.plai_theory.specs.Words.{given}
use Rattle.plai_theory.specs.Domain.{Domain, Program, IsLawful}
use Rattle.plai_theory.specs.Evaluation.{NameOf}
use Rattle.plai_theory.specs.LegalWork.{WorkRow, Work, Made, Woke, Evaluated, Grew, find, new_row, after_waking, after_evaluating, after_growing, calls_now}
use Rattle.plai_theory.specs.LegalWork.{after, live_count, IsLegal, IsLegalLog, after_all, LogEntry}
use Rattle.plai_theory.specs.Count.{HaveOwnNames}
use Rattle.plai_theory.proofs.Options.{by_test}
use Rattle.plai_theory.proofs.Rows.{find_map, find_push}

module _ (d : Domain) (g : Program d) (laws : IsLawful d g) where
  -- names stay distinct, and the live rows within the limit
  own_map : (f : WorkRow d → WorkRow d) (keeps : (r : WorkRow d) → (f r).name ≡ r.name) (rows : List (WorkRow d)) → HaveOwnNames d rows
      → HaveOwnNames d (map f rows)
  own_map f keeps [] own = tt
  own_map f keeps (q ∷ rows) own = (
    find_map d g laws f keeps rows (f q).name
        ∙ ap (given None (λ r. Some (f r))) (subst (λ (x : NameOf d). find d rows x ≡ None) (sym (keeps q)) own.0),
    own_map f keeps rows own.1,
  )

  own_push : (rows : List (WorkRow d)) (x : NameOf d) → HaveOwnNames d rows → find d rows x ≡ None → HaveOwnNames d (rows ++ new_row d x ∷ [])
  own_push [] x own e = (refl, tt)
  own_push (q ∷ rows) x own e =
      let n : d.same_name q.name x ≡ false = by_test (d.same_name q.name x) (λ t. let c : Some q ≡ None = rw t at e in cc) (λ t. t) in
      let m : d.same_name x q.name ≡ false = by_test (d.same_name x q.name)
      (λ t. let c : d.same_name q.name x ≡ true =
      subst (λ (a : NameOf d). d.same_name q.name a ≡ true) (sym (laws.same_true x q.name t)) (laws.same_refl q.name) in let b : true ≡ false =
      sym c ∙ n in cc) (λ t. t) in
      (rw (find_push d g laws rows (new_row d x) q.name, own.0, m) refl, own_push rows x own.1 (rw n at e))

  count_push : (rows : List (WorkRow d)) (x : NameOf d) → live_count d (rows ++ new_row d x ∷ []) ≡ suc (live_count d rows)
  count_push [] x = omega arith
  count_push (q ∷ rows) x = let k : live_count d (rows ++ new_row d x ∷ []) ≡ suc (live_count d rows) = count_push rows x in omega arith

  count_map : (f : WorkRow d → WorkRow d) → ((r : WorkRow d) → (f r).live ≡ r.live) → (rows : List (WorkRow d)) → live_count d (map f rows) ≡ live_count d rows
  count_map f keeps [] = refl
  count_map f keeps (q ∷ rows) = rw (keeps q, count_map f keeps rows) refl

  -- where no row has the name, nothing is woken
  count_same : (rows : List (WorkRow d)) (x : NameOf d) → find d rows x ≡ None → live_count d (map (after_waking d x) rows) ≡ live_count d rows
  count_same [] x e = refl
  count_same (q ∷ rows) x e =
      by_test (d.same_name q.name x) (λ t. let c : Some q ≡ None = rw t at e in cc)
      (λ t. let k : live_count d (map (after_waking d x) rows) ≡ live_count d rows = count_same rows x (rw t at e) in rw t (omega arith))

  count_woken : (rows : List (WorkRow d)) (x : NameOf d) → HaveOwnNames d rows → live_count d (map (after_waking d x) rows) ≤ suc (live_count d rows)
  count_woken [] x own = omega arith
  count_woken (q ∷ rows) x own =
      by_test (d.same_name q.name x)
      (λ t.
      let k : live_count d (map (after_waking d x) rows) ≡ live_count d rows =
      count_same rows x (subst (λ (a : NameOf d). find d rows a ≡ None) (laws.same_true q.name x t) own.0) in
      rw t (omega arith))
      (λ t. let k : live_count d (map (after_waking d x) rows) ≤ suc (live_count d rows) = count_woken rows x own.1 in rw t (omega arith))

  pub own_step : (limit : ℕ) (w : Work d) (e : LogEntry d) → HaveOwnNames d w.rows → IsLegal d g limit w e → HaveOwnNames d (after d g w e).rows
  own_step limit w (Made x) own (none, dem, absent, room) = own_push w.rows x own absent
  own_step limit w (Woke x) own legal = own_map (after_waking d x) (λ r. refl) w.rows own
  own_step limit w (Evaluated x i) own legal = own_map (after_evaluating d x i (calls_now d g w.rows x i)) (λ r. refl) w.rows own
  own_step limit w (Grew x a) own legal = own_map (after_growing d x a) (λ r. refl) w.rows own

  pub limit_step : (limit : ℕ) (w : Work d) (e : LogEntry d) → HaveOwnNames d w.rows → live_count d w.rows ≤ limit → IsLegal d g limit w e
      → live_count d (after d g w e).rows ≤ limit
  limit_step limit w (Made x) own h (none, dem, absent, room) = let k : live_count d (w.rows ++ new_row d x ∷ []) ≡ suc (live_count d w.rows) =
      count_push w.rows x in omega arith
  limit_step limit w (Woke x) own h (none, dem, row, room) = let k : live_count d (map (after_waking d x) w.rows) ≤ suc (live_count d w.rows) =
      count_woken w.rows x own in omega arith
  limit_step limit w (Evaluated x i) own h legal = rw (count_map (after_evaluating d x i (calls_now d g w.rows x i)) (λ r. refl) w.rows) h
  limit_step limit w (Grew x a) own h legal = rw (count_map (after_growing d x a) (λ r. refl) w.rows) h

  pub limit_log : (limit : ℕ) (w : Work d) (es : List (LogEntry d)) → HaveOwnNames d w.rows → live_count d w.rows ≤ limit → IsLegalLog d g limit w es
      → (live_count d (after_all d g w es).rows ≤ limit) × HaveOwnNames d (after_all d g w es).rows
  limit_log limit w [] own h legal = (h, own)
  limit_log limit w (e ∷ es) own h legal =
      limit_log limit (after d g w e) es (own_step limit w e own legal.0) (limit_step limit w e own h legal.0) legal.1
