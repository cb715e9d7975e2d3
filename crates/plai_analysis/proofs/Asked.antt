-- Which names the live rows of legal work have: those that were demanded where a row was made or woken.
use Rattle.std.proofs.Common.{◌≡◌, ℕ, true, List, [], ◌∷◌, Some, sym, refl, ◌∙◌, subst}
use Rattle.plai_theory.specs.Domain.{Domain, Program, IsLawful}
use Rattle.plai_theory.specs.Evaluation.{NameOf}
use Rattle.plai_theory.specs.LegalWork.{WorkRow, Work, LogEntry, Made, Woke, Evaluated, Grew, find, after_waking, after_evaluating, after_growing, calls_now}
use Rattle.plai_theory.specs.LegalWork.{after, IsLegal, IsLegalLog, IsDemanded, after_all}
use Rattle.plai_theory.proofs.Options.{by_test}
use Rattle.plai_theory.proofs.Rows.{find_name, by_map}
use Rattle.plai_theory.proofs.Invariant.{by_push}

module _ (d : Domain) (g : Program d) (laws : IsLawful d g) (limit : ℕ) (IsAsked : NameOf d → Type 0) where
  -- the name of each live row is such a name
  abbrev pub AreAsked : List (WorkRow d) → Type 0
  AreAsked rows = (x : NameOf d) (r : WorkRow d) → find d rows x ≡ Some r → r.live ≡ true → IsAsked x

  -- an entry leaves it so, where the names that are demanded before it are such names
  asked_step : (w : Work d) (e : LogEntry d) → AreAsked w.rows → IsLegal d g limit w e → ((x : NameOf d) → IsDemanded d g w.rows x → IsAsked x)
      → AreAsked (after d g w e).rows
  asked_step w (Made z) h (none, dem, absent, room) ask x r f =
      by_push d g laws (λ y q. q.live ≡ true → IsAsked y) w.rows z x r f (λ k. h x r k) (λ l. ask z dem)
  asked_step w (Woke z) h (none, dem, row, room) ask x r f =
      by_map d g laws (after_waking d z) (λ q. refl) (λ q. q.live ≡ true → IsAsked x) w.rows x r f (λ q k l.
      by_test (d.same_name q.name z)
      (λ t. subst IsAsked (sym (laws.same_true q.name z t) ∙ find_name d g laws w.rows x q k) (ask z dem))
      (λ t. h x q k (rw t at l)))
  asked_step w (Evaluated z i) h legal ask x r f =
      by_map d g laws (after_evaluating d z i (calls_now d g w.rows z i)) (λ q. refl) (λ q. q.live ≡ true → IsAsked x) w.rows x r f (λ q k. h x q k)
  asked_step w (Grew z a) h legal ask x r f =
      by_map d g laws (after_growing d z a) (λ q. refl) (λ q. q.live ≡ true → IsAsked x) w.rows x r f (λ q k. h x q k)

  -- Theorem: so are the names of live rows behind a legal log, where each name that is demanded behind a front of a log is.
  pub asked_log : (start : Work d)
      → ((front : List (LogEntry d)) → IsLegalLog d g limit start front → (x : NameOf d) → IsDemanded d g (after_all d g start front).rows x → IsAsked x)
      → (log : List (LogEntry d)) → IsLegalLog d g limit start log → AreAsked start.rows → AreAsked (after_all d g start log).rows
  asked_log start ask [] legal h = h
  asked_log start ask (e ∷ log) legal h =
      asked_log (after d g start e) (λ front l x dem. ask (e ∷ front) (legal.0, l) x dem) log legal.1
      (asked_step start e h legal.0 (λ x dem. ask [] tt x dem))
