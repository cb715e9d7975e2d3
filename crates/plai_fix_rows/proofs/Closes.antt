-- Where a pair that was placed is closed, as it is told, and what it lowers.
use Rattle.std.proofs.Common.{◌≡◌, ℕ, suc, ◌<◌, ◌≤◌, Bool, true, false, ◌&&◌, ◌||◌, nat_eq, List, [], Option, Some, None, sym, refl, ap, ◌∙◌, subst}
use Rattle.std.proofs.Common.{arith}
use Rattle.plai_theory.specs.Domain.{Domain, Program, Name, IsLawful}
use Rattle.plai_theory.specs.LegalWork.{IsLegalLog}
use Rattle.plai_terms.specs.declared.abs.Abs.{Abs}
use Rattle.plai_terms.specs.declared.pred_key.PredKey.{PredKey}
use Rattle.plai_domain.specs.declared.work.WorkEntry.{WorkEntry}
use Rattle.plai_domain.specs.Plain.{PlainDomain}
use Rattle.plai_domain.specs.Laws as domain
use Rattle.plai_clauses.specs.Program.{ProgramView}
use Rattle.plai_clauses.specs.WellFormed.{IsWellFormed}
use Rattle.plai_eval.specs.Meaning.{as_domain, as_limits, as_program}
use Rattle.plai_eval.proofs.Lawful.{lawful_at}
use Rattle.plai_fix_rows.specs.declared.change.Change.TheVariants.{Nothing}
use Rattle.plai_fix_laws.specs.WorkStates.{Keeping, kept_live, no_pair, with_pair}
use Rattle.plai_fix_laws.specs.Changes.{SetsCalls}
use Rattle.plai_fix_laws.specs.Logs.{IsWaking}
use Rattle.plai_fix_laws.specs.Pairs.{Links, IsWaiting}
use Rattle.plai_fix_laws.specs.Measures.{kept_room, kept_ranks, kept_dirties, Adds}
use Rattle.plai_fix_rows.specs.Told.{start_of, Origin, HasLog}
use Rattle.plai_fix_rows.specs.Solving.{IsAtWaking, IsPastGrowth, IsPlacing}
use Rattle.plai_fix_rows.specs.Moves.{Shifts, change_of}
use Rattle.plai_fix_laws.proofs.Pairs.{reopens}
use Rattle.plai_fix_laws.proofs.Placements.{ends_met, closes_met, closes_unmet}
use Rattle.plai_fix_rows.proofs.Telling.{has_less}

module _ (p : PlainDomain) (laws : domain.IsLawful p) (program : ProgramView) (good : IsWellFormed program) (limit : ℕ)
    (begun : Origin) (told : Option (List WorkEntry)) (steps : ℕ)
    (k : Keeping (as_domain p)) (unmet : ℕ → ℕ → Bool) (n i : ℕ) (called : List (Name PredKey Abs)) (rows : ℕ → Bool) where
  abbrev d : Domain
  d = as_domain p

  abbrev g : Program d
  g = as_program p program

  lawful : IsLawful d g
  lawful = lawful_at p laws program good

  -- nothing is missing
  pub ends_told : IsPastGrowth p program limit begun told steps k unmet None n i called → Links d k.rows called rows [] false
      → IsAtWaking p program limit begun told steps k (with_pair n (suc i) no_pair) unmet
  ends_told past links =
      has_less p program begun.told told steps (λ log. IsWaiting d g (as_limits p) limit (start_of p begun) log k None unmet n i called)
      (λ log. IsWaking d g (as_limits p) limit (start_of p begun) log k (with_pair n (suc i) no_pair) unmet) past
      steps (omega arith) (λ w. ends_met d g lawful (as_limits p) limit (start_of p begun) past.log k unmet n i called rows w links)

  -- something is
  pub starts_placing : (left : List (Name PredKey Abs)) → IsPastGrowth p program limit begun told steps k unmet None n i called
      → Links d k.rows called rows left false
      → IsPlacing p program limit begun told steps k unmet n i called rows left false
  starts_placing left past links =
      record {
        waiting =
            has_less p program begun.told told steps (λ log. IsWaiting d g (as_limits p) limit (start_of p begun) log k None unmet n i called)
            (λ log. IsWaiting d g (as_limits p) limit (start_of p begun) log k (Some (n, i)) unmet n i called) past
            steps (omega arith) (λ w. reopens d g lawful (as_limits p) limit (start_of p begun) past.log k unmet n i called w);
        links = links;
        no_room = λ e. cc;
      }

  module _ (full : Bool) (placing : IsPlacing p program limit begun told steps k unmet n i called rows [] full) where
    pub closes_legal : HasLog p program begun.told told 0 (IsLegalLog d g limit (start_of p begun))
    closes_legal =
        has_less p program begun.told told steps (λ log. IsWaiting d g (as_limits p) limit (start_of p begun) log k (Some (n, i)) unmet n i called)
        (IsLegalLog d g limit (start_of p begun)) placing.waiting 0 (omega arith)
        (λ w. w.working.logged.legal)

    module _ (new : Keeping d) (set : SetsCalls d k new n i rows) where
      pub closes_free : full ≡ false → IsAtWaking p program limit begun told steps new (with_pair n (suc i) no_pair) unmet
      closes_free e =
          has_less p program begun.told told steps (λ log. IsWaiting d g (as_limits p) limit (start_of p begun) log k (Some (n, i)) unmet n i called)
          (λ log. IsWaking d g (as_limits p) limit (start_of p begun) log new (with_pair n (suc i) no_pair) unmet)
          placing.waiting steps (omega arith)
          (λ w. closes_met d g lawful (as_limits p) limit (start_of p begun) placing.waiting.log k new unmet n i called rows w set
          (subst (Links d k.rows called rows []) e placing.links))

      pub closes_marked : full ≡ true → (number : ℕ) → suc i ≡ number → (marked : ℕ → ℕ → Bool)
          → ((a m : ℕ) → marked a m ≡ ((nat_eq a n && nat_eq m number) || unmet a m))
          → IsAtWaking p program limit begun told steps new (with_pair n (suc i) no_pair) marked
      closes_marked e number one marked marks =
          has_less p program begun.told told steps (λ log. IsWaiting d g (as_limits p) limit (start_of p begun) log k (Some (n, i)) unmet n i called)
          (λ log. IsWaking d g (as_limits p) limit (start_of p begun) log new (with_pair n (suc i) no_pair) marked)
          placing.waiting steps (omega arith)
          (λ w.
          closes_unmet d g lawful (as_limits p) limit (start_of p begun) placing.waiting.log k new unmet marked n i called rows w set
          (subst (Links d k.rows called rows []) e placing.links) (placing.no_room e)
          (λ a m. subst (λ z. marked a m ≡ ((nat_eq a n && nat_eq m z) || unmet a m)) (sym one) (marks a m)))

-- live rows came, or none did; the calls don't matter
pub adds_sets : (d : Domain) (limit : ℕ) (k mid new : Keeping d) (n i : ℕ) (rows : ℕ → Bool) → Adds d limit k mid → SetsCalls d mid new n i rows
    → Adds d limit k new
adds_sets d limit k mid new n i rows adds set =
    let e : kept_live d new.rows ≡ kept_live d mid.rows = ap (kept_live d) set.rows in
    let f : kept_room d limit new.rows ≡ kept_room d limit mid.rows = ap (kept_room d limit) set.rows in
    record {
      more = let l = adds.more in omega arith;
      room = λ h. let l = adds.room (omega arith) in omega arith;
      rows = λ h. set.rows ∙ adds.rows (sym e ∙ h);
      dirty = λ h a m. set.dirty a m ∙ adds.dirty (sym e ∙ h) a m;
    }

module _ (d : Domain) (g : Program d) (limit : ℕ) (rank : d.Pred → d.Value → ℕ) (k new : Keeping d) (adds : Adds d limit k new) where
  shift_none : kept_live d new.rows ≡ kept_live d k.rows → Shifts d g limit rank k new Nothing
  shift_none h =
      let e = adds.rows h in (
        ap (kept_room d limit) e,
        ap (kept_ranks d rank) e,
        λ j. kept_dirties d g (record { rows = e j; dirty = λ a m. adds.dirty h a m j; calls = new.calls }),
      )

  pub adds_shift : (before after : ℕ) (more : Bool) → before ≡ kept_live d k.rows → after ≡ kept_live d new.rows → (more ≡ true → before < after)
      → (more ≡ false → after ≤ before)
      → Shifts d g limit rank k new (change_of more)
  adds_shift before after true e f less not_less = adds.room (let l = less refl in omega arith)
  adds_shift before after false e f less not_less = shift_none (let l = adds.more in let m = not_less refl in omega arith)
