-- Where no pair is dirty: the log ends, or stops at the limit, as it is told.
use Rattle.std.proofs.Common.{◌≡◌, ℕ, suc, Bool, true, false, List, [], Option, Some, None, IsSome, sym, refl, ap, ◌∙◌, subst, inl, inr, arith}
use Rattle.std.proofs.lemmas.List.{append-nil}
use Rattle.plai_theory.specs.Words.{IsIn, given, item}
use Rattle.plai_theory.specs.Domain.{Domain, Program, Name, IsLawful}
use Rattle.plai_theory.specs.LegalWork.{WorkRow, Work, LogEntry, after_all}
use Rattle.plai_theory.proofs.Rows.{find_name}
use Rattle.plai_terms.specs.declared.abs.Abs.{Abs}
use Rattle.plai_terms.specs.declared.pred_key.PredKey.{PredKey}
use Rattle.plai_domain.specs.declared.work.WorkEntry.{WorkEntry}
use Rattle.plai_domain.specs.Plain.{PlainDomain}
use Rattle.plai_domain.specs.Laws as domain
use Rattle.plai_clauses.specs.Program.{ProgramView}
use Rattle.plai_clauses.specs.WellFormed.{IsWellFormed}
use Rattle.plai_eval.specs.Meaning.{as_domain, as_limits, as_program}
use Rattle.plai_eval.proofs.Lawful.{lawful_at}
use Rattle.plai_fix_laws.specs.WorkStates.{KeptRow, Keeping, IsNamed, IsClean, is_live, HasLiveRow, AreOpened}
use Rattle.plai_fix_laws.specs.Logs.{Opens, IsWorking}
use Rattle.plai_fix_laws.proofs.Linked.{row_under, live_at}
use Rattle.plai_fix_rows.specs.Told.{start_of, Origin, HasLog, told_after}
use Rattle.plai_fix_rows.specs.Solving.{IsAtWork}
use Rattle.plai_fix.specs.Stops.{AreClean, IsSolvedBy, IsStoppedAt}
use Rattle.plai_fix_laws.proofs.Places.{place_of}
use Rattle.plai_fix_laws.proofs.Steps.{row_at}
use Rattle.plai_fix_laws.proofs.Ends.{begins, stops}
use Rattle.plai_fix_laws.proofs.Placements.{ends_here, stops_entry}
use Rattle.plai_fix_laws.proofs.Values.{one_row}
use Rattle.plai_fix_rows.proofs.Telling.{has_less}

module _ (p : PlainDomain) (laws : domain.IsLawful p) (program : ProgramView) (good : IsWellFormed program) (limit : ℕ)
    (begun : Origin) (told : Option (List WorkEntry)) (steps : ℕ)
    (k : Keeping (as_domain p)) (unmet : ℕ → ℕ → Bool) (at_work : IsAtWork p program limit begun told steps k unmet) where
  abbrev d : Domain
  d = as_domain p

  abbrev g : Program d
  g = as_program p program

  lawful : IsLawful d g
  lawful = lawful_at p laws program good

  abbrev rows : List (WorkRow d)
  rows = (after_all d g (start_of p begun) at_work.log).rows

  abbrev Works : List (LogEntry d) → Type 0
  Works log = IsWorking d g (as_limits p) limit (start_of p begun) log k None None unmet

  pub own_rows : (i j : ℕ) (y : Name PredKey Abs) → IsNamed d k.rows i y → IsNamed d k.rows j y → i ≡ j
  own_rows = one_row d g lawful (as_limits p) limit (start_of p begun) at_work.log k None at_work.is.logged

  -- pairs that are marked as unmet are of rows
  pub unmet_rows : (n m : ℕ) → unmet n m ≡ true → IsSome (item k.rows n)
  unmet_rows n m e =
      let (r, at, live, real) = at_work.is.full.pairs n m e in
      let (kept, f, h) = row_at d g lawful k None rows at_work.is.logged.keeps n r at in some (item k.rows n) kept f
    where
      some : {A : Type 0} (o : Option A) (x : A) → o ≡ Some x → IsSome o
      some None x e = cc
      some (Some z) x e = refl

  module _ (clean : IsClean d k) where
    are_clean : AreClean d g rows
    are_clean x r e live i c s =
        let (n, at) = place_of d g lawful rows x r e in
        let (kept, f, h) = row_at d g lawful k None rows at_work.is.logged.keeps n r at in
        sym (h.dirty i c (subst (λ (y : Name PredKey Abs). item (g.clauses y.pred) i ≡ Some c) (sym (find_name d g lawful rows x r e)) s))
        ∙ clean n (suc i) (live_at d g lawful k None rows at_work.is.logged.keeps n r at ∙ live)

    -- it ends
    pub solved_told : ((n m : ℕ) → unmet n m ≡ false) → ((x : Name PredKey Abs) → IsIn x g.entries → HasLiveRow d k.rows x)
        → HasLog p program begun.told told steps (IsSolvedBy p program limit (start_of p begun) k)
    solved_told free entries =
        has_less p program begun.told told steps Works (IsSolvedBy p program limit (start_of p begun) k) at_work steps (omega arith)
        (λ w.
        record {
          whole = record { legal = w.logged.legal; end = ends_here d g lawful (as_limits p) limit (start_of p begun) at_work.log k unmet w clean free entries };
          fits = w.logged.fits;
          keeps = w.logged.keeps;
          few = w.logged.few;
        })

    -- it stops at a name that a pair called
    pub stopped_pair : (n m : ℕ) → unmet n m ≡ true → HasLog p program begun.told told steps (IsStoppedAt p program limit (start_of p begun))
    stopped_pair n m mark =
        has_less p program begun.told told steps Works (IsStoppedAt p program limit (start_of p begun)) at_work steps (omega arith)
        (λ w.
        let (x, stopped, met) = stops d g lawful (as_limits p) limit (start_of p begun) at_work.log k unmet w clean n m mark in
        record { name = x; stopped = stopped; fits = w.logged.fits; met = met; clean = are_clean })

    -- it stops at an entry
    pub stopped_entry : (x : Name PredKey Abs) → IsIn x g.entries → (HasLiveRow d k.rows x → ⊥) → AreOpened d g limit k.rows
        → HasLog p program begun.told told steps (IsStoppedAt p program limit (start_of p begun))
    stopped_entry x inside absent (inl h) = absurd (absent (h x inside))
    stopped_entry x inside absent (inr full) =
        has_less p program begun.told told steps Works (IsStoppedAt p program limit (start_of p begun)) at_work steps (omega arith)
        (λ w.
        let (stopped, met) = stops_entry d g lawful (as_limits p) limit (start_of p begun) at_work.log k unmet w clean x inside absent full in
        record { name = x; stopped = stopped; fits = w.logged.fits; met = met; clean = are_clean })

-- work begins at an opening
pub begins_told : (p : PlainDomain) (program : ProgramView) (limit : ℕ) (begun : Origin) (told : Option (List WorkEntry)) (k : Keeping (as_domain p))
    (unmet : ℕ → ℕ → Bool) → told ≡ begun.told → Opens (as_domain p) (as_program p program) (start_of p begun) k
    → ((n m : ℕ) → unmet n m ≡ false) → (steps : ℕ) → steps ≡ 0
    → IsAtWork p program limit begun told steps k unmet
begins_told p program limit begun told k unmet same opens free steps zero_is =
    record {
      log = [];
      is = begins (as_domain p) (as_program p program) (as_limits p) limit (start_of p begun) k unmet opens free;
      is_told = same ∙ nothing begun.told;
      within = omega arith;
    }
  where
    nothing : (o : Option (List WorkEntry)) → o ≡ told_after p o []
    nothing None = refl
    nothing (Some es) = ap Some (sym (append-nil es))

-- it has no live row
pub opens_asleep : (d : Domain) (g : Program d) → IsLawful d g → (start : Work d) (k : Keeping d) → Opens d g start k → (n : ℕ) → is_live d k.rows n ≡ true → ⊥
opens_asleep d g laws start k opens n live = at (item k.rows n) refl live
  where
    at : (o : Option (KeptRow d)) → item k.rows n ≡ o → given false (λ (z : KeptRow d). z.live) o ≡ true → ⊥
    at None e l = cc
    at (Some kept) e l =
        let (r, f, h) = row_under d g laws k None start.rows opens.keeps n kept e in
        let x : true ≡ false = sym l ∙ h.live ∙ opens.dormant n r f in cc
