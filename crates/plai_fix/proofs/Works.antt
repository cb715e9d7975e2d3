-- A pair's work, from its evaluation on, as it is told.
use Rattle.std.proofs.Common.{◌≡◌, ◌⊎◌, ℕ, Bool, true, false, nat_eq, List, Option, Some, None, subst, inl, inr, arith}
use Rattle.std.specs.List.{list_any}
use Rattle.plai_theory.specs.Words.{IsIn}
use Rattle.plai_theory.specs.Domain.{Domain, Program, Name, IsLawful}
use Rattle.plai_theory.specs.LegalWork.{WorkRow}
use Rattle.plai_terms.specs.declared.abs.Abs.{Abs}
use Rattle.plai_terms.specs.declared.pred_key.PredKey.{PredKey}
use Rattle.plai_domain.specs.declared.work.WorkEntry.{WorkEntry}
use Rattle.plai_domain.specs.Plain.{PlainDomain}
use Rattle.plai_domain.specs.Laws as domain
use Rattle.plai_clauses.specs.Program.{ProgramView}
use Rattle.plai_clauses.specs.WellFormed.{IsWellFormed}
use Rattle.plai_eval.specs.Meaning.{as_domain, as_limits, as_program}
use Rattle.plai_eval.proofs.Lawful.{lawful_at}
use Rattle.plai_fix_laws.specs.WorkStates.{KeptRow, Keeping, Keeps, IsNamed, is_live, AreOfRows}
use Rattle.plai_fix_laws.specs.Changes.{SetsCalls}
use Rattle.plai_fix_laws.specs.LookUps.{Looks}
use Rattle.plai_fix_laws.specs.Pairs.{Links, HasEvaluated}
use Rattle.plai_fix_laws.specs.Queues.{IsQueued}
use Rattle.plai_fix_rows.specs.Told.{start_of, Origin}
use Rattle.plai_fix_rows.specs.Solving.{IsPastEvaluation, IsPastGrowth}
use Rattle.plai_fix_laws.proofs.Lists.{item_within}
use Rattle.plai_fix_laws.proofs.LookedUp.{looks_sound, looks_whole, looks_missing}
use Rattle.plai_fix_laws.proofs.Pairs.{links}
use Rattle.plai_fix_rows.proofs.Telling.{has_less}

-- the rows that were found are those of called names, and the others are missing
pub looks_links : (d : Domain) (kept : List (KeptRow d)) (called : List (Name d.Pred d.Value)) (rows : List ℕ) (missing : List (Name d.Pred d.Value))
    → Looks d kept called rows missing
    → Links d kept called (λ j. list_any (nat_eq j) rows) missing false
looks_links d kept called rows missing looks =
    record {
      sound = looks_sound d kept called rows missing looks;
      whole = λ y i. at y (looks_whole d kept called rows missing looks y i);
      inside = λ y i. (looks_missing d kept called rows missing looks y i).0;
      missing = λ e. cc;
    }
  where
    at : (y : Name d.Pred d.Value) → ((j : ℕ) × (list_any (nat_eq j) rows ≡ true) × IsNamed d kept j y) ⊎ (IsIn y missing × ((j : ℕ) → IsNamed d kept j y → ⊥))
        → ((j : ℕ) × (list_any (nat_eq j) rows ≡ true) × IsNamed d kept j y) ⊎ (IsIn y missing ⊎ ((false ≡ true) × ((j : ℕ) → IsNamed d kept j y → ⊥)))
    at y (inl h) = inl h
    at y (inr h) = inr (inl h.0)

-- dirty pairs are of rows
pub keeps_of_rows : (d : Domain) (g : Program d) (k : Keeping d) (open_pair : Option (ℕ × ℕ)) (rows : List (WorkRow d)) → Keeps d g k open_pair rows
    → AreOfRows k
keeps_of_rows d g k open_pair rows keeps = λ n m e. item_within k.rows n (keeps.dirty_rows n m e)

module _ (p : PlainDomain) (laws : domain.IsLawful p) (program : ProgramView) (good : IsWellFormed program) (limit : ℕ)
    (begun : Origin) (told : Option (List WorkEntry)) (steps : ℕ)
    (k : Keeping (as_domain p)) (unmet : ℕ → ℕ → Bool) (n i : ℕ) (called : List (Name PredKey Abs)) where
  abbrev d : Domain
  d = as_domain p

  abbrev g : Program d
  g = as_program p program

  lawful : IsLawful d g
  lawful = lawful_at p laws program good

  -- the calls of the pair are set
  pub links_told : (answer : Option Abs) → IsPastEvaluation p program limit begun told steps k unmet (Some (n, i)) n i called answer
      → (new : Keeping d) (rows : List ℕ) (missing : List (Name PredKey Abs))
      → Looks d k.rows called rows missing → SetsCalls d k new n i (λ j. list_any (nat_eq j) rows)
      → IsPastEvaluation p program limit begun told steps new unmet None n i called answer
  links_told answer past new rows missing looks set =
      has_less p program begun.told told steps (λ log. HasEvaluated d g (as_limits p) limit (start_of p begun) log k (Some (n, i)) unmet n i called answer)
      (λ log. HasEvaluated d g (as_limits p) limit (start_of p begun) log new None unmet n i called answer)
      past steps (omega arith)
      (λ has.
      links d g lawful (as_limits p) limit (start_of p begun) past.log k new unmet n i called missing answer (λ j. list_any (nat_eq j) rows) has set
      (looks_links d k.rows called rows missing looks)
      (λ y inside. (looks_missing d k.rows called rows missing looks y inside).1))

  pub grown_of_rows : (open_pair : Option (ℕ × ℕ)) → IsPastGrowth p program limit begun told steps k unmet open_pair n i called → AreOfRows k
  grown_of_rows open_pair past = keeps_of_rows d g k open_pair _ past.is.working.logged.keeps

-- fewer dirty pairs are queued as well
pub queued_less : (d : Domain) (k new : Keeping d) (queue : List ℕ) → new.rows ≡ k.rows → ((n m : ℕ) → new.dirty n m ≡ true → k.dirty n m ≡ true)
    → IsQueued k queue → IsQueued new queue
queued_less d k new queue same less queued n m live e = queued n m (subst (λ ks. is_live d ks n ≡ true) same live) (less n m e)
