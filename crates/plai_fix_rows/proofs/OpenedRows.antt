-- Entries' names that are placed one after another, as it is told.
use Rattle.std.proofs.Common.{◌≡◌, ◌⊎◌, ℕ, ◌≤◌, Bool, true, List, [], ◌∷◌, ◌++◌, length, Option, Some, None, sym, refl, subst, inl, inr, arith}
use Rattle.plai_theory.specs.Words.{IsIn}
use Rattle.plai_theory.specs.Domain.{Domain, Program, Name}
use Rattle.plai_theory.specs.Evaluation.{NameOf}
use Rattle.plai_theory.specs.LegalWork.{Made, IsLegalLog}
use Rattle.plai_terms.specs.declared.abs.Abs.{Abs}
use Rattle.plai_terms.specs.declared.pred_key.PredKey.{PredKey}
use Rattle.plai_domain.specs.declared.work.WorkEntry.{WorkEntry}
use Rattle.plai_domain.specs.declared.work.WorkEntry.TheVariants as entries
use Rattle.plai_domain.specs.Noted.{noted}
use Rattle.plai_domain.specs.Plain.{PlainDomain}
use Rattle.plai_domain.specs.Laws as domain
use Rattle.plai_clauses.specs.Program.{ProgramView}
use Rattle.plai_clauses.specs.WellFormed.{IsWellFormed}
use Rattle.plai_eval.specs.Meaning.{row_name, as_domain, as_limits, as_program}
use Rattle.plai_eval.proofs.Lawful.{lawful_at}
use Rattle.plai_fix_laws.specs.WorkStates.{KeptRow, Keeping, IsNamed, is_live, kept_live, Extends, HasLiveRow, AreOpened}
use Rattle.plai_fix_laws.specs.Logs.{IsWorking}
use Rattle.plai_fix_rows.specs.Told.{start_of, Origin, HasLog}
use Rattle.plai_fix_rows.specs.Solving.{Places, IsThere, IsMade, IsLacking, IsAtWork}
use Rattle.plai_fix_laws.proofs.LookedUp.{in_push}
use Rattle.plai_fix_laws.proofs.Linked.{named_last}
use Rattle.plai_fix_laws.proofs.Placements.{makes_entry}
use Rattle.plai_fix_rows.proofs.Telling.{has_more, has_less}

-- each entry is left, or has a row, or the limit is met
abbrev pub AreOpening : (d : Domain) → Program d → ℕ → List (KeptRow d) → List (NameOf d) → Type 0
AreOpening d g limit kept left = ((x : NameOf d) → IsIn x g.entries → IsIn x left ⊎ HasLiveRow d kept x) ⊎ (limit ≤ kept_live d kept)

pub opening_all : (d : Domain) (g : Program d) (limit : ℕ) (kept : List (KeptRow d)) (left : List (NameOf d)) → left ≡ g.entries
    → AreOpening d g limit kept left
opening_all d g limit kept left e = inl (λ x i. inl (subst (IsIn x) (sym e) i))

pub opening_none : (d : Domain) (g : Program d) (limit : ℕ) (kept : List (KeptRow d)) (left : List (NameOf d)) → left ≡ [] → AreOpening d g limit kept left
    → AreOpened d g limit kept
opening_none d g limit kept left e (inl h) = inl (λ x i. at x (h x i))
  where
    at : (x : NameOf d) → IsIn x left ⊎ HasLiveRow d kept x → HasLiveRow d kept x
    at x (inl i) = absurd (subst (IsIn x) e i)
    at x (inr n) = n
opening_none d g limit kept left e (inr l) = inr l

-- rows that go on keep it
pub opened_on : (d : Domain) (g : Program d) (limit : ℕ) (kept new : List (KeptRow d)) → Extends d kept new → AreOpened d g limit kept → AreOpened d g limit new
opened_on d g limit kept new extends (inl h) = inl (λ x i. let (j, n, l) = h x i in (j, extends.names j x n, extends.lives j l))
opened_on d g limit kept new extends (inr l) = inr (let m = extends.live in omega arith)

-- a named row that is live
pub has_live : (d : Domain) (limit : ℕ) (kept new : List (KeptRow d)) (y : NameOf d) (row : ℕ) → Extends d kept new → IsNamed d kept row y
    → (is_live d new row ≡ true) ⊎ (limit ≤ kept_live d new) → HasLiveRow d new y ⊎ (limit ≤ kept_live d new)
has_live d limit kept new y row extends named (inl l) = inl (row, extends.names row y named, l)
has_live d limit kept new y row extends named (inr m) = inr m

-- one more entry is placed
pub opening_more : (d : Domain) (g : Program d) (limit : ℕ) (kept new : List (KeptRow d)) (y : NameOf d) (left : List (NameOf d)) → Extends d kept new
    → HasLiveRow d new y ⊎ (limit ≤ kept_live d new) → AreOpening d g limit kept (left ++ y ∷ []) → AreOpening d g limit new left
opening_more d g limit kept new y left extends (inr l) opening = inr l
opening_more d g limit kept new y left extends (inl own) (inr l) = inr (let m = extends.live in omega arith)
opening_more d g limit kept new y left extends (inl own) (inl h) = inl (λ x i. on x (h x i))
  where
    on : (x : NameOf d) → IsIn x (left ++ y ∷ []) ⊎ HasLiveRow d kept x → IsIn x left ⊎ HasLiveRow d new x
    on x (inl i) = in_push left y x i (λ m. inl m) (λ s. inr (own.0, subst (IsNamed d new own.0) s own.1, own.2))
    on x (inr (j, n, l)) = inr (j, extends.names j x n, extends.lives j l)

module _ (p : PlainDomain) (program : ProgramView) (limit : ℕ) (y : Name PredKey Abs) (k : Keeping (as_domain p)) (told : Option (List WorkEntry)) where
  abbrev d : Domain
  d = as_domain p

  abbrev g : Program d
  g = as_program p program

  -- a placed name has a row, or the limit is met
  pub placed_named : (new : Keeping d) (later : Option (List WorkEntry)) (row : ℕ) → Places p program limit y k told new later (Some row)
      → IsNamed d new.rows row y
  placed_named new later row (IsThere j named) = named
  placed_named new later row (IsMade made absent room makes) =
      subst (λ ks. IsNamed d ks (length k.rows) y) (sym makes.rows) (named_last d k.rows (record { name = y; answer = None; live = true }))

  pub placed_full : (new : Keeping d) (later : Option (List WorkEntry)) → Places p program limit y k told new later None → limit ≤ kept_live d new.rows
  placed_full new later (IsLacking absent met) = met

  -- work goes on
  module _ (laws : domain.IsLawful p) (good : IsWellFormed program) (begun : Origin) (steps : ℕ) (unmet : ℕ → ℕ → Bool)
      (inside : IsIn y g.entries)
      (at_work : IsAtWork p program limit begun told steps k unmet) where
    pub entry_placed : (new : Keeping d) (later : Option (List WorkEntry)) (row : Option ℕ) → Places p program limit y k told new later row
        → IsAtWork p program limit begun later steps new unmet
    entry_placed new later row (IsThere j named) = at_work
    entry_placed new later row (IsMade made absent room makes) =
        has_more p program begun.told told steps (λ log. IsWorking d g (as_limits p) limit (start_of p begun) log k None None unmet)
        (λ log. IsWorking d g (as_limits p) limit (start_of p begun) log made None None unmet) at_work
        (noted (entries.Made (row_name y)) told) steps (Made y) (entries.Made (row_name y)) refl refl (omega arith)
        (makes_entry d g (lawful_at p laws program good) (as_limits p) limit (start_of p begun) at_work.log k made unmet at_work.is y inside absent room makes)
    entry_placed new later row (IsLacking absent met) = at_work

-- what was told is legal
pub work_legal : (p : PlainDomain) (program : ProgramView) (limit : ℕ) (begun : Origin) (told : Option (List WorkEntry)) (steps : ℕ) (k : Keeping (as_domain p))
    (unmet : ℕ → ℕ → Bool)
    → IsAtWork p program limit begun told steps k unmet → HasLog p program begun.told told 0
    (IsLegalLog (as_domain p) (as_program p program) limit (start_of p begun))
work_legal p program limit begun told steps k unmet at_work =
    has_less p program begun.told told steps (λ log. IsWorking (as_domain p) (as_program p program) (as_limits p) limit
    (start_of p begun) log k None None unmet)
    (IsLegalLog (as_domain p) (as_program p program) limit (start_of p begun)) at_work 0 (omega arith) (λ w. w.logged.legal)
