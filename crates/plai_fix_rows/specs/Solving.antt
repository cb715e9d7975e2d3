-- Work on a table and its arcs: between two steps, and while a pair is worked in (Hermenegildo, Puebla, Marriott
-- and Stuckey 2000).
use Rattle.std.specs.Prelude.{◌≡◌, ℕ, ◌<◌, ◌≤◌, Bool, true, false, List, length, Option, Some, None}
use Rattle.std.specs.List.{list_any}
use Rattle.plai_theory.specs.Domain.{Name}
use Rattle.plai_terms.specs.declared.abs.Abs.{Abs}
use Rattle.plai_terms.specs.declared.pred_key.PredKey.{PredKey}
use Rattle.plai_domain.specs.declared.work.WorkEntry.{WorkEntry}
use Rattle.plai_domain.specs.declared.work.WorkEntry.TheVariants as entries
use Rattle.plai_domain.specs.Noted.{noted}
use Rattle.plai_domain.specs.Plain.{PlainDomain}
use Rattle.plai_clauses.specs.Program.{ProgramView, clauses_of}
use Rattle.plai_arcs.specs.Links.{is_pair}
use Rattle.plai_eval.specs.Meaning.{row_name, as_domain, as_limits, as_program}
use Rattle.plai_fix_laws.specs.WorkStates.{Keeping, IsNamed, is_live, with_pair, kept_live}
use Rattle.plai_fix_laws.specs.Changes.{Makes, Wakes}
use Rattle.plai_fix_laws.specs.Logs.{IsWorking, IsWaking}
use Rattle.plai_fix_laws.specs.Pairs.{Links, HasEvaluated, IsWaiting}
use Rattle.plai_fix_laws.specs.Queues.{IsQueued, Awaits}
use Rattle.plai_fix_rows.specs.Told.{Origin, start_of, HasLog}

-- between two steps: the pairs that are marked as unmet called a name that has no live row
abbrev pub IsAtWork : (p : PlainDomain) → ProgramView → ℕ → Origin → Option (List WorkEntry) → ℕ → Keeping (as_domain p) → (ℕ → ℕ → Bool)
    → Type 0
IsAtWork p program limit begun told steps k unmet =
    HasLog p program begun.told told steps (λ log. IsWorking (as_domain p) (as_program p program) (as_limits p) limit (start_of p begun) log k None None unmet)

-- work that stands between two steps does so afterwards too, wherever it began
abbrev pub GoesOn : (p : PlainDomain) → ProgramView → ℕ → Option (List WorkEntry) → Keeping (as_domain p) → (ℕ → ℕ → Bool)
    → Option (List WorkEntry) → Keeping (as_domain p) → (ℕ → ℕ → Bool) → Type 0
GoesOn p program limit told k unmet new_told new new_unmet =
    (begun : Origin) (cost : ℕ) → IsAtWork p program limit begun told cost k unmet → IsAtWork p program limit begun new_told cost new new_unmet

-- Work stands between two steps, and each live row that has a dirty pair is queued.
pub record IsReady (p : PlainDomain) (program : ProgramView) (limit : ℕ) (begun : Origin) (told : Option (List WorkEntry)) (steps : ℕ) (k : Keeping (as_domain p))
    (unmet : ℕ → ℕ → Bool) (queue : List ℕ) : Type 0 where
  pub at_work : IsAtWork p program limit begun told steps k unmet
  pub queued : IsQueued k queue

-- while rows are woken: what the pending pairs call may be dormant still
abbrev pub IsAtWaking : (p : PlainDomain) → ProgramView → ℕ → Origin → Option (List WorkEntry) → ℕ → Keeping (as_domain p) → (ℕ → ℕ → Bool)
    → (ℕ → ℕ → Bool) → Type 0
IsAtWaking p program limit begun told steps k pending unmet =
    HasLog p program begun.told told steps (λ log. IsWaking (as_domain p) (as_program p program) (as_limits p) limit (start_of p begun) log k pending unmet)

-- behind the evaluation of clause i of row n, which called these names and gave this answer
abbrev pub IsPastEvaluation : (p : PlainDomain) → ProgramView → ℕ → Origin → Option (List WorkEntry) → ℕ → Keeping (as_domain p)
    → (ℕ → ℕ → Bool)
    → Option (ℕ × ℕ) → ℕ → ℕ → List (Name PredKey Abs) → Option Abs → Type 0
IsPastEvaluation p program limit begun told steps k unmet open_pair n i called answer =
    HasLog p program begun.told told steps (λ log. HasEvaluated (as_domain p) (as_program p program) (as_limits p) limit (start_of p begun) log k open_pair unmet n i called answer)

-- behind its growth
abbrev pub IsPastGrowth : (p : PlainDomain) → ProgramView → ℕ → Origin → Option (List WorkEntry) → ℕ → Keeping (as_domain p) → (ℕ → ℕ → Bool)
    → Option (ℕ × ℕ) → ℕ → ℕ → List (Name PredKey Abs) → Type 0
IsPastGrowth p program limit begun told steps k unmet open_pair n i called =
    HasLog p program begun.told told steps (λ log. IsWaiting (as_domain p) (as_program p program) (as_limits p) limit (start_of p begun) log k open_pair unmet n i called)

-- A name is placed: it has this row, a row is made for it, or the table is full.
pub data Places (p : PlainDomain) (program : ProgramView) (limit : ℕ) (y : Name PredKey Abs) (k : Keeping (as_domain p)) (told : Option (List WorkEntry)) :
    Keeping (as_domain p) → Option (List WorkEntry) → Option ℕ → Type 0 where
  IsThere : (j : ℕ) → IsNamed (as_domain p) k.rows j y → Places p program limit y k told k told (Some j)
  IsMade : (new : Keeping (as_domain p)) → ((j : ℕ) → IsNamed (as_domain p) k.rows j y → ⊥) → kept_live (as_domain p) k.rows < limit
      → Makes (as_domain p) (as_program p program) k new y → Places p program limit y k told new (noted (entries.Made (row_name y)) told) (Some (length k.rows))
  IsLacking : ((j : ℕ) → IsNamed (as_domain p) k.rows j y → ⊥) → limit ≤ kept_live (as_domain p) k.rows → Places p program limit y k told k told None

-- The row of this number is live, or is woken and then is, or the limit is met. A woken row's pairs are pending.
pub data Rouses (p : PlainDomain) (program : ProgramView) (limit row : ℕ) (k : Keeping (as_domain p)) (told : Option (List WorkEntry)) (pending : ℕ → ℕ → Bool) :
    Keeping (as_domain p) → Option (List WorkEntry) → (ℕ → ℕ → Bool) → Bool → Type 0 where
  IsAwake : is_live (as_domain p) k.rows row ≡ true → Rouses p program limit row k told pending k told pending true
  IsWoken : (new : Keeping (as_domain p)) (more : ℕ → ℕ → Bool) (x : Name PredKey Abs) → IsNamed (as_domain p) k.rows row x → is_live (as_domain p) k.rows row ≡ false
      → kept_live (as_domain p) k.rows < limit → Wakes (as_domain p) k new row → Awaits row (length (clauses_of program x.pred)) pending more
      → Rouses p program limit row k told pending new (noted (entries.Woke (row_name x)) told) more true
  IsAsleep : is_live (as_domain p) k.rows row ≡ false → limit ≤ kept_live (as_domain p) k.rows → Rouses p program limit row k told pending k told pending false

-- Names are placed for the pair of row n and clause i: these rows are of the called names, the others are still left or have
-- no row, where the limit is met.
pub record IsPlacing (p : PlainDomain) (program : ProgramView) (limit : ℕ) (begun : Origin) (told : Option (List WorkEntry)) (steps : ℕ) (k : Keeping (as_domain p))
    (unmet : ℕ → ℕ → Bool)
    (n i : ℕ) (called : List (Name PredKey Abs)) (rows : ℕ → Bool) (left : List (Name PredKey Abs)) (full : Bool) : Type 0 where
  pub waiting : IsPastGrowth p program limit begun told steps k unmet (Some (n, i)) n i called
  pub links : Links (as_domain p) k.rows called rows left full
  pub no_room : full ≡ true → limit ≤ kept_live (as_domain p) k.rows

-- whether the pair is in the list
abbrev pub listed : List (ℕ × ℕ) → ℕ → ℕ → Bool
listed pairs n m = list_any (is_pair n m) pairs

-- The rows that the pair of row n and clause m calls are woken one after another: those that are done are live, unless the
-- limit left one of them dormant.
pub record IsMeeting (p : PlainDomain) (program : ProgramView) (limit : ℕ) (begun : Origin) (told : Option (List WorkEntry)) (steps : ℕ) (k : Keeping (as_domain p))
    (pending unmet : ℕ → ℕ → Bool) (n m : ℕ) (ready : ℕ → Bool) (full : Bool) : Type 0 where
  pub waking : IsAtWaking p program limit begun told steps k (with_pair n m pending) unmet
  pub done : (j : ℕ) → ready j ≡ true → full ≡ false → is_live (as_domain p) k.rows j ≡ true
  pub left : full ≡ true → (limit ≤ kept_live (as_domain p) k.rows) × (j : ℕ) × (k.calls n m j ≡ true) × (is_live (as_domain p) k.rows j ≡ false)
