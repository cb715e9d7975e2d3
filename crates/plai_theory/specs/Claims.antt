-- What the theorems of this crate say, in words for its contracts.
use Rattle.std.specs.Prelude.{◌≡◌, ℕ, ◌≤◌, List, length, Some, false}
use Rattle.plai_theory.specs.Words.{IsIn, AreDistinct, UpTo}
use Rattle.plai_theory.specs.Domain.{Domain, Program, IsLawful}
use Rattle.plai_theory.specs.Evaluation.{NameOf, name_of, answer_of, join_of}
use Rattle.plai_theory.specs.Stages.{stage, Reaches}
use Rattle.plai_theory.specs.LeastTable.{Row, Order, IsStrictOrder, IsLeastTable}
use Rattle.plai_theory.specs.Tables.{source_of, HasName}
use Rattle.plai_theory.specs.LegalWork.{WorkRow, Work, LogEntry, find, IsDemanded, IsLegalLog, IsEnd, NoneDue, after_all}
use Rattle.plai_theory.specs.Edits.{IsOpening}

-- stages rise with their number and with the call
abbrev pub StagesRise : (d : Domain) → Program d → Type 0
StagesRise d g =
    (n m : ℕ) → n ≤ m → (p : d.Pred) (v w : d.Value) → d.leq p v w → UpTo (d.leq p) (stage d g n p v) (stage d g m p w)

-- a row of the same predicate has a call at or above that name's
abbrev pub HasAbove : (d : Domain) → List (Row d) → NameOf d → Type 0
HasAbove d rows x = (w : d.Value) × HasName d rows (name_of d x.pred w) × d.leq x.pred x.call w

-- every stage lies at or below a row's answer, at each call at or below the row's
abbrev pub CoversStages : (d : Domain) → Program d → List (Row d) → Type 0
CoversStages d g rows =
    (n : ℕ) (r : Row d) → IsIn r rows → (v : d.Value) → d.leq r.name.pred v r.name.call
    → UpTo (d.leq r.name.pred) (stage d g n r.name.pred v) r.answer

-- each name that some stage reaches lies at or below a row's
abbrev pub CoversReach : (d : Domain) → Program d → List (Row d) → Type 0
CoversReach d g rows = (n k : ℕ) (x : NameOf d) → Reaches d g (stage d g n) k x → HasAbove d rows x

-- each row is reached under the rows
abbrev pub AreReached : (d : Domain) → Program d → List (Row d) → Type 0
AreReached d g rows = (r : Row d) → IsIn r rows → (k : ℕ) × Reaches d g (source_of d rows) k r.name

-- the clause raises no answer of these rows at this one
abbrev pub IsUnchangedBy : (d : Domain) → List (Row d) → Row d → d.Clause → Type 0
IsUnchangedBy d rows r c = join_of d r.answer (answer_of d (source_of d rows) c r.name.call) ≡ r.answer

-- so many different names lie at or below names of the rows
abbrev pub HaveBelow : (d : Domain) → List (Row d) → ℕ → Type 0
HaveBelow d rows n =
    (names : List (NameOf d)) × (length names ≡ n) × AreDistinct names × ((y : NameOf d) → IsIn y names → HasAbove d rows y)

-- the log is legal from that work on, and ends
pub record IsWholeLog (d : Domain) (g : Program d) (limit : ℕ) (start : Work d) (log : List (LogEntry d)) : Type 0 where
  pub legal : IsLegalLog d g limit start log
  pub end : IsEnd d g (after_all d g start log)

-- The log is legal from that work on; then no growth is due, and the name is demanded and no live row.
pub record IsStoppedLog (d : Domain) (g : Program d) (limit : ℕ) (start : Work d) (log : List (LogEntry d)) (x : NameOf d) : Type 0 where
  pub legal : IsLegalLog d g limit start log
  pub none_due : NoneDue d g (after_all d g start log)
  pub demanded : IsDemanded d g (after_all d g start log).rows x
  pub not_live : (r : WorkRow d) → find d (after_all d g start log).rows x ≡ Some r → r.live ≡ false

-- The least table of the old program, and rows with which work on the new program opens.
pub record IsRepair (d : Domain) (before : Order d) (old new : Program d) (table : List (Row d)) (opened : List (WorkRow d)) : Type 0 where
  pub order : IsStrictOrder d before
  pub old_lawful : IsLawful d old
  pub new_lawful : IsLawful d new
  pub least : IsLeastTable d old before table
  pub opening : IsOpening d old new table opened
