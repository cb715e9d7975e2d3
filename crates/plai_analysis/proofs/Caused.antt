-- Clauses of rows that an edit keeps are evaluated by a cause.
use Rattle.std.proofs.Common.{◌≡◌, ℕ, true, List, [], ◌∷◌, ◌++◌, Option, Some, None, ◌⊎◌, subst, inl, inr}
use Rattle.plai_theory.specs.Words.{IsIn}
use Rattle.plai_theory.specs.Domain.{Domain, Program, Name}
use Rattle.plai_theory.specs.Evaluation.{NameOf}
use Rattle.plai_theory.specs.LegalWork.{WorkRow, Work, LogEntry, Made, Woke, Evaluated, Grew, find, after, after_all, IsLegal, IsLegalLog}
use Rattle.plai_theory.specs.Edits.{grown_names, grown_back, IsCaused}
use Rattle.plai_theory.proofs.Causes.{dirty_cause}
use Rattle.plai_terms.specs.declared.abs.Abs.{Abs}
use Rattle.plai_terms.specs.declared.pred_key.PredKey.{PredKey}
use Rattle.plai_domain.specs.Plain.{PlainDomain}
use Rattle.plai_domain.specs.Laws as domain
use Rattle.plai_clauses.specs.Program.{ProgramView}
use Rattle.plai_clauses.specs.WellFormed.{IsWellFormed}
use Rattle.plai_eval.specs.Meaning.{as_domain, as_program}
use Rattle.plai_eval.proofs.Lawful.{lawful_at}
use Rattle.plai_fix_rows.specs.Told.{PlainRow, work_over}
use Rattle.plai_analysis.specs.Starts.{IsStart}
use Rattle.plai_analysis.specs.Caused.{AreEvaluatedByCause, IsCarefulStart}

-- what is in one name and others, or in more of them
placed : {A : Type 0} (x : A) (grew more : List A) (y : A) → IsIn y (x ∷ grew) ⊎ IsIn y more → IsIn y grew ⊎ IsIn y (x ∷ more)
placed x grew more y (inl (inl e)) = inr (inl e)
placed x grew more y (inl (inr i)) = inl i
placed x grew more y (inr i) = inr (inr i)

-- what is gathered from the back was there, or grew
gathered : (d : Domain) (grew : List (NameOf d)) (es : List (LogEntry d)) (y : NameOf d) → IsIn y (grown_back d grew es)
    → IsIn y grew ⊎ IsIn y (grown_names d es)
gathered d grew [] y i = inl i
gathered d grew (Made x ∷ es) y i = gathered d grew es y i
gathered d grew (Woke x ∷ es) y i = gathered d grew es y i
gathered d grew (Evaluated x n ∷ es) y i = gathered d grew es y i
gathered d grew (Grew x a ∷ es) y i = placed x grew (grown_names d es) y (gathered d (x ∷ grew) es y i)

only_grown : (d : Domain) (es : List (LogEntry d)) (y : NameOf d) → IsIn y [] ⊎ IsIn y (grown_names d es) → IsIn y (grown_names d es)
only_grown d es y (inl i) = absurd i
only_grown d es y (inr i) = i

caused : (d : Domain) (old : Program d) (es : List (LogEntry d)) (x : NameOf d) (i : ℕ) (calls : List (NameOf d))
    → IsCaused d old (grown_back d [] es) x i calls → IsCaused d old (grown_names d es) x i calls
caused d old es x i calls (inl e) = inl e
caused d old es x i calls (inr (y, grew, called)) = inr (y, only_grown d es y (gathered d [] es y grew), called)

module _ (d : Domain) (g : Program d) (limit : ℕ) where
  -- the first part of a legal log is one
  legal_first : (w : Work d) (done rest : List (LogEntry d)) → IsLegalLog d g limit w (done ++ rest) → IsLegalLog d g limit w done
  legal_first w [] rest legal = tt
  legal_first w (e ∷ done) rest legal = (legal.0, legal_first (after d g w e) done rest legal.1)

  -- and what stands behind it is legal there
  legal_there : (w : Work d) (done rest : List (LogEntry d)) (e : LogEntry d) → IsLegalLog d g limit w (done ++ e ∷ rest)
      → IsLegal d g limit (after_all d g w done) e
  legal_there w [] rest e legal = legal.0
  legal_there w (f ∷ done) rest e legal = legal_there (after d g w f) done rest e legal.1

  -- a clause that may be evaluated is dirty
  dirty_there : (w : Work d) (x : NameOf d) (i : ℕ) → IsLegal d g limit w (Evaluated x i) → (row : WorkRow d) → find d w.rows x ≡ Some row
      → row.dirty i ≡ true
  dirty_there w x i (none, (r, found, live, dirty), clause) row e = let same : r ≡ row = cc in subst (λ (q : WorkRow d). q.dirty i ≡ true) same dirty

module _ (p : PlainDomain) (laws : domain.IsLawful p) (program : ProgramView) (good : IsWellFormed program) (limit : ℕ) where
  -- Theorem: wherever work on the program begins, it is careful.
  pub careful : (was : Option ProgramView) (opened : List PlainRow) → IsStart p was program opened → IsCarefulStart p was program limit opened
  careful None opened start = record { start = start; caused = λ log legal. tt }
  careful (Some was) opened start = record { start = start; caused = all }
    where
      begun : Work (as_domain p)
      begun = work_over p opened

      legal_in : (log : List (LogEntry (as_domain p))) → IsLegalLog (as_domain p) (as_program p program) limit begun log
          → (es : List (LogEntry (as_domain p))) → log ≡ es → IsLegalLog (as_domain p) (as_program p program) limit begun es
      legal_in log legal es same = subst (IsLegalLog (as_domain p) (as_program p program) limit begun) same legal

      all : (log : List (LogEntry (as_domain p))) → IsLegalLog (as_domain p) (as_program p program) limit begun log
          → AreEvaluatedByCause p (Some was) program opened log
      all log legal done rest x i parts kept row is_kept is_there =
          let within = legal_in log legal (done ++ Evaluated x i ∷ rest) parts in
          let there = legal_there (as_domain p) (as_program p program) limit begun done rest (Evaluated x i) within in
          caused (as_domain p) (as_program p was) done x i (row.calls i)
          (dirty_cause (as_domain p) (as_program p was) (as_program p program) (lawful_at p laws program good) start.table (work_over p opened).rows
          start.opening limit done (legal_first (as_domain p) (as_program p program) limit begun done (Evaluated x i ∷ rest) within)
          x row is_there (start.opening.kept x kept is_kept) i
          (dirty_there (as_domain p) (as_program p program) limit (after_all (as_domain p) (as_program p program) begun done) x i there row is_there))
