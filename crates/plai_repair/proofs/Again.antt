-- Where a program was worked on until its log ended, and what calls reach is kept, table and arcs are whole.
use Rattle.std.proofs.Common.{◌≡◌, ◌↔◌, ℕ, zero, suc, true, List, [], ◌∷◌, map, slice_get, Option, Some, None, sym, refl, ap, ◌∙◌, subst}
use Rattle.plai_theory.specs.Words.{IsIn, given, item}
use Rattle.plai_theory.specs.Domain.{Name}
use Rattle.plai_theory.specs.LeastTable.{Row, IsLeastTable}
use Rattle.plai_theory.specs.LegalWork.{Work, LogEntry, after_all, IsLogResult}
use Rattle.plai_theory.specs.Edits.{IsOpening}
use Rattle.plai_theory.proofs.Logs.{log_keeps, empty}
use Rattle.plai_theory.proofs.Invariant.{Inv}
use Rattle.plai_theory.proofs.Edits.{opened_inv}
use Rattle.plai_terms.specs.declared.abs.Abs.{Abs}
use Rattle.plai_terms.specs.declared.pred_key.PredKey.{PredKey}
use Rattle.plai_domain.specs.Plain.{PlainDomain}
use Rattle.plai_domain.specs.Laws.{IsLawful}
use Rattle.plai_clauses.specs.Program.{ProgramView}
use Rattle.plai_clauses.specs.WellFormed.{IsWellFormed}
use Rattle.plai_eval.specs.Meaning.{as_domain, as_program}
use Rattle.plai_eval.specs.LeastTable.{before}
use Rattle.plai_eval.proofs.One.{strict}
use Rattle.plai_eval.proofs.Lawful.{lawful_at}
use Rattle.plai_table.specs.Rows.{TableRow, with_live}
use Rattle.plai_arcs.specs.declared.arcs.Arcs.{Arcs}
use Rattle.plai_fix_laws.specs.WorkStates.{KeptRow, IsNamed}
use Rattle.plai_fix_rows.specs.Tables.{kept_row, kept_rows, state_of}
use Rattle.plai_fix_rows.specs.Told.{PlainRow, work_over}
use Rattle.plai_fix.specs.Stops.{IsSolvedBy}
use Rattle.plai_fix_rows.specs.Marks.{AreMarked}
use Rattle.plai_repair.specs.Opened.{IsWholeTable}
use Rattle.plai_repair.specs.Reached.{entry_at, KeepsReached}
use Rattle.plai_repair.proofs.Ended.{awake, IsCutTo, HasEnded, is_whole}

module _ {V : Type 0} (value_of : V → Abs) (p : PlainDomain) where
  kept_get : (ts : List (TableRow V)) (n : ℕ)
      → item (kept_rows value_of p ts) n ≡ given None (λ (t : TableRow V). Some (kept_row value_of p t)) (slice_get ts n)
  kept_get [] n = refl
  kept_get (t ∷ ts) zero = refl
  kept_get (t ∷ ts) (suc n) = kept_get ts n

  awake_get : (ts : List (TableRow V)) (n : ℕ)
      → given None (λ (t : TableRow V). Some (kept_row value_of p t)) (slice_get (map (with_live true) ts) n)
      ≡ given None (λ (r : KeptRow (as_domain p)). Some (awake (as_domain p) r)) (item (kept_rows value_of p ts) n)
  awake_get [] n = refl
  awake_get (t ∷ ts) zero = refl
  awake_get (t ∷ ts) (suc n) = awake_get ts n

  had_awake : (ts : List (TableRow V)) (o : Option ℕ)
      → given None (λ (t : TableRow V). Some (kept_row value_of p t)) (given None (slice_get (map (with_live true) ts)) o)
      ≡ given None (λ (b : ℕ). given None (λ (r : KeptRow (as_domain p)). Some (awake (as_domain p) r)) (item (kept_rows value_of p ts) b)) o
  had_awake ts None = refl
  had_awake ts (Some b) = awake_get ts b

  pub cut_to : (ts now : List (TableRow V)) (arcs new_arcs : Arcs) → KeepsReached ts arcs now new_arcs
      → IsCutTo (as_domain p) (state_of value_of p ts arcs) (entry_at ts) (state_of value_of p now new_arcs)
  cut_to ts now arcs new_arcs c = record {
    had = c.had;
    items = λ n. kept_get now n ∙ ap (given None (λ (t : TableRow V). Some (kept_row value_of p t))) (c.renumbers.items n) ∙ had_awake ts (c.had n);
    dirty = c.renumbers.dirty;
    calls = c.renumbers.calls;
    sound = c.sound;
    whole = c.whole;
    once = c.once;
  }

  marked_at : (names : List (Name PredKey Abs)) (ts : List (TableRow V))
      → ((n : ℕ) (r : TableRow V) → slice_get ts n ≡ Some r → (r.entry ≡ true) ↔ IsIn (kept_row value_of p r).name names)
      → (n : ℕ) (x : Name PredKey Abs) → IsNamed (as_domain p) (kept_rows value_of p ts) n x → (entry_at ts n ≡ true) ↔ IsIn x names
  marked_at names [] h n x named = absurd named
  marked_at names (t ∷ ts) h zero x named =
      let both = h zero t refl in (
        λ e. subst (λ (y : Name PredKey Abs). IsIn y names) named (both.0 e),
        λ i. both.1
            (subst (λ (y : Name PredKey Abs). IsIn y names) (sym named) i),
      )
  marked_at names (t ∷ ts) h (suc n) x named = marked_at names ts (λ m r e. h (suc m) r e) n x named

  module _ (laws : IsLawful p) (program : ProgramView) (good : IsWellFormed program) where
    -- work that began with rows that meet the invariant has ended
    pub ended : (start : Work (as_domain p)) → Inv (as_domain p) (as_program p program) start.rows start.last
        → (limit : ℕ) (ts : List (TableRow V)) (arcs : Arcs) (log : List (LogEntry (as_domain p)))
        → IsSolvedBy p program limit start (state_of value_of p ts arcs) log → AreMarked value_of p program ts
        → HasEnded (as_domain p) (as_program p program) (state_of value_of p ts arcs) (entry_at ts) (after_all (as_domain p) (as_program p program) start log)
    ended start inv limit ts arcs log solved marked = record {
      inv = log_keeps (as_domain p) (as_program p program) (lawful_at p laws program good) limit start log inv solved.whole.legal;
      end = solved.whole.end;
      keeps = solved.keeps;
      entries = marked_at (as_program p program).entries ts marked;
    }

    -- Theorem: then what calls reach is whole.
    pub whole_solved : (start : Work (as_domain p)) → Inv (as_domain p) (as_program p program) start.rows start.last
        → (limit : ℕ) (ts now : List (TableRow V)) (arcs new_arcs : Arcs) (log : List (LogEntry (as_domain p)))
        → IsSolvedBy p program limit start (state_of value_of p ts arcs) log → AreMarked value_of p program ts → KeepsReached ts arcs now new_arcs
        → (rows : List (Row (as_domain p)))
        → IsLogResult (as_domain p) (as_program p program) (before p) (after_all (as_domain p) (as_program p program) start log) rows
        → IsWholeTable value_of p program rows now new_arcs
    whole_solved start inv limit ts now arcs new_arcs log solved marked c rows result =
        is_whole (as_domain p) (as_program p program) (lawful_at p laws program good) (state_of value_of p ts arcs) (entry_at ts)
        (after_all (as_domain p) (as_program p program) start log) (ended start inv limit ts arcs log solved marked) (before p) (strict p) rows result
        (state_of value_of p now new_arcs) (cut_to ts now arcs new_arcs c)

    -- Theorem: where it began with no rows.
    pub solved_anew : (limit : ℕ) (ts now : List (TableRow V)) (arcs new_arcs : Arcs) (log : List (LogEntry (as_domain p)))
        → IsSolvedBy p program limit (work_over p []) (state_of value_of p ts arcs) log → AreMarked value_of p program ts → KeepsReached ts arcs now new_arcs
        → (rows : List (Row (as_domain p)))
        → IsLogResult (as_domain p) (as_program p program) (before p) (after_all (as_domain p) (as_program p program) (work_over p []) log) rows
        → IsWholeTable value_of p program rows now new_arcs
    solved_anew = whole_solved (work_over p []) (empty (as_domain p) (as_program p program) (lawful_at p laws program good))

    -- the rows that an edit keeps meet the invariant
    pub again_inv : (was : ProgramView) → IsWellFormed was → (table : List (Row (as_domain p)))
        → IsLeastTable (as_domain p) (as_program p was) (before p) table → (opened : List PlainRow)
        → IsOpening (as_domain p) (as_program p was) (as_program p program) table (work_over p opened).rows
        → Inv (as_domain p) (as_program p program) (work_over p opened).rows None
    again_inv was good' table least opened opening =
        opened_inv (as_domain p) (as_program p was) (as_program p program) (lawful_at p laws was good') (lawful_at p laws program good) (before p) (strict p)
        table least.0 least.1 (work_over p opened).rows opening

    -- Theorem: where it began with the rows that an edit keeps.
    pub solved_again : (was : ProgramView) → IsWellFormed was → (table : List (Row (as_domain p)))
        → IsLeastTable (as_domain p) (as_program p was) (before p) table → (opened : List PlainRow)
        → IsOpening (as_domain p) (as_program p was) (as_program p program) table (work_over p opened).rows
        → (limit : ℕ) (ts now : List (TableRow V)) (arcs new_arcs : Arcs) (log : List (LogEntry (as_domain p)))
        → IsSolvedBy p program limit (work_over p opened) (state_of value_of p ts arcs) log → AreMarked value_of p program ts
        → KeepsReached ts arcs now new_arcs → (rows : List (Row (as_domain p)))
        → IsLogResult (as_domain p) (as_program p program) (before p) (after_all (as_domain p) (as_program p program) (work_over p opened) log) rows
        → IsWholeTable value_of p program rows now new_arcs
    solved_again was good' table least opened opening = whole_solved (work_over p opened) (again_inv was good' table least opened opening)
