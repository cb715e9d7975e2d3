-- Why work on a program stops, and that the program is not over where it ends (Hermenegildo, Puebla, Marriott and Stuckey 2000).
use Rattle.std.proofs.Common.{◌≡◌, ℕ, zero, suc, ◌≤◌, true, false, List, [], ◌∷◌, map, Option, Some, None, IsSome, sym, refl, ◌∙◌, subst}
use Rattle.std.proofs.Common.{inl, inr, arith}
use Rattle.plai_theory.specs.Words.{IsIn}
use Rattle.plai_theory.specs.Domain.{Domain, Program, Name}
use Rattle.plai_theory.specs.Domain as theory
use Rattle.plai_theory.specs.LegalWork.{WorkRow, Work, LogEntry, find, present_source, live_count, IsLegalLog, after_all}
use Rattle.plai_theory.specs.Limits.{IsOverAt, AllFit, CleanFit}
use Rattle.plai_theory.specs.Count.{HaveOwnNames}
use Rattle.plai_theory.specs.Claims.{IsWholeLog, IsStoppedLog}
use Rattle.plai_theory.proofs.Rows.{item_in}
use Rattle.plai_theory.proofs.Near.{IsNear}
use Rattle.plai_theory.proofs.Invariant.{Inv, settle, near_demanded}
use Rattle.plai_theory.proofs.Logs.{log_keeps, empty}
use Rattle.plai_theory.proofs.Edits.{opened_inv}
use Rattle.plai_theory.proofs.LiveNames.{live_names, live_found, live_distinct, live_length, dormant_count}
use Rattle.plai_theory.proofs.WithinLimit.{limit_log}
use Rattle.plai_theory.proofs.Count.{near_row}
use Rattle.plai_theory.proofs.Over.{over_cause, log_not_over, nothing_fits, opened_fit}
use Rattle.plai_terms.specs.declared.abs.Abs.{Abs}
use Rattle.plai_terms.specs.declared.pred_key.PredKey.{PredKey}
use Rattle.plai_terms.specs.declared.row_name.RowName.{RowName}
use Rattle.plai_domain.specs.declared.work.WorkEntry.{WorkEntry}
use Rattle.plai_domain.specs.Plain.{PlainDomain}
use Rattle.plai_domain.specs.Laws as domain
use Rattle.plai_clauses.specs.Program.{ProgramView}
use Rattle.plai_clauses.specs.WellFormed.{IsWellFormed}
use Rattle.plai_eval.specs.Meaning.{as_domain, as_limits, as_program}
use Rattle.plai_eval.specs.LeastTable.{row_of, before}
use Rattle.plai_eval.specs.Stops.{IsOver}
use Rattle.plai_eval.proofs.One.{strict}
use Rattle.plai_eval.proofs.Lawful.{lawful_at, limits_at}
use Rattle.plai_eval.proofs.Over.{over_is}
use Rattle.plai_fix.specs.declared.solve_fail.SolveFail.{SolveFail}
use Rattle.plai_fix.specs.declared.solve_fail.SolveFail.TheVariants.{Memory, Rows, Groups}
use Rattle.plai_fix_laws.specs.WorkStates.{clause_at}
use Rattle.plai_fix_rows.specs.Told.{PlainRow, work_over}
use Rattle.plai_fix.specs.Stops.{IsOverBehind, Stops}
use Rattle.plai_analysis.specs.Starts.{IsStart, AreFine}
use Rattle.plai_analysis.specs.Causes.{HasWorked, IsAskedFor, AreTooMany, IsOverThere, HasCause}
use Rattle.plai_analysis.proofs.Asked.{asked_log}

-- the clause of a number is one of the predicate's
clause_in : (d : Domain) (g : Program d) (q : d.Pred) (number : ℕ) (c : d.Clause) → clause_at d g q number ≡ Some c → IsIn c (g.clauses q)
clause_in d g q zero c e = cc
clause_in d g q (suc i) c e = item_in (g.clauses q) i c e

module _ (p : PlainDomain) (laws : domain.IsLawful p) (program : ProgramView) (good : IsWellFormed program) where
  theory_laws : theory.IsLawful (as_domain p) (as_program p program)
  theory_laws = lawful_at p laws program good

  -- Theorem: the rows with which work begins meet the invariant,
  pub start_inv : (was : Option ProgramView) (opened : List PlainRow) → IsStart p was program opened
      → Inv (as_domain p) (as_program p program) (work_over p opened).rows None
  start_inv None opened start =
      subst (λ (rows : List PlainRow). Inv (as_domain p) (as_program p program) (work_over p rows).rows None) (sym start)
      (empty (as_domain p) (as_program p program) theory_laws)
  start_inv (Some was) opened start =
      opened_inv (as_domain p) (as_program p was) (as_program p program) (lawful_at p laws was start.well_formed) theory_laws (before p) (strict p)
      start.table start.least.0 start.least.1 (work_over p opened).rows start.opening

  -- have different names,
  pub start_own : (was : Option ProgramView) (opened : List PlainRow) → IsStart p was program opened → HaveOwnNames (as_domain p) (work_over p opened).rows
  start_own None opened start = subst (λ (rows : List PlainRow). HaveOwnNames (as_domain p) (work_over p rows).rows) (sym start) tt
  start_own (Some was) opened start = start.opening.own

  -- and are dormant.
  pub start_dormant : (was : Option ProgramView) (opened : List PlainRow) → IsStart p was program opened → (x : Name PredKey Abs) (r : WorkRow (as_domain p))
      → find (as_domain p) (work_over p opened).rows x ≡ Some r → r.live ≡ false
  start_dormant None opened start x r f =
      let none : find (as_domain p) (work_over p []).rows x ≡ Some r =
      subst (λ (rows : List PlainRow). find (as_domain p) (work_over p rows).rows x ≡ Some r) start f in cc
  start_dormant (Some was) opened start x r f = start.opening.dormant x r f

  -- so none of them is live
  pub start_room : (was : Option ProgramView) (opened : List PlainRow) → IsStart p was program opened → (limit : ℕ)
      → live_count (as_domain p) (work_over p opened).rows ≤ limit
  start_room was opened start limit =
      let k : live_count (as_domain p) (work_over p opened).rows ≡ 0 = dormant_count (as_domain p) (as_program p program) theory_laws (work_over p opened).rows
      (start_own was opened start) (start_dormant was opened start) in omega (arith, k)

  -- and no clean pair of them is over, where the program before was not
  start_fit : (was : Option ProgramView) (opened : List PlainRow) → IsStart p was program opened → AreFine p was
      → CleanFit (as_domain p) (as_program p program) (as_limits p) (work_over p opened).rows
  start_fit None opened start fine =
      subst (λ (rows : List PlainRow). CleanFit (as_domain p) (as_program p program) (as_limits p) (work_over p rows).rows) (sym start)
      (nothing_fits (as_domain p) (as_program p program) (limits_at p laws program good))
  start_fit (Some was) opened start fine =
      opened_fit (as_domain p) (as_program p was) (as_program p program) (lawful_at p laws was start.well_formed) theory_laws (as_limits p)
      (limits_at p laws was start.well_formed) (before p) (strict p) start.table start.least.0 start.least.1 fine (work_over p opened).rows start.opening

  module _ (limit : ℕ) (was : Option ProgramView) (opened : List PlainRow) (start : IsStart p was program opened) where
    abbrev behind : List (LogEntry (as_domain p)) → Work (as_domain p)
    behind log = after_all (as_domain p) (as_program p program) (work_over p opened) log

    abbrev AreLegal : List (LogEntry (as_domain p)) → Type 0
    AreLegal log = IsLegalLog (as_domain p) (as_program p program) limit (work_over p opened) log

    log_own : (log : List (LogEntry (as_domain p))) → AreLegal log → HaveOwnNames (as_domain p) (behind log).rows
    log_own log legal =
        (limit_log (as_domain p) (as_program p program) theory_laws limit (work_over p opened) log (start_own was opened start)
        (start_room was opened start limit) legal).1

    has_worked : (log : List (LogEntry (as_domain p))) → AreLegal log → HasWorked p program limit (behind log).rows
    has_worked log legal = record { was = was; opened = opened; start = start; log = log; legal = legal; leads = refl }

    live_asked : (log : List (LogEntry (as_domain p))) → AreLegal log → (x : Name PredKey Abs) (r : WorkRow (as_domain p))
        → find (as_domain p) (behind log).rows x ≡ Some r → r.live ≡ true → IsAskedFor p program limit x
    live_asked log legal =
        asked_log (as_domain p) (as_program p program) theory_laws limit (IsAskedFor p program limit) (work_over p opened)
        (λ front l x dem. ((behind front).rows, has_worked front l, dem)) log legal
        (λ x r f l. let b : true ≡ false = sym l ∙ start_dormant was opened start x r f in cc)

    -- it stops at the limit of rows only where more names are asked for
    rows_cause : (log : List (LogEntry (as_domain p))) (x : Name PredKey Abs)
        → IsStoppedLog (as_domain p) (as_program p program) limit (work_over p opened) log x → live_count (as_domain p) (behind log).rows ≡ limit
        → AreTooMany p program limit
    rows_cause log x stop met = record {
      names = x ∷ live_names (as_domain p) (behind log).rows;
      many = let k = live_length (as_domain p) (as_program p program) theory_laws (behind log).rows in omega (arith, k, met);
      distinct = (absent, live_distinct (as_domain p) (as_program p program) theory_laws (behind log).rows (log_own log stop.legal));
      asked = asked;
      below = λ table least y i. near_row (as_domain p) (as_program p program) theory_laws (before p) (strict p) least.0 (map (row_of p) table) least.1 y
          (near y i);
    }
      where
        found : (y : Name PredKey Abs) → IsIn y (live_names (as_domain p) (behind log).rows)
            → (r : WorkRow (as_domain p)) × (find (as_domain p) (behind log).rows y ≡ Some r) × (r.live ≡ true)
        found = live_found (as_domain p) (as_program p program) theory_laws (behind log).rows (log_own log stop.legal)

        inv : Inv (as_domain p) (as_program p program) (behind log).rows None
        inv = settle (as_domain p) (as_program p program) theory_laws (behind log)
            (log_keeps (as_domain p) (as_program p program) theory_laws limit (work_over p opened) log (start_inv was opened start) stop.legal) stop.none_due

        absent : IsIn x (live_names (as_domain p) (behind log).rows) → ⊥
        absent i = let (r, f, l) = found x i in let b : true ≡ false = sym l ∙ stop.not_live r f in cc

        asked : (y : Name PredKey Abs) → IsIn y (x ∷ live_names (as_domain p) (behind log).rows) → IsAskedFor p program limit y
        asked y (inl e) = subst (IsAskedFor p program limit) e ((behind log).rows, has_worked log stop.legal, stop.demanded)
        asked y (inr i) = let (r, f, l) = found y i in live_asked log stop.legal y r f l

        near : (y : Name PredKey Abs) → IsIn y (x ∷ live_names (as_domain p) (behind log).rows) → IsNear (as_domain p) (as_program p program) y
        near y (inl e) =
            subst (IsNear (as_domain p) (as_program p program)) e
            (near_demanded (as_domain p) (as_program p program) theory_laws (behind log).rows inv x stop.demanded)
        near y (inr i) = let (r, f, l) = found y i in inv.near_live y r f l

    -- it stops at a set of too many groups only where the program forms one
    groups_cause : (log : List (LogEntry (as_domain p))) (steps : ℕ) (row : RowName) (number literal place : ℕ)
        → IsOverBehind p program limit (work_over p opened) steps row number literal place log
        → IsOver p program × IsOverThere p program limit row number literal place
    groups_cause log steps row number literal place h = (
      over_cause (as_domain p) (as_program p program) theory_laws (as_limits p) (limits_at p laws program good) limit (work_over p opened)
          (start_inv was opened start) log h.legal h.name h.under h.there h.live h.clause
          (clause_in (as_domain p) (as_program p program) h.name.pred number h.clause h.is_clause) is_over,
      subst (λ (r : RowName). IsOverThere p program limit r number literal place) (sym h.is_row)
          (record {
            rows = (behind log).rows;
            worked = has_worked log h.legal;
            under = h.under;
            there = h.there;
            live = h.live;
            some = h.some;
            clause = h.clause;
            is_clause = h.is_clause;
            over = h.over;
          }),
    )
      where
        is_over : IsOverAt (as_domain p) (as_limits p) (present_source (as_domain p) (behind log).rows) h.clause h.name.call
        is_over = (over_is p (λ y. present_source (as_domain p) (behind log).rows y.pred y.call) h.clause h.name.call).0 (subst IsSome (sym h.over) refl)

    -- Theorem: work that comes to no end has a cause.
    pub cause : (begun told : Option (List WorkEntry)) (steps : ℕ) (fail : SolveFail)
        → Stops p program limit (record { rows = opened; told = begun }) told steps fail → HasCause p program limit fail
    cause begun told steps Memory stop = tt
    cause begun told steps (Rows n) (same, h) = (same, rows_cause h.log h.is.name h.is.stopped h.is.met)
    cause begun told steps (Groups row number literal place) h = groups_cause h.log steps row number literal place h.is

    -- Theorem: the program is not over where work ends that began behind one that was not.
    pub not_over : AreFine p was → (log : List (LogEntry (as_domain p)))
        → IsWholeLog (as_domain p) (as_program p program) limit (work_over p opened) log
        → AllFit (as_domain p) (as_program p program) (as_limits p) (work_over p opened) log → IsOver p program → ⊥
    not_over fine log whole fits =
        log_not_over (as_domain p) (as_program p program) theory_laws (as_limits p) (limits_at p laws program good) limit (work_over p opened)
        (start_inv was opened start) (start_fit was opened start fine) log whole.legal fits whole.end
