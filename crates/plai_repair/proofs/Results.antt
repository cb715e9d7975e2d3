-- Where work has ended, its result is there: the needed rows, in order. It is the least table, of at most as many rows as the
-- limit says, and the program is not over.
use Rattle.std.proofs.Common.{◌≡◌, ℕ, zero, suc, ◌≤◌, Bool, List, [], map, length, Option, Some, None, sym, refl, ap, ◌∙◌, subst, zero-le}
use Rattle.plai_theory.specs.Words.{IsIn, given, item}
use Rattle.plai_theory.specs.Domain.{Domain, Program, IsLawful, Name}
use Rattle.plai_theory.specs.Evaluation.{NameOf}
use Rattle.plai_theory.specs.Stages.{Reaches, AtEntry, ByCall}
use Rattle.plai_theory.specs.LeastTable.{Row, IsLeastTable}
use Rattle.plai_theory.specs.Tables.{HasName}
use Rattle.plai_theory.specs.LegalWork.{Work, LogEntry, present_source, live_count, after_all, IsEnd, IsNeeded, First, Then, IsLogResult}
use Rattle.plai_theory.specs.Edits.{IsOpening}
use Rattle.plai_theory.specs.Count.{HaveOwnNames}
use Rattle.plai_theory.specs.Claims.{IsWholeLog}
use Rattle.plai_theory.specs.Limits.{AllFit}
use Rattle.plai_theory.proofs.Invariant.{Inv}
use Rattle.plai_theory.proofs.Logs.{log_keeps, empty, done, need_met, outcome_least}
use Rattle.plai_theory.proofs.Rounds.{map_in}
use Rattle.plai_theory.proofs.Rows.{item_in, in_item}
use Rattle.plai_theory.proofs.Count.{end_within}
use Rattle.plai_theory.proofs.Edits.{opened_inv, opened_room}
use Rattle.plai_theory.proofs.Over.{log_not_over, nothing_fits, opened_fit}
use Rattle.plai_terms.specs.declared.abs.Abs.{Abs}
use Rattle.plai_terms.specs.declared.pred_key.PredKey.{PredKey}
use Rattle.plai_domain.specs.Plain.{PlainDomain}
use Rattle.plai_domain.specs.Laws as domain
use Rattle.plai_domain.specs.Printed.{IsPrinted}
use Rattle.plai_clauses.specs.Program.{ProgramView}
use Rattle.plai_clauses.specs.WellFormed.{IsWellFormed}
use Rattle.plai_eval.specs.Meaning.{as_domain, as_program, as_limits}
use Rattle.plai_eval.specs.LeastTable.{before}
use Rattle.plai_eval.specs.Stops.{IsOver}
use Rattle.plai_eval.proofs.One.{strict}
use Rattle.plai_eval.proofs.Lawful.{lawful_at, limits_at}
use Rattle.plai_table.specs.Rows.{TableRow}
use Rattle.plai_arcs.specs.declared.arcs.Arcs.{Arcs}
use Rattle.plai_theory.proofs.Snapshots.{in_map}
use Rattle.plai_repair.proofs.Narrow.{reached_narrow}
use Rattle.plai_fix_laws.specs.WorkStates.{KeptRow, Keeping, IsNamed}
use Rattle.plai_fix_rows.specs.Tables.{key_name, kept_row, kept_rows, state_of}
use Rattle.plai_fix_rows.specs.Told.{PlainRow, work_over}
use Rattle.plai_fix.specs.Stops.{IsSolvedBy}
use Rattle.plai_fix_rows.specs.Marks.{AreMarked}
use Rattle.plai_fix_laws.proofs.Places.{item_map}
use Rattle.plai_repair.specs.Opened.{IsWholeTable}
use Rattle.plai_repair.specs.Reached.{entry_at, KeepsReached}
use Rattle.plai_repair.proofs.Leads.{row_of_name, name_of_row}
use Rattle.plai_repair.proofs.Ended.{HasEnded, IsCutTo, cut_needed, needed_cut}
use Rattle.plai_repair.proofs.Again.{cut_to, ended, again_inv, whole_solved}
use Rattle.plai_repair.proofs.Ordered.{IsTold, in_order, order_sound, order_ordered, order_whole}

module _ (d : Domain) (g : Program d) (laws : IsLawful d g) (w : Work d) (inv : Inv d g w.rows w.last) (end : IsEnd d g w) where
  -- what is needed is reached by calls under the present rows, and is a value
  needed_reaches : {x : NameOf d} → IsNeeded d g w.rows x → (n : ℕ) × Reaches d g (present_source d w.rows) n x
  needed_reaches (First i) = (zero, AtEntry i)
  needed_reaches (Then {x = x} m h rec) =
      let (n, r) = needed_reaches h in
      let e = (done d g laws w inv end).clean_calls m rec.row rec.there rec.number rec.clause rec.is_clause
      (end.clean m rec.row rec.there rec.is_live rec.number rec.clause rec.is_clause) in
      (suc n, ByCall m rec.clause r (item_in (g.clauses m.pred) rec.number rec.clause rec.is_clause) (subst (λ (ns : List (NameOf d)). IsIn x ns) e rec.names))

  needed_value : (x : NameOf d) → IsNeeded d g w.rows x → d.leq x.pred x.call x.call
  needed_value x h = let (r, f, live) = need_met d g laws w inv end x h in inv.value_names x r f

module _ {V : Type 0} (value_of : V → Abs) (p : PlainDomain) where
  -- the row of the work with this row's name
  abbrev row_now : Work (as_domain p) → TableRow V → Row (as_domain p)
  row_now w t = record { name = key_name value_of t.name; answer = present_source (as_domain p) w.rows t.name.pred (value_of t.name.call) }

  row_named : (now : List (TableRow V)) (n : ℕ) (t : TableRow V) → item now n ≡ Some t
      → IsNamed (as_domain p) (kept_rows value_of p now) n (key_name value_of t.name)
  row_named now n t e =
      name_of_row (as_domain p) (kept_rows value_of p now) n (kept_row value_of p t)
      (item_map (kept_row value_of p) now n ∙ ap (given None (λ (z : TableRow V). Some (kept_row value_of p z))) e)

  pub named_row : (now : List (TableRow V)) (n : ℕ) (x : Name PredKey Abs) → IsNamed (as_domain p) (kept_rows value_of p now) n x
      → (t : TableRow V) × (item now n ≡ Some t) × (key_name value_of t.name ≡ x)
  named_row now n x named =
      let (r, e, same) = row_of_name (as_domain p) (kept_rows value_of p now) n x named in
      at (item now n) r (sym (item_map (kept_row value_of p) now n) ∙ e) same
    where
      at : (o : Option (TableRow V)) (r : KeptRow (as_domain p)) → given None (λ (z : TableRow V). Some (kept_row value_of p z)) o ≡ Some r → r.name ≡ x
          → (t : TableRow V) × (o ≡ Some t) × (key_name value_of t.name ≡ x)
      at None r e same = cc
      at (Some t) r e same = let is : kept_row value_of p t ≡ r = cc in (t, refl, ap (λ (z : KeptRow (as_domain p)). z.name) is ∙ same)

  module _ (laws : domain.IsLawful p) (program : ProgramView) (good : IsWellFormed program) where
    module _ (w : Work (as_domain p)) (k : Keeping (as_domain p)) (entry : ℕ → Bool) (s : HasEnded (as_domain p) (as_program p program) k entry w)
        (now : List (TableRow V)) (new_arcs : Arcs) (c : IsCutTo (as_domain p) k entry (state_of value_of p now new_arcs)) where
      row_needed : (r : Row (as_domain p)) → IsIn r (map (row_now w) now)
          → IsNeeded (as_domain p) (as_program p program) w.rows r.name × (r.answer ≡ present_source (as_domain p) w.rows r.name.pred r.name.call)
      row_needed r i =
          map_in (λ (z : Row (as_domain p)). IsNeeded (as_domain p) (as_program p program) w.rows z.name
          × (z.answer ≡ present_source (as_domain p) w.rows z.name.pred z.name.call)) (row_now w) now r i
          (λ t j. let (n, e) = in_item now t j in (
            cut_needed (as_domain p) (as_program p program) (lawful_at p laws program good) k entry w s (state_of value_of p now new_arcs) c n
                (key_name value_of t.name) (row_named now n t e),
            refl,
          ))

      needed_row : (x : Name PredKey Abs) → IsNeeded (as_domain p) (as_program p program) w.rows x → HasName (as_domain p) (map (row_now w) now) x
      needed_row x h =
          let (n, named) = needed_cut (as_domain p) (as_program p program) (lawful_at p laws program good) k entry w s
          (state_of value_of p now new_arcs) c x h in
          let (t, e, same) = named_row now n x named in (row_now w t, in_map (row_now w) now t (item_in now n t e), same)

      row_told : (r : Row (as_domain p)) → IsIn r (map (row_now w) now) → IsTold p r.name
      row_told r i =
          let need = (row_needed r i).0 in
          let (n, reaches) = needed_reaches (as_domain p) (as_program p program) (lawful_at p laws program good) w s.inv s.end need in
          record {
            few = reached_narrow p (present_source (as_domain p) w.rows) program good reaches;
            call = needed_value (as_domain p) (as_program p program) (lawful_at p laws program good) w s.inv s.end r.name need;
          }

      -- the rows that are there, in order
      the_result : IsPrinted p → (rows : List (Row (as_domain p))) × IsLogResult (as_domain p) (as_program p program) (before p) w rows
      the_result printed = (
        in_order p (map (row_now w) now),
        record {
          ordered = order_ordered p (map (row_now w) now);
          sound = λ r i. row_needed r (order_sound p (map (row_now w) now) r i);
          whole = λ x h. order_whole p printed (map (row_now w) now) row_told x (needed_row x h);
        },
      )

    -- Theorem: where work that began with rows that meet the invariant has ended, it has a result.
    pub has_result : IsPrinted p → (start : Work (as_domain p)) → Inv (as_domain p) (as_program p program) start.rows start.last
        → (limit : ℕ) (ts now : List (TableRow V)) (arcs new_arcs : Arcs) (log : List (LogEntry (as_domain p)))
        → IsSolvedBy p program limit start (state_of value_of p ts arcs) log → AreMarked value_of p program ts → KeepsReached ts arcs now new_arcs
        → (rows : List (Row (as_domain p)))
        × IsLogResult (as_domain p) (as_program p program) (before p) (after_all (as_domain p) (as_program p program) start log) rows
    has_result printed start inv limit ts now arcs new_arcs log solved marked c =
        the_result (after_all (as_domain p) (as_program p program) start log) (state_of value_of p ts arcs) (entry_at ts)
        (ended value_of p laws program good start inv limit ts arcs log solved marked) now new_arcs (cut_to value_of p ts now arcs new_arcs c) printed

-- What ended work leaves: the least table, whole, of at most as many rows as the limit says.
pub record IsRestored {V : Type 0} (value_of : V → Abs) (p : PlainDomain) (program : ProgramView) (limit : ℕ) (start : Work (as_domain p))
    (log : List (LogEntry (as_domain p))) (now : List (TableRow V)) (new_arcs : Arcs) : Type 0 where
  pub rows : List (Row (as_domain p))
  pub result : IsLogResult (as_domain p) (as_program p program) (before p) (after_all (as_domain p) (as_program p program) start log) rows
  pub least : IsLeastTable (as_domain p) (as_program p program) (before p) rows
  pub within : length rows ≤ limit
  pub whole : IsWholeTable value_of p program rows now new_arcs

module _ (p : PlainDomain) (laws : domain.IsLawful p) (program : ProgramView) (good : IsWellFormed program) where
  -- Theorem: a result is the least table,
  pub result_least : (start : Work (as_domain p)) → Inv (as_domain p) (as_program p program) start.rows start.last
      → (limit : ℕ) (log : List (LogEntry (as_domain p))) → IsWholeLog (as_domain p) (as_program p program) limit start log → (rows : List (Row (as_domain p)))
      → IsLogResult (as_domain p) (as_program p program) (before p) (after_all (as_domain p) (as_program p program) start log) rows
      → IsLeastTable (as_domain p) (as_program p program) (before p) rows
  result_least start inv limit log whole rows result =
      outcome_least (as_domain p) (as_program p program) (lawful_at p laws program good) (after_all (as_domain p) (as_program p program) start log)
      (log_keeps (as_domain p) (as_program p program) (lawful_at p laws program good) limit start log inv whole.legal) whole.end (before p) rows result

  -- which has at most as many rows as the limit says.
  pub least_within : (start : Work (as_domain p)) → Inv (as_domain p) (as_program p program) start.rows start.last
      → HaveOwnNames (as_domain p) start.rows → (limit : ℕ) → live_count (as_domain p) start.rows ≤ limit → (log : List (LogEntry (as_domain p)))
      → IsWholeLog (as_domain p) (as_program p program) limit start log → (rows : List (Row (as_domain p)))
      → IsLeastTable (as_domain p) (as_program p program) (before p) rows → length rows ≤ limit
  least_within start inv own limit room log whole rows least =
      end_within (as_domain p) (as_program p program) (lawful_at p laws program good) (before p) (strict p) rows least limit start inv own room log
      whole.legal whole.end

  module _ {V : Type 0} (value_of : V → Abs) (printed : IsPrinted p) where
    -- Theorem: work that began with rows that meet the invariant, which is within the limit, leaves such a table;
    pub restored : (start : Work (as_domain p)) → Inv (as_domain p) (as_program p program) start.rows start.last
        → HaveOwnNames (as_domain p) start.rows → (limit : ℕ) → live_count (as_domain p) start.rows ≤ limit
        → (ts now : List (TableRow V)) (arcs new_arcs : Arcs) (log : List (LogEntry (as_domain p)))
        → IsSolvedBy p program limit start (state_of value_of p ts arcs) log → AreMarked value_of p program ts → KeepsReached ts arcs now new_arcs
        → IsRestored value_of p program limit start log now new_arcs
    restored start inv own limit room ts now arcs new_arcs log solved marked c =
        let (rows, result) = has_result value_of p laws program good printed start inv limit ts now arcs new_arcs log solved marked c in
        let least = result_least start inv limit log solved.whole rows result in
        record {
          rows = rows;
          result = result;
          least = least;
          within = least_within start inv own limit room log solved.whole rows least;
          whole = whole_solved value_of p laws program good start inv limit ts now arcs new_arcs log solved marked c rows result;
        }

    -- so does work that began with no rows,
    pub restored_anew : (limit : ℕ) (ts now : List (TableRow V)) (arcs new_arcs : Arcs) (log : List (LogEntry (as_domain p)))
        → IsSolvedBy p program limit (work_over p []) (state_of value_of p ts arcs) log → AreMarked value_of p program ts → KeepsReached ts arcs now new_arcs
        → IsRestored value_of p program limit (work_over p []) log now new_arcs
    restored_anew limit = restored (work_over p []) (empty (as_domain p) (as_program p program) (lawful_at p laws program good)) tt limit zero-le

    -- or with the rows that an edit keeps.
    pub restored_again : (was : ProgramView) → IsWellFormed was → (table : List (Row (as_domain p)))
        → IsLeastTable (as_domain p) (as_program p was) (before p) table → (opened : List PlainRow)
        → IsOpening (as_domain p) (as_program p was) (as_program p program) table (work_over p opened).rows
        → (limit : ℕ) (ts now : List (TableRow V)) (arcs new_arcs : Arcs) (log : List (LogEntry (as_domain p)))
        → IsSolvedBy p program limit (work_over p opened) (state_of value_of p ts arcs) log → AreMarked value_of p program ts
        → KeepsReached ts arcs now new_arcs → IsRestored value_of p program limit (work_over p opened) log now new_arcs
    restored_again was good' table least opened opening limit =
        restored (work_over p opened) (again_inv value_of p laws program good was good' table least opened opening) opening.own limit
        (opened_room (as_domain p) (as_program p was) (as_program p program) (lawful_at p laws program good) table (work_over p opened).rows opening limit)

  -- Theorem: the program is not over where such work ended that began with no rows,
  pub not_over_anew : (limit : ℕ) (log : List (LogEntry (as_domain p))) → IsWholeLog (as_domain p) (as_program p program) limit (work_over p []) log
      → AllFit (as_domain p) (as_program p program) (as_limits p) (work_over p []) log → IsOver p program → ⊥
  not_over_anew limit log whole fits =
      log_not_over (as_domain p) (as_program p program) (lawful_at p laws program good) (as_limits p) (limits_at p laws program good) limit (work_over p [])
      (empty (as_domain p) (as_program p program) (lawful_at p laws program good))
      (nothing_fits (as_domain p) (as_program p program) (limits_at p laws program good)) log whole.legal fits whole.end

  -- or with the rows that an edit of a program that was not over keeps.
  pub not_over_again : (was : ProgramView) → IsWellFormed was → (table : List (Row (as_domain p)))
      → IsLeastTable (as_domain p) (as_program p was) (before p) table → (opened : List PlainRow)
      → IsOpening (as_domain p) (as_program p was) (as_program p program) table (work_over p opened).rows → (IsOver p was → ⊥)
      → (limit : ℕ) (log : List (LogEntry (as_domain p))) → IsWholeLog (as_domain p) (as_program p program) limit (work_over p opened) log
      → AllFit (as_domain p) (as_program p program) (as_limits p) (work_over p opened) log → IsOver p program → ⊥
  not_over_again was good' table least opened opening fine limit log whole fits =
      log_not_over (as_domain p) (as_program p program) (lawful_at p laws program good) (as_limits p) (limits_at p laws program good) limit (work_over p opened)
      (opened_inv (as_domain p) (as_program p was) (as_program p program) (lawful_at p laws was good') (lawful_at p laws program good) (before p) (strict p)
      table least.0 least.1 (work_over p opened).rows opening)
      (opened_fit (as_domain p) (as_program p was) (as_program p program) (lawful_at p laws was good') (lawful_at p laws program good) (as_limits p)
      (limits_at p laws was good') (before p) (strict p) table least.0 least.1 fine (work_over p opened).rows opening) log whole.legal fits whole.end
