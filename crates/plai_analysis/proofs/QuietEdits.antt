-- A quiet edit leaves the entries, and the clauses of each row of a table that is whole; so the table stays whole.
use Rattle.std.proofs.Common.{◌≡◌, ℕ, List, map, Some, None, ap, sym, ◌∙◌, subst}
use Rattle.plai_theory.specs.Words.{IsIn, given, item}
use Rattle.plai_theory.specs.Domain.{Name}
use Rattle.plai_theory.specs.LeastTable.{Row}
use Rattle.plai_theory.specs.LeastTable as theory
use Rattle.plai_theory.proofs.Same.{least_unique}
use Rattle.plai_terms.specs.declared.abs.Abs.{Abs}
use Rattle.plai_terms.specs.declared.pred_key.PredKey.{PredKey}
use Rattle.plai_domain.specs.Plain.{PlainDomain}
use Rattle.plai_domain.specs.Laws as domain
use Rattle.plai_clauses.specs.Program.{ProgramView, clauses_of}
use Rattle.plai_clauses.specs.WellFormed.{IsWellFormed}
use Rattle.plai_table.specs.Rows.{TableRow}
use Rattle.plai_arcs.specs.declared.arcs.Arcs.{Arcs}
use Rattle.plai_eval.specs.Meaning.{as_domain, as_program}
use Rattle.plai_eval.specs.LeastTable as order
use Rattle.plai_eval.specs.Stops.{IsOver}
use Rattle.plai_eval.proofs.One.{strict}
use Rattle.plai_fix_rows.specs.Tables.{kept_row}
use Rattle.plai_fix_laws.proofs.Lists.{slice_item}
use Rattle.plai_fix_laws.proofs.Places.{item_map}
use Rattle.plai_repair.specs.Opened.{IsWholeTable}
use Rattle.plai_repair.specs.Unchanged.{AreUnchanged}
use Rattle.plai_repair.proofs.StillWhole.{unchanged_quiet, still_whole, still_not_over}
use Rattle.plai_assert.specs.Verdicts.{verdicts_of}
use Rattle.plai_render.specs.declared.text_table.TextTable.{TextTable}
use Rattle.plai_analysis.specs.Quiet.{IsQuiet}
use Rattle.plai_analysis.specs.Kept.{IsKeptTable}
use Rattle.plai_analysis.specs.Table.{IsTextTable}

module _ {V : Type 0} (value_of : V → Abs) (p : PlainDomain) (was program : ProgramView) where
  module _ (rows : List (Row (as_domain p))) (table : List (TableRow V)) (arcs : Arcs) (whole : IsWholeTable value_of p was rows table arcs) where
    -- Theorem: an edit that leaves the entries, and the clauses of each row of a whole table, is quiet,
    pub quiet : AreUnchanged was program table → IsQuiet p was program
    quiet unchanged =
        record {
          table = rows;
          least = whole.least;
          entries = unchanged.entries;
          clauses = (unchanged_quiet value_of p was program rows table arcs whole unchanged).clauses;
        }

    -- Theorem: and a quiet edit leaves them.
    pub unchanged : IsQuiet p was program → AreUnchanged was program table
    unchanged quiet =
        record {
          entries = quiet.entries;
          clauses = λ n t e.
              let there : item (map (kept_row value_of p) table) n ≡ Some (kept_row value_of p t) =
              item_map (kept_row value_of p) table n ∙ ap (given None (λ x. Some (kept_row value_of p x))) (slice_item table n t e) in
              let (r, i, same) = (whole.sound n (kept_row value_of p t) there).0 in
              subst (λ (x : Name PredKey Abs). clauses_of program x.pred ≡ clauses_of was x.pred) same
              (quiet.clauses r (subst (λ (rs : List (Row (as_domain p))). IsIn r rs) one i));
        }
      where
        one : rows ≡ quiet.table
        one = least_unique (as_domain p) (as_program p was) (order.before p) (strict p) rows quiet.table whole.least quiet.least

  module _ (laws : domain.IsLawful p) (good : IsWellFormed was) (good' : IsWellFormed program) (table : List (TableRow V)) (arcs : Arcs) where
    -- Theorem: behind such an edit table and arcs keep the least table still,
    pub still_kept : (limit : ℕ) → IsKeptTable value_of p was limit table arcs → AreUnchanged was program table
        → IsKeptTable value_of p program limit table arcs
    still_kept limit kept unchanged =
        record {
          rows = kept.rows;
          whole = still_whole value_of p was program kept.rows table arcs kept.whole unchanged laws good good';
          within = kept.within;
        }

    -- Theorem: and a program that was not over is not over.
    pub still_fine : (rows : List (Row (as_domain p))) → IsWholeTable value_of p was rows table arcs → AreUnchanged was program table → (IsOver p was → ⊥)
        → IsOver p program → ⊥
    still_fine rows whole unchanged fine =
        still_not_over value_of p was program rows table arcs whole unchanged laws good good' fine

    -- Theorem: and the texts of its rows are still those of the least table, with the verdicts on the same assertions.
    pub still_told : (limit : ℕ) (texts : TextTable) → IsTextTable p was limit texts → IsKeptTable value_of p was limit table arcs
        → AreUnchanged was program table → program.checks ≡ was.checks → IsTextTable p program limit texts
    still_told limit texts own kept unchanged same =
        record {
          rows = own.rows;
          least = subst (λ (rows : List (Row (as_domain p))). theory.IsLeastTable (as_domain p) (as_program p program) (order.before p) rows) (sym one)
              (still_whole value_of p was program kept.rows table arcs kept.whole unchanged laws good good').least;
          narrow = own.narrow;
          within = own.within;
          are_texts = own.are_texts;
          are_verdicts = own.are_verdicts ∙ ap (verdicts_of p own.rows) (sym same);
        }
      where
        one : map (order.row_of p) own.rows ≡ kept.rows
        one = least_unique (as_domain p) (as_program p was) (order.before p) (strict p) (map (order.row_of p) own.rows) kept.rows own.least kept.whole.least
