-- An edit that leaves the entries, and the clauses of each row's predicate, leaves table and arcs whole.
use Rattle.std.proofs.Common.{◌≡◌, List, map, refl, ap, subst}
use Rattle.plai_theory.specs.Words.{IsIn}
use Rattle.plai_theory.specs.Domain.{Name}
use Rattle.plai_theory.specs.LeastTable.{Row}
use Rattle.plai_theory.specs.Edits.{IsQuiet}
use Rattle.plai_terms.specs.declared.abs.Abs.{Abs}
use Rattle.plai_terms.specs.declared.pred_key.PredKey.{PredKey}
use Rattle.plai_domain.specs.Plain.{PlainDomain}
use Rattle.plai_domain.specs.Laws.{IsLawful}
use Rattle.plai_clauses.specs.declared.entry.Entry.{Entry}
use Rattle.plai_clauses.specs.Program.{ProgramView, clauses_of}
use Rattle.plai_clauses.specs.WellFormed.{IsWellFormed}
use Rattle.plai_table.specs.Rows.{TableRow}
use Rattle.plai_arcs.specs.declared.arcs.Arcs.{Arcs}
use Rattle.plai_eval.specs.Meaning.{as_domain, as_program, as_limits}
use Rattle.plai_eval.specs.Stops.{IsOver}
use Rattle.plai_eval.specs.LeastTable as order
use Rattle.plai_eval.proofs.One.{strict}
use Rattle.plai_eval.proofs.Lawful.{lawful_at, limits_at}
use Rattle.plai_fix_rows.specs.Tables.{state_of}
use Rattle.plai_fix_laws.proofs.Lists.{item_slice}
use Rattle.plai_repair.specs.Opened.{IsWholeTable}
use Rattle.plai_repair.specs.Unchanged.{AreUnchanged}
use Rattle.plai_repair.proofs.Results.{named_row}
use Rattle.plai_repair.proofs.QuietEdits.{quiet_whole, quiet_not_over}

module _ {V : Type 0} (value_of : V → Abs) (p : PlainDomain) (before after : ProgramView) (rows : List (Row (as_domain p)))
    (table : List (TableRow V)) (arcs : Arcs) (whole : IsWholeTable value_of p before rows table arcs) (unchanged : AreUnchanged before after table) where
  -- the clauses of a row of the least table
  row_clauses : (r : Row (as_domain p)) → IsIn r rows → clauses_of after r.name.pred ≡ clauses_of before r.name.pred
  row_clauses r i =
      let (n, named) = whole.whole r.name (r, i, refl) in
      let (t, e, same) = named_row value_of p table n r.name named in
      subst (λ (x : Name PredKey Abs). clauses_of after x.pred ≡ clauses_of before x.pred) same (unchanged.clauses n t (item_slice table n t e))

  -- Theorem: the edit is quiet,
  pub unchanged_quiet : IsQuiet (as_domain p) (as_program p before) (as_program p after) rows
  unchanged_quiet = record {
    entries = ap (map (λ (entry : Entry). record { pred = entry.pred; call = p.describe entry.pred.arity entry.pre })) unchanged.entries;
    clauses = row_clauses;
  }

  module _ (laws : IsLawful p) (good : IsWellFormed before) (good' : IsWellFormed after) where
    -- table and arcs stay whole, with the same rows,
    pub still_whole : IsWholeTable value_of p after rows table arcs
    still_whole =
        quiet_whole (as_domain p) (as_program p before) (as_program p after) (lawful_at p laws before good) (lawful_at p laws after good') (order.before p)
        (strict p) rows whole.least unchanged_quiet (state_of value_of p table arcs) whole

    -- and a program that was not over is not over.
    pub still_not_over : (IsOver p before → ⊥) → IsOver p after → ⊥
    still_not_over =
        quiet_not_over (as_domain p) (as_program p before) (as_program p after) (lawful_at p laws before good) (lawful_at p laws after good') (order.before p)
        (strict p) rows whole.least unchanged_quiet (as_limits p) (limits_at p laws before good) (limits_at p laws after good')
