-- Each change of a program keeps what holds of every program.
use Rattle.std.proofs.Common.{◌≡◌, ℕ, ◌-◌, List, [], sym, subst}
use Rattle.std.specs.List.{insert, remove}
use Rattle.plai_terms.specs.declared.pred_key.PredKey.{PredKey}
use Rattle.plai_clauses.specs.declared.clause.Clause.{Clause}
use Rattle.plai_clauses.specs.declared.entry.Entry.{Entry}
use Rattle.plai_clauses.specs.declared.check.Check.{Check}
use Rattle.plai_clauses.specs.declared.definition.Definition.{Definition}
use Rattle.plai_clauses.specs.declared.modules.Module.{Module}
use Rattle.plai_clauses.specs.Program.{ProgramView, empty, pred_of, with_clause, changed_in, place_behind, place_of, homes_of_entries, homes_of_checks}
use Rattle.plai_clauses.specs.Program.{with_module, with_clause_of, without_clause, without_clauses, with_entry, with_check, without_entry, without_check}
use Rattle.plai_clauses.specs.WellFormed.{IsWellFormedClause, IsWellFormedEntry, IsWellFormedCheck, IsWellFormed}
use Rattle.plai_clauses.specs.Invariant.{IsProgram}
use Rattle.plai_clauses.proofs.Kept.{keeps_with_module, keeps_with_clause, keeps_without_clause, keeps_without_clauses, keeps_with_entry, keeps_without_entry}
use Rattle.plai_clauses.proofs.Kept.{keeps_with_check, keeps_without_check}
use Rattle.plai_clauses.proofs.ByModule.{empty_by_module, by_module_with_entry, by_module_with_check, by_module_without_entry, by_module_without_check}

empty_well_formed : IsWellFormed empty
empty_well_formed = record {
  names = λ pred clause i. absurd i;
  arities = λ pred clause i. absurd i;
  clauses = λ pred clause i. absurd i;
  entries = λ entry i. absurd i;
  checks = λ check i. absurd i;
}

pub program_empty : IsProgram empty
program_empty = record { well_formed = empty_well_formed; ordered = empty_by_module }

module _ (g : ProgramView) (good : IsProgram g) where
  pub program_with_module : (m : Module) → IsProgram (with_module g m)
  program_with_module m = record {
    well_formed = keeps_with_module g good.well_formed m;
    ordered = record { entries = good.ordered.entries; checks = good.ordered.checks };
  }

  pub program_with_clause : (name : List ℕ) (clause : Clause) → IsWellFormedClause clause → IsProgram (with_clause_of g name clause)
  program_with_clause name clause h = record {
    well_formed = keeps_with_clause g good.well_formed name clause h;
    ordered = record { entries = good.ordered.entries; checks = good.ordered.checks };
  }

  pub program_without_clause : (pred : PredKey) (number : ℕ) → IsProgram (without_clause g pred number)
  program_without_clause pred number = record {
    well_formed = keeps_without_clause g good.well_formed pred number;
    ordered = record { entries = good.ordered.entries; checks = good.ordered.checks };
  }

  pub program_without_clauses : (pred : PredKey) → IsProgram (without_clauses g pred)
  program_without_clauses pred = record {
    well_formed = keeps_without_clauses g good.well_formed pred;
    ordered = record { entries = good.ordered.entries; checks = good.ordered.checks };
  }

  pub program_with_entry : (entry : Entry) → IsWellFormedEntry entry → IsProgram (with_entry g entry)
  program_with_entry entry h = record {
    well_formed = keeps_with_entry g good.well_formed entry h;
    ordered = by_module_with_entry g good.ordered entry;
  }

  pub program_with_check : (check : Check) → IsWellFormedCheck check → IsProgram (with_check g check)
  program_with_check check h = record {
    well_formed = keeps_with_check g good.well_formed check h;
    ordered = by_module_with_check g good.ordered check;
  }

  pub program_without_entry : (name : List ℕ) (number : ℕ) → IsProgram (without_entry g name number)
  program_without_entry name number = record {
    well_formed = keeps_without_entry g good.well_formed name number;
    ordered = by_module_without_entry g good.ordered name number;
  }

  pub program_without_check : (name : List ℕ) (number : ℕ) → IsProgram (without_check g name number)
  program_without_check name number = record {
    well_formed = keeps_without_check g good.well_formed name number;
    ordered = by_module_without_check g good.ordered name number;
  }

-- The same of a program's lists, of which one is another.
module _ (ms : List Module) (ds : List Definition) (es : List Entry) (cs : List Check)
    (good : IsProgram (record { modules = ms; definitions = ds; entries = es; checks = cs })) where
  abbrev g : ProgramView
  g = record { modules = ms; definitions = ds; entries = es; checks = cs }

  pub more_definitions : (new : List Definition) (name : List ℕ) (clause : Clause) → IsWellFormedClause clause
      → new ≡ with_clause ds (pred_of name clause) clause → IsProgram (record { modules = ms; definitions = new; entries = es; checks = cs })
  more_definitions new name clause h e =
      subst (λ (xs : List Definition). IsProgram (record { modules = ms; definitions = xs; entries = es; checks = cs })) (sym e)
      (program_with_clause g good name clause h)

  pub shorter_definitions : (new : List Definition) (pred : PredKey) (number : ℕ) → new ≡ changed_in (λ clauses. remove clauses (number - 1)) ds pred
      → IsProgram (record { modules = ms; definitions = new; entries = es; checks = cs })
  shorter_definitions new pred number e =
      subst (λ (xs : List Definition). IsProgram (record { modules = ms; definitions = xs; entries = es; checks = cs })) (sym e)
      (program_without_clause g good pred number)

  pub emptied_definitions : (new : List Definition) (pred : PredKey) → new ≡ changed_in (λ _. []) ds pred
      → IsProgram (record { modules = ms; definitions = new; entries = es; checks = cs })
  emptied_definitions new pred e =
      subst (λ (xs : List Definition). IsProgram (record { modules = ms; definitions = xs; entries = es; checks = cs })) (sym e)
      (program_without_clauses g good pred)

  pub more_entries : (new : List Entry) (entry : Entry) → IsWellFormedEntry entry → new ≡ insert es (place_behind entry.module (homes_of_entries es)) entry
      → IsProgram (record { modules = ms; definitions = ds; entries = new; checks = cs })
  more_entries new entry h e =
      subst (λ (xs : List Entry). IsProgram (record { modules = ms; definitions = ds; entries = xs; checks = cs })) (sym e) (program_with_entry g good entry h)

  pub more_checks : (new : List Check) (check : Check) → IsWellFormedCheck check → new ≡ insert cs (place_behind check.module (homes_of_checks cs)) check
      → IsProgram (record { modules = ms; definitions = ds; entries = es; checks = new })
  more_checks new check h e =
      subst (λ (xs : List Check). IsProgram (record { modules = ms; definitions = ds; entries = es; checks = xs })) (sym e) (program_with_check g good check h)

  pub fewer_entries : (new : List Entry) (name : List ℕ) (number : ℕ) → new ≡ remove es (place_of name number (homes_of_entries es))
      → IsProgram (record { modules = ms; definitions = ds; entries = new; checks = cs })
  fewer_entries new name number e =
      subst (λ (xs : List Entry). IsProgram (record { modules = ms; definitions = ds; entries = xs; checks = cs })) (sym e)
      (program_without_entry g good name number)

  pub fewer_checks : (new : List Check) (name : List ℕ) (number : ℕ) → new ≡ remove cs (place_of name number (homes_of_checks cs))
      → IsProgram (record { modules = ms; definitions = ds; entries = es; checks = new })
  fewer_checks new name number e =
      subst (λ (xs : List Check). IsProgram (record { modules = ms; definitions = ds; entries = es; checks = xs })) (sym e)
      (program_without_check g good name number)
