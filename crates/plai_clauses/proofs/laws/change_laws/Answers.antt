use Rattle.plai_clauses.proofs.Kept.{keeps_with_module, keeps_with_clause, keeps_without_clause, keeps_without_clauses, keeps_with_entry, keeps_without_entry}
use Rattle.plai_clauses.proofs.Kept.{keeps_with_check, keeps_without_check}
use Rattle.plai_clauses.proofs.laws.change_laws.Goals as goal

pub returns : goal.returns
returns c = record {
  added_module = λ g m good. keeps_with_module g good m;
  added_clause = λ g name clause good h. keeps_with_clause g good name clause h;
  removed_clause = λ g pred number good. keeps_without_clause g good pred number;
  cleared = λ g pred good. keeps_without_clauses g good pred;
  added_entry = λ g e good h. keeps_with_entry g good e h;
  removed_entry = λ g name number good. keeps_without_entry g good name number;
  added_check = λ g c good h. keeps_with_check g good c h;
  removed_check = λ g name number good. keeps_without_check g good name number;
}
