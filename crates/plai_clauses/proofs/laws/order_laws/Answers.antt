use Rattle.plai_clauses.proofs.ByModule.{empty_by_module, by_module_with_entry, by_module_with_check, by_module_without_entry, by_module_without_check}
use Rattle.plai_clauses.proofs.laws.order_laws.Goals as goal

pub returns : goal.returns
returns c = record {
  empty = empty_by_module;
  added_module = λ g m good. record { entries = good.entries; checks = good.checks };
  added_clause = λ g name clause good. record { entries = good.entries; checks = good.checks };
  removed_clause = λ g pred number good. record { entries = good.entries; checks = good.checks };
  cleared = λ g pred good. record { entries = good.entries; checks = good.checks };
  added_entry = λ g e good. by_module_with_entry g good e;
  removed_entry = λ g name number good. by_module_without_entry g good name number;
  added_check = λ g c good. by_module_with_check g good c;
  removed_check = λ g name number good. by_module_without_check g good name number;
}
