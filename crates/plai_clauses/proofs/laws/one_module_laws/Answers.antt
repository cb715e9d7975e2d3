use Rattle.std.proofs.Common.{true, ◌≡◌, subst}
use Rattle.plai_terms.specs.declared.pred_key.PredKey.{PredKey}
use Rattle.plai_clauses.specs.Program.{same_pred}
use Rattle.plai_clauses.proofs.OneModule.{same_pred-true, same_pred-refl, clauses_of-one_module, entries_of-one_module, one_module_well_formed}
use Rattle.plai_clauses.proofs.laws.one_module_laws.Goals as goal

pub returns : goal.returns
returns c = record {
  same = λ a b. (same_pred-true a b, λ e. subst (λ (x : PredKey). same_pred a x ≡ true) e (same_pred-refl a));
  clauses = clauses_of-one_module;
  entries = entries_of-one_module;
  well_formed = one_module_well_formed;
}
