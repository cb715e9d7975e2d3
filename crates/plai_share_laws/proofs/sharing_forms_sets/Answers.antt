use Rattle.std.proofs.Common.{refl}
use Rattle.plai_share_laws.proofs.sharing_forms_sets.Goals as goal

pub returns : goal.returns
returns c = record {
  unify_free = λ x t v e. rw e refl;
  unify_bound = λ x t v e. rw e refl;
  enter = λ a head variables. refl;
  call = λ s args. refl;
  back = λ s args answer. refl;
  refine = λ s args action. refl;
  havoc = λ n slots v. refl;
}
