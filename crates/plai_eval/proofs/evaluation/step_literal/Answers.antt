use Rattle.std.proofs.Common.{◌∙◌}
use Rattle.plai_eval.proofs.Closed.{actions_fit}
use Rattle.plai_eval.proofs.evaluation.step_literal.Goals as goal

pub act_all-requires-clause-within : goal.act_all-requires-clause-within
act_all-requires-clause-within g c = actions_fit _ _ _ (c.as_slice.ensures ∙ c.actions_of-actions.ensures.actions)
