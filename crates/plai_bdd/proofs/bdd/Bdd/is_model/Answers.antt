use Rattle.std.proofs.Common.{arith}
use Rattle.plai_bdd.proofs.Functions.{some_of, kept_source}
use Rattle.plai_bdd.proofs.bdd.Bdd.is_model.Goals as goal

pub overflow_sub-nodes : goal.overflow_sub-nodes
overflow_sub-nodes c = let h = some_of _ _ c.self.invariant c.as_slice-nodes.ensures.value in omega arith

pub answer_at-requires : goal.answer_at-requires
answer_at-requires c = kept_source _ _ _ c.self.invariant c.self.view_is c.as_slice-nodes.ensures.value
