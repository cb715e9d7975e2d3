use Rattle.plai_bdd.proofs.Sets.{branch_added}
use Rattle.plai_bdd.proofs.used.with_branch.Goals as goal

pub returns-then-slot-lt64 : goal.returns-then-slot-lt64
returns-then-slot-lt64 c k lt = branch_added c.args.slots c.insert.result c.slot_of-slot.result c.args.node k c.slot_of-slot.ensures c.insert.ensures
