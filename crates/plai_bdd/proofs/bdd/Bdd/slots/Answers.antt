use Rattle.plai_bdd.proofs.Branches.{unused_seen}
use Rattle.plai_bdd.proofs.bdd.Bdd.slots.Goals as goal

pub returns-clause-free : goal.returns-clause-free
returns-clause-free c slot lt none =
    unused_seen c.args.self.now c.self.inside.nodes.items c.as_slice.result.now slot _ c.self.invariant c.as_slice.ensures.value c.self.view_is
    (c.branch_slots.ensures slot lt) none
