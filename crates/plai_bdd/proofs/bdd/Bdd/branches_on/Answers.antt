use Rattle.plai_bdd.proofs.Branches.{unused_seen}
use Rattle.plai_bdd.proofs.bdd.Bdd.branches_on.Goals as goal

pub returns : goal.returns
returns c = unused_seen c.args.self.now c.self.inside.nodes.items c.as_slice.result.now c.args.slot c.has_branch.result c.self.invariant
    c.as_slice.ensures.value c.self.view_is c.has_branch.ensures
