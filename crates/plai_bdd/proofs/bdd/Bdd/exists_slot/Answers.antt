use Rattle.plai_bdd.proofs.Branches.{unused_is, without_slot}
use Rattle.plai_bdd.proofs.bdd.Bdd.exists_slot.Goals as goal
use Rattle.plai_bdd.proofs.bdd.Bdd.exists_slot.Goals.{else-contains-via-then-contains+else-branches_on, else-contains-via-else-contains}

pub returns-else-contains : goal.returns-else-contains
returns-else-contains c =
    elim c.else-contains.branch [
      | else-contains-via-then-contains+else-branches_on w ↦ unused_is c.args.self c.args.slot c.args.slots c.requires.canonical
          (w.branches_on.ensures w.if-branches_on.false)
      | else-contains-via-else-contains w ↦ without_slot c.args.self c.args.slot c.args.slots c.contains.result c.requires.canonical c.contains.ensures
          w.if-contains.false
    ]
