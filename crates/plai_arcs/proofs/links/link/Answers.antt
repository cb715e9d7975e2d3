use Rattle.std.proofs.Common.{◌+◌, ◌≤◌, cond, ap, subst}
use Rattle.plai_arcs.specs.Links.{call_room}
use Rattle.plai_arcs.proofs.CountLemmas.{pair_itself}
use Rattle.plai_arcs.proofs.links.link.Goals as goal

pub returns-clause-call_room : goal.returns-clause-call_room
returns-clause-call_room c =
    subst (λ n. call_room c.args.calls.now c.args.row c.args.clause ≤ call_room c.change.new.rows c.args.row c.args.clause + n)
    (ap (λ b. cond b 1 0) (pair_itself c.args.row c.args.clause)) (c.change.ensures.room c.args.row c.args.clause)
