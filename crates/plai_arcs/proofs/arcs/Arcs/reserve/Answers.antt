use Rattle.std.proofs.Common.{refl}
use Rattle.plai_arcs.proofs.ArcLemmas.{linked_same}
use Rattle.plai_arcs.proofs.arcs.Arcs.reserve.Goals as goal

pub invariant_of-self-in-Break-branch-2 : goal.invariant_of-self-in-Break-branch-2
invariant_of-self-in-Break-branch-2 c = record {
  linked =
      linked_same c.args.self.now.calls.items c.make_room.new.rows.items c.args.self.now.callers.items c.args.self.now.callers.items c.make_room.ensures.same
      (λ q. refl) c.args.self.now.linked;
}

pub invariant_of-self-2 : goal.invariant_of-self-2
invariant_of-self-2 c = record {
  linked =
      linked_same c.args.self.now.calls.items c.make_room.new.rows.items c.args.self.now.callers.items c.make_room-2.new.callers.items c.make_room.ensures.same
      c.make_room-2.ensures.same c.args.self.now.linked;
}
