use Rattle.std.proofs.Common.{◌≡◌, ◌&&◌, cond, nat_eq, length, refl, sym, ap, ◌∙◌, subst, arith}
use Rattle.std.specs.List.{list_any}
use Rattle.std.proofs.lemmas.List.{with_items_is}
use Rattle.plai_arcs.specs.Links.{AreLinked, calls_at}
use Rattle.plai_arcs.proofs.ArcLemmas.{linked_same, same_calls}
use Rattle.plai_arcs.proofs.arcs.Arcs.set_calls.Goals as goal

pub invariant_of-self : goal.invariant_of-self
invariant_of-self c = record {
  linked = linked_same c.args.self.now.calls.items c.make_room.new.rows.items c.args.self.now.callers.items
      c.args.self.now.callers.items c.make_room.ensures.same (λ q. refl) c.args.self.now.linked;
}

pub invariant_of-self-in-Break-branch-2 : goal.invariant_of-self-in-Break-branch-2
invariant_of-self-in-Break-branch-2 c = record {
  linked =
      linked_same c.args.self.now.calls.items c.make_room.new.rows.items c.args.self.now.callers.items c.make_room-2.new.callers.items c.make_room.ensures.same
      c.make_room-2.ensures.same c.args.self.now.linked;
}

pub set-requires-clause-linked : goal.set-requires-clause-linked
set-requires-clause-linked c =
    subst (λ xs. AreLinked xs c.deref_mut-2.result.now) (sym c.deref_mut.ensures.value)
    (subst (λ ys. AreLinked c.make_room.new.rows.items ys) (sym c.deref_mut-2.ensures.value)
    (linked_same c.args.self.now.calls.items c.make_room.new.rows.items c.args.self.now.callers.items c.make_room-2.new.callers.items
    c.make_room.ensures.same c.make_room-2.ensures.same c.args.self.now.linked))

pub returns-clause-ok : goal.returns-clause-ok
returns-clause-ok c r k q =
    let same_length : length c.set.new.calls ≡ c.make_room.new.rows.len = first_of (cc, omega (arith, c.set.auto.calls, c.deref_mut.ensures.len)) in
    ap (λ xs. list_any (nat_eq q) (calls_at xs r k)) (with_items_is c.make_room.new.rows c.set.new.calls same_length)
    ∙ c.set.ensures.calls r k q
    ∙ ap (λ b. cond (nat_eq r c.args.row && nat_eq k c.args.clause) (list_any (nat_eq q) c.args.calls.now) b)
    (ap (λ xs. list_any (nat_eq q) (calls_at xs r k)) c.deref_mut.ensures.value
    ∙ same_calls c.args.self.now.calls.items c.make_room.new.rows.items c.make_room.ensures.same r k q)
