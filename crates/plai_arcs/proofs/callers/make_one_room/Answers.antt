use Rattle.std.proofs.Common.{ℕ, ◌<◌, ◌≤◌, [], length, is_ok, sym, ap, ◌∙◌, subst, arith}
use Rattle.plai_arcs.specs.declared.callers.Callers.{Callers}
use Rattle.plai_arcs.specs.Links.{callers_room}
use Rattle.plai_arcs.proofs.PlaceLemmas.{at_pushed, more_pushed, more_written, within, at_unchanged, at_same_place, at_index, through, up_to, on_ok}
use Rattle.plai_arcs.proofs.callers.make_one_room.Goals as goal

pub grow-preserved : goal.grow-preserved
grow-preserved c = record {
  same = λ k. at_pushed (λ (v : Callers). v.pairs.items) [] (is_ok c.push.result) c.grow.callers.items c.push.new.self.items c.new.result c.new.ensures
      c.push.ensures.items k
      ∙ c.grow.invariant.same k;
  more = λ k. through _ _ _ (c.grow.invariant.more k)
      (more_pushed callers_room (is_ok c.push.result) c.grow.callers.items c.push.new.self.items c.new.result c.push.ensures.items k);
}

pub returns-in_err-push-clause-succeeds : goal.returns-in_err-push-clause-succeeds
returns-in_err-push-clause-succeeds c h =
    let inside : c.args.row < length c.grow.callers.items =
    within callers_room c.grow.callers.items c.args.row 0 (up_to _ _ _ h (c.grow.invariant.more c.args.row)) in
    absurd (omega arith)

pub returns-clause-same : goal.returns-clause-same
returns-clause-same c k =
    let inside : c.args.row < length c.grow.callers.items = omega arith in
    at_unchanged (λ (v : Callers). v.pairs.items) [] c.grow.callers.items c.args.row c.make_room.new.self c.index_mut.result.now inside
    (c.make_room.ensures.same ∙ ap (λ (v : Callers). v.pairs.items) c.index_mut.ensures.value) k
    ∙ c.grow.invariant.same k

pub returns-clause-more : goal.returns-clause-more
returns-clause-more c k =
    let inside : c.args.row < length c.grow.callers.items = omega arith in
    through _ _ _ (c.grow.invariant.more k)
    (more_written callers_room c.grow.callers.items c.args.row c.make_room.new.self c.index_mut.result.now inside
    (subst (λ (v : Callers). callers_room v ≤ callers_room c.make_room.new.self) c.index_mut.ensures.value c.make_room.ensures.more) k)

pub returns-clause-ok : goal.returns-clause-ok
returns-clause-ok c =
    let inside : c.args.row < length c.grow.callers.items = omega arith in
    on_ok c.make_room.result (λ room. subst (λ (n : ℕ). 0 < n)
    (sym (at_same_place callers_room 0 c.grow.callers.items c.args.row c.make_room.new.self inside)) room) c.make_room.ensures.ok

pub returns-clause-succeeds : goal.returns-clause-succeeds
returns-clause-succeeds c h =
    let inside : c.args.row < length c.grow.callers.items = omega arith in
    c.make_room.ensures.succeeds (subst (λ (n : ℕ). 0 < n)
    (at_index callers_room 0 c.grow.callers.items c.args.row c.index_mut.result.now inside ∙ ap callers_room (sym c.index_mut.ensures.value))
    (up_to _ _ _ h (c.grow.invariant.more c.args.row)))
