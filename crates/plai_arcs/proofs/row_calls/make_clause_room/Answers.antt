use Rattle.std.proofs.Common.{ℕ, ◌<◌, [], length, is_ok, sym, ap, ◌∙◌, subst, arith}
use Rattle.plai_arcs.specs.declared.row_calls.Called.{Called}
use Rattle.plai_arcs.specs.Links.{called_room}
use Rattle.plai_arcs.proofs.PlaceLemmas.{at_pushed, more_pushed, within, at_unchanged, at_same_place, at_index, through, up_to, on_ok}
use Rattle.plai_arcs.proofs.row_calls.make_clause_room.Goals as goal

pub grow-preserved : goal.grow-preserved
grow-preserved c = record {
  same = λ k. at_pushed (λ (v : Called). v.rows.items) [] (is_ok c.push.result) c.grow.clauses.items c.push.new.self.items c.new.result c.new.ensures
      c.push.ensures.items k
      ∙ c.grow.invariant.same k;
  more = λ k. through _ _ _ (c.grow.invariant.more k)
      (more_pushed called_room (is_ok c.push.result) c.grow.clauses.items c.push.new.self.items c.new.result c.push.ensures.items k);
}

pub returns-in_err-push-clause-succeeds : goal.returns-in_err-push-clause-succeeds
returns-in_err-push-clause-succeeds c h =
    let inside : c.args.clause < length c.grow.clauses.items =
    within called_room c.grow.clauses.items c.args.clause c.args.count (up_to _ _ _ h (c.grow.invariant.more c.args.clause)) in
    absurd (omega arith)

pub returns-clause-same : goal.returns-clause-same
returns-clause-same c k =
    let inside : c.args.clause < length c.grow.clauses.items = omega arith in
    at_unchanged (λ (v : Called). v.rows.items) [] c.grow.clauses.items c.args.clause c.make_room.new.self c.index_mut.result.now inside
    (c.make_room.ensures.same ∙ ap (λ (v : Called). v.rows.items) c.index_mut.ensures.value) k
    ∙ c.grow.invariant.same k

pub returns-clause-ok : goal.returns-clause-ok
returns-clause-ok c =
    let inside : c.args.clause < length c.grow.clauses.items = omega arith in
    on_ok c.make_room.result (λ room. subst (λ (n : ℕ). c.args.count < n)
    (sym (at_same_place called_room 0 c.grow.clauses.items c.args.clause c.make_room.new.self inside)) room) c.make_room.ensures.ok

pub returns-clause-succeeds : goal.returns-clause-succeeds
returns-clause-succeeds c h =
    let inside : c.args.clause < length c.grow.clauses.items = omega arith in
    c.make_room.ensures.succeeds (subst (λ (n : ℕ). c.args.count < n)
    (at_index called_room 0 c.grow.clauses.items c.args.clause c.index_mut.result.now inside ∙ ap called_room (sym c.index_mut.ensures.value))
    (up_to _ _ _ h (c.grow.invariant.more c.args.clause)))
