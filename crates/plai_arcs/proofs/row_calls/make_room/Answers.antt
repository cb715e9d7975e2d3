use Rattle.std.proofs.Common.{ℕ, ◌<◌, List, [], length, is_ok, sym, ap, ◌∙◌, subst, arith}
use Rattle.plai_arcs.specs.declared.row_calls.Called.{Called}
use Rattle.plai_arcs.specs.declared.row_calls.RowCalls.{RowCalls}
use Rattle.plai_arcs.specs.Links.{calls_in, clause_room}
use Rattle.plai_arcs.proofs.PlaceLemmas.{at_pushed, more_pushed, within, at_unchanged, at_same_place, at_index, through, up_to, on_ok}
use Rattle.plai_arcs.proofs.row_calls.make_room.Goals as goal

pub grow-preserved : goal.grow-preserved
grow-preserved c = record {
  same = λ r k. at_pushed (λ (q : RowCalls). calls_in q.clauses.items k) [] (is_ok c.push.result) c.grow.rows.items c.push.new.self.items c.no_calls.result
      (ap (λ (ls : List Called). calls_in ls k) c.no_calls.ensures) c.push.ensures.items r
      ∙ c.grow.invariant.same r k;
  more = λ r k. through _ _ _ (c.grow.invariant.more r k)
      (more_pushed (λ (q : RowCalls). clause_room q.clauses.items k) (is_ok c.push.result) c.grow.rows.items c.push.new.self.items c.no_calls.result
      c.push.ensures.items r);
}

pub returns-in_err-push-clause-succeeds : goal.returns-in_err-push-clause-succeeds
returns-in_err-push-clause-succeeds c h =
    let inside : c.args.row < length c.grow.rows.items =
    within (λ (q : RowCalls). clause_room q.clauses.items c.args.clause) c.grow.rows.items c.args.row c.args.count
    (up_to _ _ _ h (c.grow.invariant.more c.args.row c.args.clause)) in
    absurd (omega arith)

pub returns-clause-same : goal.returns-clause-same
returns-clause-same c r k =
    let inside : c.args.row < length c.grow.rows.items = omega arith in
    at_unchanged (λ (q : RowCalls). calls_in q.clauses.items k) [] c.grow.rows.items c.args.row _ c.index_mut.result.now inside
    (c.make_clause_room.ensures.same k ∙ ap (λ (q : RowCalls). calls_in q.clauses.items k) c.index_mut.ensures.value) r
    ∙ c.grow.invariant.same r k

pub returns-clause-ok : goal.returns-clause-ok
returns-clause-ok c =
    let inside : c.args.row < length c.grow.rows.items = omega arith in
    on_ok c.make_clause_room.result (λ room. subst (λ (n : ℕ). c.args.count < n)
    (sym (at_same_place (λ (q : RowCalls). clause_room q.clauses.items c.args.clause) 0 c.grow.rows.items c.args.row _ inside)) room)
    c.make_clause_room.ensures.ok

pub returns-clause-succeeds : goal.returns-clause-succeeds
returns-clause-succeeds c h =
    let inside : c.args.row < length c.grow.rows.items = omega arith in
    c.make_clause_room.ensures.succeeds (subst (λ (n : ℕ). c.args.count < n)
    (at_index (λ (q : RowCalls). clause_room q.clauses.items c.args.clause) 0 c.grow.rows.items c.args.row c.index_mut.result.now inside
    ∙ ap (λ (q : RowCalls). clause_room q.clauses.items c.args.clause) (sym c.index_mut.ensures.value))
    (up_to _ _ _ h (c.grow.invariant.more c.args.row c.args.clause)))
