use Rattle.std.proofs.Common.{ℕ, ◌<◌, false, length, is_ok, vec_len, sym, ap, ◌∙◌, subst, arith}
use Rattle.plai_arcs.specs.declared.dirty_row.DirtyRow.{DirtyRow}
use Rattle.plai_arcs.specs.Flags.{flag_at}
use Rattle.plai_arcs.proofs.PlaceLemmas.{at_pushed, more_pushed, within, at_unchanged, at_same_place, at_index, through, up_to, on_ok}
use Rattle.plai_arcs.proofs.dirty.make_place.Goals as goal

pub grow-preserved : goal.grow-preserved
grow-preserved c = record {
  same = λ r k. at_pushed (λ (d : DirtyRow). flag_at d.flags.items k) false (is_ok c.push.result) c.grow.rows.items c.push.new.self.items c.new.result
      (c.new.ensures k) c.push.ensures.items r
      ∙ c.grow.invariant.same r k;
  more = λ r. through _ _ _ (c.grow.invariant.more r)
      (more_pushed (λ (d : DirtyRow). vec_len d.flags) (is_ok c.push.result) c.grow.rows.items c.push.new.self.items c.new.result c.push.ensures.items r);
}

pub returns-in_err-push-clause-succeeds : goal.returns-in_err-push-clause-succeeds
returns-in_err-push-clause-succeeds c h =
    let inside : c.args.row < length c.grow.rows.items =
    within (λ (d : DirtyRow). vec_len d.flags) c.grow.rows.items c.args.row c.args.clause (up_to _ _ _ h (c.grow.invariant.more c.args.row)) in
    absurd (omega arith)

pub returns-clause-same : goal.returns-clause-same
returns-clause-same c r k =
    let inside : c.args.row < length c.grow.rows.items = omega arith in
    at_unchanged (λ (d : DirtyRow). flag_at d.flags.items k) false c.grow.rows.items c.args.row c.make_room.new.self c.index_mut.result.now inside
    (c.make_room.ensures.same k ∙ ap (λ (d : DirtyRow). flag_at d.flags.items k) c.index_mut.ensures.value) r
    ∙ c.grow.invariant.same r k

pub returns-clause-ok : goal.returns-clause-ok
returns-clause-ok c =
    let inside : c.args.row < length c.grow.rows.items = omega arith in
    on_ok c.make_room.result (subst (λ (n : ℕ). c.args.clause < n)
    (sym (at_same_place (λ (d : DirtyRow). vec_len d.flags) 0 c.grow.rows.items c.args.row c.make_room.new.self inside))) c.make_room.ensures.ok

pub returns-clause-succeeds : goal.returns-clause-succeeds
returns-clause-succeeds c h =
    let inside : c.args.row < length c.grow.rows.items = omega arith in
    c.make_room.ensures.succeeds (subst (λ (n : ℕ). c.args.clause < n)
    (at_index (λ (d : DirtyRow). vec_len d.flags) 0 c.grow.rows.items c.args.row c.index_mut.result.now inside
    ∙ ap (λ (d : DirtyRow). vec_len d.flags) (sym c.index_mut.ensures.value))
    (up_to _ _ _ h (c.grow.invariant.more c.args.row)))
