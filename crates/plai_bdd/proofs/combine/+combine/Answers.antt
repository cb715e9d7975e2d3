use Rattle.std.proofs.Common.{sym, ap, ◌∙◌, arith}
use Rattle.plai_bdd.specs.declared.change.Placed.TheVariants.{Fixed}
use Rattle.plai_bdd.proofs.Adding.{Adds-there}
use Rattle.plai_bdd.proofs.Tables.{put_grown}
use Rattle.plai_bdd.proofs.Steps.{ok_then, leaves, decided, placed_ok, left_split, right_split, high_falls, step_placed, step_true, step_false, step_parted}
use Rattle.plai_bdd.proofs.Steps.{join_grown}
use Rattle.plai_bdd.proofs.Noted.{memo_noted, memo_ok}
use Rattle.plai_bdd.proofs.combine.+combine.Goals as goal

pub combine-returns-then-is_decided-clause-added : goal.combine-returns-then-is_decided-clause-added
combine-returns-then-is_decided-clause-added t c =
    placed_ok _ c.place.result c.place.ensures.place c.place.ensures.table
    (decided c.args.connective c.args.change c.args.left.now c.args.right.now c.args.pair.left c.args.pair.right c.node_at-a.result c.node_at-b.result
    c.requires.left_is c.requires.right_is (sym c.node_at-a.ensures) (sym c.node_at-b.ensures) _ c.joined_leaf.result c.is_decided.result
    c.requires.table_is c.is_decided.ensures c.if-is_decided.true c.joined_leaf.ensures)

pub combine-returns-then-is_decided-clause-noted : goal.combine-returns-then-is_decided-clause-noted
combine-returns-then-is_decided-clause-noted t c =
    memo_ok _ _ _ _ _ _ _ _ c.place.result c.place.ensures.table (put_grown _ c.joined_leaf.result) c.requires.memo_is

pub combine-returns-in-Some-clause-added : goal.combine-returns-in-Some-clause-added
combine-returns-in-Some-clause-added t c = Adds-there c.requires.table_is (c.requires.memo_is.noted c.args.pair c.in-Some.known (sym c.in-Some.ensures))

pub combine-returns-clause-noted : goal.combine-returns-clause-noted
combine-returns-clause-noted t c = memo_noted _ _ _ _ _ _ _ _ _ c.in_ok-place.ensures.noted c.in_ok-note.ensures c.in_ok-place.ensures.added.known

pub combine_new-returns-then-slot-eq64-clause-added : goal.combine_new-returns-then-slot-eq64-clause-added
combine_new-returns-then-slot-eq64-clause-added t c =
    placed_ok _ c.place.result c.place.ensures.place c.place.ensures.table
    (leaves c.args.connective c.args.change c.args.left.now c.args.right.now c.args.pair.left c.args.pair.right c.node_at-a.result c.node_at-b.result
    c.requires.left_is c.requires.right_is (sym c.node_at-a.ensures) (sym c.node_at-b.ensures) _ c.joined_leaf.result c.first_slot-slot.result
    c.requires.table_is c.first_slot-slot.ensures c.if-slot-eq64.true c.joined_leaf.ensures)

pub combine_new-returns-then-slot-eq64-clause-noted : goal.combine_new-returns-then-slot-eq64-clause-noted
combine_new-returns-then-slot-eq64-clause-noted t c =
    memo_ok _ _ _ _ _ _ _ _ c.place.result c.place.ensures.table (put_grown _ c.joined_leaf.result) c.requires.memo_is

pub combine_new-combine-requires-in-At-2 : goal.combine_new-combine-requires-in-At-2
combine_new-combine-requires-in-At-2 t c = (
  omega (
    arith,
    high_falls c.args.connective c.args.change c.args.left.now c.args.right.now c.args.pair.left c.args.pair.right c.node_at-a.result
        c.node_at-b.result c.requires.left_is c.requires.right_is (sym c.node_at-a.ensures) (sym c.node_at-b.ensures) c.first_slot-slot.result
        c.first_slot-slot.ensures c.if-slot-eq64.false c.children-left_low.result c.children-right_low.result c.children-left_low.ensures
        c.children-right_low.ensures,
  ),
  (
    (left_split c.args.connective c.args.change c.args.left.now c.args.right.now c.args.pair.left c.args.pair.right c.node_at-a.result c.node_at-b.result
        c.requires.left_is c.requires.right_is (sym c.node_at-a.ensures) (sym c.node_at-b.ensures) c.first_slot-slot.result c.first_slot-slot.ensures
        c.if-slot-eq64.false c.children-left_low.result c.children-right_low.result c.children-left_low.ensures c.children-right_low.ensures).high_is,
    (
      (right_split c.args.connective c.args.change c.args.left.now c.args.right.now c.args.pair.left c.args.pair.right c.node_at-a.result c.node_at-b.result
          c.requires.left_is c.requires.right_is (sym c.node_at-a.ensures) (sym c.node_at-b.ensures) c.first_slot-slot.result c.first_slot-slot.ensures
          c.if-slot-eq64.false c.children-left_low.result c.children-right_low.result c.children-left_low.ensures c.children-right_low.ensures).high_is,
      (c.in_ok-low_place-in-At.ensures.added.table, c.in_ok-low_place-in-At.ensures.noted),
    ),
  ),
)

pub combine_new-returns-then-answer-clause-added : goal.combine_new-returns-then-answer-clause-added
combine_new-returns-then-answer-clause-added t c =
    ok_then _ _ (λ p done. step_true c.args.connective c.args.change c.args.left.now c.args.right.now c.args.pair.left c.args.pair.right c.node_at-a.result
    c.node_at-b.result c.requires.left_is c.requires.right_is (sym c.node_at-a.ensures) (sym c.node_at-b.ensures) c.first_slot-slot.result
    c.first_slot-slot.ensures c.if-slot-eq64.false c.children-left_low.result c.children-right_low.result c.children-left_low.ensures
    c.children-right_low.ensures p _ _ (sym c.in-Fixed.ensures ∙ ap Fixed c.if-answer.true) done) c.combine.result c.combine.ensures.added

pub combine_new-returns-else-answer-clause-added : goal.combine_new-returns-else-answer-clause-added
combine_new-returns-else-answer-clause-added t c =
    ok_then _ _ (λ p done. step_false c.args.connective c.args.change c.args.left.now c.args.right.now c.args.pair.left c.args.pair.right c.node_at-a.result
    c.node_at-b.result c.requires.left_is c.requires.right_is (sym c.node_at-a.ensures) (sym c.node_at-b.ensures) c.first_slot-slot.result
    c.first_slot-slot.ensures c.if-slot-eq64.false c.children-left_low.result c.children-right_low.result c.children-left_low.ensures
    c.children-right_low.ensures p _ _ (sym c.in-Fixed.ensures ∙ ap Fixed c.if-answer.false) done) c.combine-else-answer.result
    c.combine-else-answer.ensures.added

pub combine_new-returns-in-Parted-clause-added : goal.combine_new-returns-in-Parted-clause-added
combine_new-returns-in-Parted-clause-added t c =
    ok_then _ _ (λ p done. step_parted c.args.connective c.args.change c.args.left.now c.args.right.now c.args.pair.left c.args.pair.right c.node_at-a.result
    c.node_at-b.result c.requires.left_is c.requires.right_is (sym c.node_at-a.ensures) (sym c.node_at-b.ensures) c.first_slot-slot.result
    c.first_slot-slot.ensures c.if-slot-eq64.false c.children-left_low.result c.children-right_low.result c.children-left_low.ensures
    c.children-right_low.ensures p _ _ (sym c.in-Parted.ensures) done) c.combine-in-Parted.result c.combine-in-Parted.ensures.added

pub combine_new-returns-in_ok-high_place-in-At-clause-added : goal.combine_new-returns-in_ok-high_place-in-At-clause-added
combine_new-returns-in_ok-high_place-in-At-clause-added t c =
    placed_ok _ c.join.result c.join.ensures.place c.join.ensures.table
    (step_placed c.args.connective c.args.change c.args.left.now c.args.right.now c.args.pair.left c.args.pair.right c.node_at-a.result c.node_at-b.result
    c.requires.left_is c.requires.right_is (sym c.node_at-a.ensures) (sym c.node_at-b.ensures) c.first_slot-slot.result c.first_slot-slot.ensures
    c.if-slot-eq64.false c.children-left_low.result c.children-right_low.result c.children-left_low.ensures c.children-right_low.ensures c.in-At.moved
    c.in_ok-low_place-in-At.low_place c.in_ok-high_place-in-At.high_place _ _ _ (sym c.in-At.ensures) c.in_ok-low_place-in-At.ensures.added
    c.in_ok-high_place-in-At.ensures.added)

pub combine_new-returns-in_ok-high_place-in-At-clause-noted : goal.combine_new-returns-in_ok-high_place-in-At-clause-noted
combine_new-returns-in_ok-high_place-in-At-clause-noted t c =
    memo_ok _ _ _ _ _ _ _ _ c.join.result c.join.ensures.table (join_grown _ _ _ _) c.in_ok-high_place-in-At.ensures.noted
