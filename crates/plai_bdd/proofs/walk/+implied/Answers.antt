use Rattle.std.proofs.Common.{refl, sym, subst, ◌∙◌, true≢false, ◌≤◌, List, arith}
use Rattle.plai_bdd.specs.declared.change.Connective.TheVariants.{And}
use Rattle.plai_bdd.specs.declared.change.Change.TheVariants.{Keep}
use Rattle.plai_bdd.specs.declared.walk.Line.{Line}
use Rattle.plai_bdd.specs.Nodes.{tree_at}
use Rattle.plai_bdd.specs.Table.{slot_of}
use Rattle.plai_bdd.specs.Walk.{AreShown}
use Rattle.plai_bdd.proofs.Splits.{leaf_is}
use Rattle.plai_bdd.proofs.Steps.{left_split, right_split}
use Rattle.plai_bdd.proofs.Walks.{implies_low, implies_high, implies_both, implies_leaf}
use Rattle.plai_bdd.proofs.Shown.{shown_more}
use Rattle.plai_bdd.proofs.walk.+implied.Goals as goal

pub returns-else-not-leaf_answer-clause-implies : goal.returns-else-not-leaf_answer-clause-implies
returns-else-not-leaf_answer-clause-implies t c =
    let one : 64 ≤ slot_of c.node_at-a.result = omega arith in
    let two : 64 ≤ slot_of c.node_at-b.result = omega arith in
    implies_leaf (tree_at c.args.left.now c.args.pair.left) (tree_at c.args.right.now c.args.pair.right) c.leaf_answer.result
    c.leaf_answer-else-not-leaf_answer.result c.if-not-leaf_answer.false
    (λ at. leaf_is Keep c.args.left.now c.args.pair.left c.node_at-a.result c.requires.left_is (sym c.node_at-a.ensures) one at ∙ sym c.leaf_answer.ensures)
    (λ at. leaf_is Keep c.args.right.now c.args.pair.right c.node_at-b.result c.requires.right_is (sym c.node_at-b.ensures) two at
    ∙ sym c.leaf_answer-else-not-leaf_answer.ensures)

pub returns-then-not-implied-clause-implies : goal.returns-then-not-implied-clause-implies
returns-then-not-implied-clause-implies t c = (
  λ f. absurd (true≢false (sym f)),
  λ all. sym c.if-not-implied.true
      ∙ c.implied.ensures.implies.1 (implies_low c.args.left.now c.args.right.now c.args.pair.left c.args.pair.right c.first_slot-slot.result
      c.children-left_low.result c.children-right_low.result
      (left_split And Keep c.args.left.now c.args.right.now c.args.pair.left c.args.pair.right c.node_at-a.result c.node_at-b.result c.requires.left_is
      c.requires.right_is (sym c.node_at-a.ensures) (sym c.node_at-b.ensures) c.first_slot-slot.result c.first_slot-slot.ensures c.if-slot-eq64.false
      c.children-left_low.result c.children-right_low.result c.children-left_low.ensures c.children-right_low.ensures)
      (right_split And Keep c.args.left.now c.args.right.now c.args.pair.left c.args.pair.right c.node_at-a.result c.node_at-b.result c.requires.left_is
      c.requires.right_is (sym c.node_at-a.ensures) (sym c.node_at-b.ensures) c.first_slot-slot.result c.first_slot-slot.ensures c.if-slot-eq64.false
      c.children-left_low.result c.children-right_low.result c.children-left_low.ensures c.children-right_low.ensures) all),
)

pub returns-then-not-implied-2-clause-implies : goal.returns-then-not-implied-2-clause-implies
returns-then-not-implied-2-clause-implies t c = (
  λ f. absurd (true≢false (sym f)),
  λ all. sym c.if-not-implied-2.true
      ∙ c.implied-2.ensures.implies.1 (implies_high c.args.left.now c.args.right.now c.args.pair.left c.args.pair.right c.first_slot-slot.result
      c.children-left_low.result c.children-right_low.result
      (left_split And Keep c.args.left.now c.args.right.now c.args.pair.left c.args.pair.right c.node_at-a.result c.node_at-b.result c.requires.left_is
      c.requires.right_is (sym c.node_at-a.ensures) (sym c.node_at-b.ensures) c.first_slot-slot.result c.first_slot-slot.ensures c.if-slot-eq64.false
      c.children-left_low.result c.children-right_low.result c.children-left_low.ensures c.children-right_low.ensures)
      (right_split And Keep c.args.left.now c.args.right.now c.args.pair.left c.args.pair.right c.node_at-a.result c.node_at-b.result c.requires.left_is
      c.requires.right_is (sym c.node_at-a.ensures) (sym c.node_at-b.ensures) c.first_slot-slot.result c.first_slot-slot.ensures c.if-slot-eq64.false
      c.children-left_low.result c.children-right_low.result c.children-left_low.ensures c.children-right_low.ensures) all),
)

pub returns-clause-implies : goal.returns-clause-implies
returns-clause-implies t c = (
  λ _. implies_both c.args.left.now c.args.right.now c.args.pair.left c.args.pair.right c.first_slot-slot.result c.children-left_low.result
      c.children-right_low.result (left_split And Keep c.args.left.now c.args.right.now c.args.pair.left c.args.pair.right c.node_at-a.result
      c.node_at-b.result c.requires.left_is c.requires.right_is (sym c.node_at-a.ensures) (sym c.node_at-b.ensures) c.first_slot-slot.result
      c.first_slot-slot.ensures c.if-slot-eq64.false c.children-left_low.result c.children-right_low.result c.children-left_low.ensures
      c.children-right_low.ensures) (right_split And Keep c.args.left.now c.args.right.now c.args.pair.left c.args.pair.right c.node_at-a.result
      c.node_at-b.result c.requires.left_is c.requires.right_is (sym c.node_at-a.ensures) (sym c.node_at-b.ensures) c.first_slot-slot.result
      c.first_slot-slot.ensures c.if-slot-eq64.false c.children-left_low.result c.children-right_low.result c.children-left_low.ensures
      c.children-right_low.ensures) (c.implied.ensures.implies.0 c.if-not-implied.false) (c.implied-2.ensures.implies.0 c.if-not-implied-2.false),
  λ _. refl,
)

pub returns-clause-lines : goal.returns-clause-lines
returns-clause-lines t c =
    subst (λ (l : List Line). AreShown c.args.left.now c.args.right.now l) (sym c.show.ensures)
    (shown_more c.args.left.now c.args.right.now c.implied-2.new.lines c.line_of-place.result c.args.pair
    (omega (arith, c.line_of-place.ensures, c.implied.auto.lines, c.implied-2.auto.lines)) c.implied-2.ensures.lines
    (implies_both c.args.left.now c.args.right.now c.args.pair.left c.args.pair.right c.first_slot-slot.result c.children-left_low.result
    c.children-right_low.result (left_split And Keep c.args.left.now c.args.right.now c.args.pair.left c.args.pair.right c.node_at-a.result
    c.node_at-b.result c.requires.left_is c.requires.right_is (sym c.node_at-a.ensures) (sym c.node_at-b.ensures) c.first_slot-slot.result
    c.first_slot-slot.ensures c.if-slot-eq64.false c.children-left_low.result c.children-right_low.result c.children-left_low.ensures
    c.children-right_low.ensures) (right_split And Keep c.args.left.now c.args.right.now c.args.pair.left c.args.pair.right c.node_at-a.result
    c.node_at-b.result c.requires.left_is c.requires.right_is (sym c.node_at-a.ensures) (sym c.node_at-b.ensures) c.first_slot-slot.result
    c.first_slot-slot.ensures c.if-slot-eq64.false c.children-left_low.result c.children-right_low.result c.children-left_low.ensures
    c.children-right_low.ensures) (c.implied.ensures.implies.0 c.if-not-implied.false) (c.implied-2.ensures.implies.0 c.if-not-implied-2.false)))
