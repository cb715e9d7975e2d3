use Rattle.std.proofs.Common.{◌++◌, ap, ◌∙◌, arith}
use Rattle.plai_terms.specs.Groups.{group_text}
use Rattle.plai_terms.proofs.Joined.{joins_first, joins_next}
use Rattle.plai_terms.proofs.groups.write_lists.Goals as goal
use Rattle.plai_terms.proofs.groups.write_lists.Goals.{then-i-gt0+in_ok-push, else-i-gt0}

pub loop-i-preserved : goal.loop-i-preserved
loop-i-preserved c = elim c.if-i-gt0.branch [
  | then-i-gt0+in_ok-push w ↦
      joins_next (λ list. group_text list.items) 44 c.args.lists.now c.loop-i.i c.index-lists-i.result c.args.out.now.items c.loop-i.out.items
      c.if-i-gt0.out.items c.write_slots.new.out.items
      (omega arith) c.index-lists-i.is (omega arith) c.loop-i.invariant (ap (λ o. o.items) w.out-is ∙ w.in_ok-push.ensures.items)
      (c.in_ok-write_slots.ensures ∙ ap (λ l. c.if-i-gt0.out.items ++ group_text l) c.deref.ensures.value)
  | else-i-gt0 w ↦
      joins_first (λ list. group_text list.items) 44 c.args.lists.now c.loop-i.i c.index-lists-i.result c.args.out.now.items c.loop-i.out.items
      c.if-i-gt0.out.items c.write_slots.new.out.items
      (omega arith) c.index-lists-i.is (omega arith) c.loop-i.invariant (ap (λ o. o.items) w.out-is)
      (c.in_ok-write_slots.ensures ∙ ap (λ l. c.if-i-gt0.out.items ++ group_text l) c.deref.ensures.value)
]
