use Rattle.std.proofs.Common.{ap, ◌∙◌, arith}
use Rattle.plai_terms.specs.Pattern.{skeleton_text}
use Rattle.plai_terms.proofs.Joined.{joins_first, joins_next}
use Rattle.plai_terms.proofs.pattern.+write.Goals as goal
use Rattle.plai_terms.proofs.pattern.+write.Goals.{write_skeletons-then-i-gt0+in_ok-push, write_skeletons-else-i-gt0}

pub write_skeletons-loop-i-preserved : goal.write_skeletons-loop-i-preserved
write_skeletons-loop-i-preserved t c = elim c.if-i-gt0.branch [
  | write_skeletons-then-i-gt0+in_ok-push w ↦
      joins_next skeleton_text 44 c.args.skeletons.now c.loop-i.i c.index-skeletons-i.result c.args.out.now.items c.loop-i.out.items c.if-i-gt0.out.items
      c.write_skeleton.new.out.items
      (omega arith) c.index-skeletons-i.is (omega arith) c.loop-i.invariant (ap (λ o. o.items) w.out-is ∙ w.in_ok-push.ensures.items)
      c.in_ok-write_skeleton.ensures
  | write_skeletons-else-i-gt0 w ↦
      joins_first skeleton_text 44 c.args.skeletons.now c.loop-i.i c.index-skeletons-i.result c.args.out.now.items c.loop-i.out.items c.if-i-gt0.out.items
      c.write_skeleton.new.out.items
      (omega arith) c.index-skeletons-i.is (omega arith) c.loop-i.invariant (ap (λ o. o.items) w.out-is) c.in_ok-write_skeleton.ensures
]
