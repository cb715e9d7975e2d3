use Rattle.std.proofs.Common.{◌∙◌, arith}
use Rattle.plai_top.proofs.Reading.{read_next}
use Rattle.plai_top.proofs.input.read_files.Goals as goal

pub loop-name-preserved : goal.loop-name-preserved
loop-name-preserved g c = record {
  read =
      read_next c.args.names.now c.loop-name.name-index c.name-item.result _ _ c.loop-name.files.items _ c.in-Ok.file c.loop-name.invariant.read
      c.loop-name-test.true c.name-item.is
      c.in-Ok.ensures.name c.in-Ok.ensures.text c.loop-name.invariant.same c.in-Ok.ensures.short c.in-Ok-push.ensures.items;
  same = c.read_file.ensures.same ∙ c.loop-name.invariant.same;
  later = omega (arith, c.read_file.ensures.later, c.loop-name.invariant.later);
}
