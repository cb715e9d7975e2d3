use Rattle.std.proofs.Common.{sym, ◌∙◌, arith}
use Rattle.std.proofs.lemmas.Result.{err_from_is_err_and}
use Rattle.plai_sources.specs.Shapes.{variable_of}
use Rattle.plai_sources.proofs.Each.{pushed_each, missing_each}
use Rattle.plai_sources.proofs.properties.variables.Goals as goal

pub returns-in_err-ok_or-clause-numbers : goal.returns-in_err-ok_or-clause-numbers
returns-in_err-ok_or-clause-numbers c =
    missing_each variable_of c.args.args.now c.loop-arg.arg-index c.arg-item.result c.from_residual.result
    c.loop-arg-test.true c.arg-item.is (sym c.variable.ensures ∙ c.in_err-ok_or.ensures.ok_part)
    (err_from_is_err_and c.from_residual.result c.from_residual.ensures.1)

pub loop-arg-preserved : goal.loop-arg-preserved
loop-arg-preserved c = record {
  numbers = pushed_each variable_of c.args.args.now c.loop-arg.arg-index c.arg-item.result
      c.loop-arg.numbers.items c.push.new.self.items c.in_ok-ok_or.field-0 c.loop-arg-test.true c.arg-item.is
      (sym c.variable.ensures ∙ c.in_ok-ok_or.ensures.ok_part)
      c.loop-arg.invariant.numbers c.in_ok-push.ensures.items;
  few = let n = c.in_ok-push.ensures.len in omega arith;
}
