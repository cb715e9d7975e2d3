use Rattle.std.proofs.lemmas.Result.{on_ok_weaker}
use Rattle.plai_script.proofs.Touched.{touches_one}
use Rattle.plai_script.proofs.change.del.Goals as goal

pub returns-clause-touched : goal.returns-clause-touched
returns-clause-touched c =
    on_ok_weaker c.delete.result
    (touches_one c.in_ok-pred.pred c.in_ok-copy.field-0 c.args.touched.now.keys c.touch.new.touched.keys c.args.program.now c.delete.new.program
    c.in_ok-copy.ensures c.in_ok-touch.ensures)
    c.delete.ensures.others
