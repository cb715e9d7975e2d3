use Rattle.plai_script.proofs.Touched.{touched_more}
use Rattle.plai_script.proofs.change.touch.Goals as goal

pub returns : goal.returns
returns c = touched_more c.args.touched.now.keys c.insert.new.self.keys c.args.pred c.in_ok-insert.ensures.updates.0
