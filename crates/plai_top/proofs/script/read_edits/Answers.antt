use Rattle.plai_top.proofs.Scripts.{long_stop}
use Rattle.plai_top.proofs.script.read_edits.Goals as goal

pub returns-in-Err-clause-stop : goal.returns-in-Err-clause-stop
returns-in-Err-clause-stop g c = long_stop (g.S.Source.left c.args.script.now) c.in-Err.stop c.in-Err.ensures.stop
