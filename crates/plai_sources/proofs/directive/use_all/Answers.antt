use Rattle.plai_sources.specs.Directives.{import_all}
use Rattle.plai_sources.proofs.directive.use_all.Goals as goal

pub returns : goal.returns
returns c = c.or_refuse.ensures (import_all c.args.own.now c.args.module.now) c.import_all.ensures
