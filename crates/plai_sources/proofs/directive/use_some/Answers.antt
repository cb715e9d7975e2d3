use Rattle.plai_sources.specs.Directives.{import_some}
use Rattle.plai_sources.proofs.directive.use_some.Goals as goal

pub returns : goal.returns
returns c = c.or_refuse.ensures (import_some c.args.own.now c.args.module.now c.args.exports.now) c.import_some.ensures
