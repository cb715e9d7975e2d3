use Rattle.plai_sources.specs.Directives.{header_of}
use Rattle.plai_sources.proofs.text.first_term.Goals as goal

pub returns : goal.returns
returns c = c.or_refuse.ensures (header_of c.args.term.now) c.header.ensures
