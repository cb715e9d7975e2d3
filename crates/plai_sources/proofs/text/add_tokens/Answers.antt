use Rattle.plai_sources.proofs.Terms.{good_if}
use Rattle.plai_sources.proofs.text.add_tokens.Goals as goal

pub returns-in-Ok-clause-good : goal.returns-in-Ok-clause-good
returns-in-Ok-clause-good c = λ there good. good_if there c.args.reading c.args.number c.in-Ok.read c.add_term.result c.in-Ok.ensures.readable
    c.add_term.ensures.term good
