use Rattle.std.proofs.Common.{sym, ◌∙◌}
use Rattle.plai_terms.proofs.SameNames.{abs-Decides}
use Rattle.plai_depth.proofs.domain.DepthK.same.Goals as goal

pub returns : goal.returns
returns c = let d = abs-Decides c.args.a.now c.args.b.now in (λ yes. d.0 (sym c.eq.ensures ∙ yes), λ same. c.eq.ensures ∙ d.1 same)
