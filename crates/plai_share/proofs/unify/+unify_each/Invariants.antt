use Rattle.std.proofs.Common.{length}
use Rattle.plai_share.proofs.unify.+unify_each.Given as goal

abbrev pub decreases-unify_each : goal.decreases-unify_each
decreases-unify_each l = length l.terms.now
