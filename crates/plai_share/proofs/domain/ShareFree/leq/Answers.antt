use Rattle.std.proofs.Common.{sym, ◌∙◌}
use Rattle.plai_share_laws.specs.Sharing.{shares_of}
use Rattle.plai_share_laws.proofs.Loops.{leq_tells}
use Rattle.plai_share.specs.Values.{value_of}
use Rattle.plai_share.proofs.Shapes.{canonical}
use Rattle.plai_share.proofs.domain.ShareFree.leq.Goals as goal

pub leq-requires : goal.leq-requires
leq-requires c = let (n, h, k) = c.requires in canonical n (shares_of (value_of c.args.b.now)) k.order.first

pub returns : goal.returns
returns c = λ n h k. let t = leq_tells n (value_of c.args.a.now) (value_of c.args.b.now) h k in
    (λ y. t.0 (sym c.leq.ensures ∙ y), λ l. c.leq.ensures ∙ t.1 l)
