use Rattle.std.proofs.Common.{nat_eq, ap, ◌∙◌}
use Rattle.std.specs.List.{count_by}
use Rattle.plai_arcs.specs.Links.{calls_at}
use Rattle.plai_arcs.proofs.ArcLemmas.{calls_once}
use Rattle.plai_arcs.proofs.arcs.Arcs.calls_of.Goals as goal

pub returns : goal.returns
returns c q =
    ap (λ xs. count_by (nat_eq q) xs) (c.list.ensures ∙ ap (λ xs. calls_at xs c.args.row c.args.clause) c.deref.ensures.value)
    ∙ calls_once c.args.self.now.calls.items c.args.self.now.callers.items c.args.row c.args.clause q c.args.self.now.linked
