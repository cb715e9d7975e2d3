use Rattle.std.proofs.Common.{ap, ◌∙◌}
use Rattle.std.specs.List.{count_by}
use Rattle.plai_arcs.specs.Links.{callers_at, is_pair}
use Rattle.plai_arcs.proofs.ArcLemmas.{callers_once}
use Rattle.plai_arcs.proofs.arcs.Arcs.callers.Goals as goal

pub returns : goal.returns
returns c r k =
    ap (λ xs. count_by (is_pair r k) xs) (c.list.ensures ∙ ap (λ xs. callers_at xs c.args.row) c.deref.ensures.value)
    ∙ callers_once c.args.self.now.calls.items c.args.self.now.callers.items r k c.args.row c.args.self.now.linked
