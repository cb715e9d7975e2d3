use Rattle.std.proofs.Common.{◌≡◌, false, nat_eq, length, sym, ap, ◌∙◌}
use Rattle.plai_arcs.specs.Links.{last_is}
use Rattle.plai_arcs.proofs.CountLemmas.{last_at}
use Rattle.plai_arcs.proofs.CutLemmas.{nonzero}
use Rattle.plai_arcs.proofs.links.is_last_caller.Goals as goal

pub returns : goal.returns
returns c =
    let full : nat_eq (length c.list-pairs.result.now) 0 ≡ false = cc in
    c.is_same_pair.ensures ∙ sym (last_at c.args.row c.args.clause c.list-pairs.result.now (0, 0) (nonzero (length c.list-pairs.result.now) full))
    ∙ ap (λ xs. last_is c.args.row c.args.clause xs) c.list-pairs.ensures
