use Rattle.std.proofs.Common.{◌∙◌, sym, ap}
use Rattle.std.specs.List.{list_any}
use Rattle.plai_arcs.specs.Arcs.{is_call}
use Rattle.plai_arcs.specs.Links.{is_pair}
use Rattle.plai_fix_rows.proofs.Parts.{ok_items, called_as}
use Rattle.plai_fix_rows.proofs.calling.callers_of.Goals as goal

pub returns : goal.returns
returns c =
    ok_items _ _ c.from_slice.result c.from_slice.ensures.items
    (λ pairs e r k. called_as (is_call c.args.arcs.now r k c.args.row) (is_pair r k) c.callers.result.now (c.callers.ensures r k)
    ∙ sym (ap (list_any (is_pair r k)) e))
