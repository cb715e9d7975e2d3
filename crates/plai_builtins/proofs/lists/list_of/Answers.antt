use Rattle.std.proofs.Common.{ap, ◌∙◌}
use Rattle.plai_terms.specs.declared.term.Term.{Atom}
use Rattle.plai_builtins.proofs.Cells.{before_list, before_nil, cell_put}
use Rattle.plai_builtins.proofs.lists.list_of.Goals as goal

pub loop-item-init : goal.loop-item-init
loop-item-init c =
    ap (λ name. before_list c.args.items.items (Atom name)) (c.new.ensures ∙ c.in_ok-from_slice.ensures.items) ∙ before_nil c.args.items.items

pub loop-item-preserved : goal.loop-item-preserved
loop-item-preserved c =
    cell_put c.loop-item.items.items c.pop.new.self.items c.in-Some.item c.loop-item.list c.in_ok-list.list _
    c.in-Some.ensures.items c.in_ok-list.ensures c.loop-item.invariant
