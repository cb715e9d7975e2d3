use Rattle.std.proofs.Common.{◌≡◌, ◌++◌, take}
use Rattle.plai_terms.specs.Subst.{bound_to}
use Rattle.plai_sld.specs.Runs.{items_under, goals_of}
use Rattle.plai_sld.specs.Stacks.{limited}
use Rattle.plai_sld.proofs.item.push_goals.Given as goal

abbrev pub invariant-loop-literal : goal.invariant-loop-literal
invariant-loop-literal l = l.items.items
    ≡ l.initial.items.items ++ limited l.limit (items_under (bound_to l.second) (goals_of (bound_to l.first) (take l.literal-index l.body)))
