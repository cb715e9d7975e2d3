use Rattle.std.proofs.Common.{◌≡◌, map, Bor}
use Rattle.plai_terms.specs.declared.term.Term.{Term}
use Rattle.plai_builtins.specs.Lists.{list_items}
use Rattle.plai_builtins.proofs.Cells.{behind}
use Rattle.plai_builtins.proofs.lists.list_items.Given as goal

abbrev pub invariant-loop-head : goal.invariant-loop-head
invariant-loop-head l = behind (map (λ (x : Bor Term). x.now) l.items.items) (list_items l.rest) ≡ list_items l.term
