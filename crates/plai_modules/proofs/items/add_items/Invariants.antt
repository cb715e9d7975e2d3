use Rattle.std.proofs.Common.{◌≡◌}
use Rattle.plai_modules.specs.Loading.{with_items}
use Rattle.plai_modules.proofs.items.add_items.Given as goal

-- the items so far are added
abbrev pub invariant-loop-numbered : goal.invariant-loop-numbered
invariant-loop-numbered l = record {
  can : (goal.iterator-loop-numbered).can_next l.numbered-iterator;
  finite : (goal.iterator-loop-numbered).is_finite l.numbered-iterator;
  program : l.program ≡ with_items l.module l.imports l.initial.program l.yielded;
}
