use Rattle.std.proofs.Common.{◌≡◌, ◌++◌, reverse, length}
use Rattle.plai_terms.proofs.rebuild.take_many.Given as goal

abbrev pub invariant-loop : goal.invariant-loop
invariant-loop l = record {
  terms : l.terms.items ++ reverse l.done.items ≡ reverse l.initial.done.items;
  count : length l.terms.items ≡ l.counter;
}
