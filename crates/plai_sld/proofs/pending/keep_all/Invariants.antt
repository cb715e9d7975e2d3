use Rattle.std.proofs.Common.{◌≡◌, ℕ, ◌<◌, ◌++◌, take, nat_eq}
use Rattle.std.specs.List.{IsDistinct}
use Rattle.plai_sld.specs.Pending.{keys, found}
use Rattle.plai_sld.proofs.pending.keep_all.Given as goal

abbrev pub invariant-loop-pair : goal.invariant-loop-pair
invariant-loop-pair l = record {
  distinct : IsDistinct nat_eq (keys l.all.items);
  same : (v : ℕ) → v < l.limit → found l.all.items v ≡ found (l.initial.all.items ++ take l.pair-index l.pairs) v;
}
