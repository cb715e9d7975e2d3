use Rattle.std.proofs.Common.{◌≡◌, take, map, pos}
use Rattle.plai_reader.specs.Limits.{kept_trees}
use Rattle.plai_reader.proofs.build.make_integers.Given as goal

abbrev pub invariant-loop-byte : goal.invariant-loop-byte
invariant-loop-byte l = l.items.items ≡ map (λ c. kept_trees.integer (pos c)) (take l.byte-index l.text)
