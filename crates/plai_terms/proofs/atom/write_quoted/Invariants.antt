use Rattle.std.proofs.Common.{◌≡◌, ◌++◌, ◌∷◌, take, flat_map}
use Rattle.plai_terms.specs.Atom.{escaped}
use Rattle.plai_terms.proofs.atom.write_quoted.Given as goal

abbrev pub invariant-loop-byte : goal.invariant-loop-byte
invariant-loop-byte l = l.out.items ≡ l.fn.out.items ++ 39 ∷ flat_map escaped (take l.byte-index l.name)
