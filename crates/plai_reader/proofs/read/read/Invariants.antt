use Rattle.std.proofs.Common.{length}
use Rattle.plai_reader.specs.States.{state_of}
use Rattle.plai_reader.proofs.Passing.{Passes}
use Rattle.plai_reader.proofs.read.read.Given as goal

abbrev pub invariant-loop-token : goal.invariant-loop-token
invariant-loop-token l = Passes l.ops l.tokens l.rest (state_of l.reader)

abbrev pub decreases-loop-token : goal.decreases-loop-token
decreases-loop-token l = length l.rest
