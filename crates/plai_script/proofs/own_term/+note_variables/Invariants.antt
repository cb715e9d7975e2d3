use Rattle.std.proofs.Common.{◌≡◌, take}
use Rattle.std.specs.Prelude.{flat_map}
use Rattle.plai_script.specs.OwnTerms.{occurrences, with_variables}
use Rattle.plai_script.proofs.own_term.+note_variables.Given as goal

abbrev pub invariant-loop-arg : goal.invariant-loop-arg
invariant-loop-arg l = l.seen.keys ≡ with_variables l.initial.seen.keys (flat_map occurrences (take l.arg-index l.arg-items))
