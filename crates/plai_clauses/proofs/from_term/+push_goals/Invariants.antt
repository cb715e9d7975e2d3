use Rattle.std.proofs.Common.{◌≡◌, take, Ok}
use Rattle.std.specs.Prelude.{flat_map}
use Rattle.plai_clauses.specs.Bodies.{behind}
use Rattle.plai_clauses.specs.ClauseOf.{body_of, goals_of}
use Rattle.plai_clauses.proofs.from_term.+push_goals.Given as goal

abbrev pub invariant-loop-part : goal.invariant-loop-part
invariant-loop-part l = behind l.initial.body.items (body_of l.module l.imports (flat_map goals_of (take l.part-index l.part-items))) ≡ Ok l.body.items
