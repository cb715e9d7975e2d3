use Rattle.std.proofs.Common.{◌≡◌, drop}
use Rattle.plai_clauses.specs.ClauseOf.{exporter}
use Rattle.plai_clauses.proofs.imports.exporter.Given as goal

abbrev pub invariant-loop-import : goal.invariant-loop-import
invariant-loop-import l = exporter (drop l.import-index l.list) l.name l.arity ≡ exporter l.list l.name l.arity
