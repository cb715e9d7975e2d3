use Rattle.std.proofs.Common.{◌≡◌, drop}
use Rattle.plai_clauses.specs.Exporters.{exporter_by}
use Rattle.plai_clauses.proofs.imports.find_exporter.Given as goal

abbrev pub invariant-loop-exporter : goal.invariant-loop-exporter
invariant-loop-exporter l = exporter_by (drop l.exporter-index l.list) l.arity ≡ exporter_by l.list l.arity
