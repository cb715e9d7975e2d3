use Rattle.std.proofs.Common.{rules}
use Rattle.plai_clauses.proofs.Invariant.{shorter_definitions}
use Rattle.plai_clauses.specs.Keyed.{definitions_in}
use Rattle.plai_clauses.proofs.program.Program.remove_clause.Goals as goal

pub invariant_of-self-2 : goal.invariant_of-self-2
invariant_of-self-2 c = shorter_definitions c.self.inside.modules.items (definitions_in c.self.inside.definitions.entries) c.self.inside.entries.items
    c.self.inside.checks.items c.self.invariant _ c.args.pred.now c.args.number (search rules)
