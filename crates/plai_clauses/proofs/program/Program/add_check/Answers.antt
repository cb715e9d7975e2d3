use Rattle.std.proofs.Common.{rules}
use Rattle.plai_clauses.proofs.Invariant.{more_checks}
use Rattle.plai_clauses.specs.Keyed.{definitions_in}
use Rattle.plai_clauses.proofs.program.Program.add_check.Goals as goal

pub invariant_of-self-2 : goal.invariant_of-self-2
invariant_of-self-2 c = more_checks c.self.inside.modules.items (definitions_in c.self.inside.definitions.entries) c.self.inside.entries.items
    c.self.inside.checks.items c.self.invariant _ c.args.check c.requires.check (search rules)
