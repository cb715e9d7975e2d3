use Rattle.std.proofs.Common.{arith}
use Rattle.std.proofs.lemmas.Grind.{common_steps}
use Rattle.plai_clauses.proofs.Invariant.{emptied_definitions}
use Rattle.plai_clauses.specs.Keyed.{definitions_in}
use Rattle.plai_clauses.proofs.program.Program.clear.Goals as goal

pub invariant_of-self : goal.invariant_of-self
invariant_of-self c = emptied_definitions c.self.inside.modules.items (definitions_in c.self.inside.definitions.entries) c.self.inside.entries.items
    c.self.inside.checks.items c.self.invariant _ c.args.pred.now (grind (arith, common_steps))
