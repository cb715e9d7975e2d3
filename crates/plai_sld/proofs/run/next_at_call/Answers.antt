use Rattle.std.proofs.Common.{sym}
use Rattle.plai_sld.proofs.Formed.{numbered_formed, numbered_arity}
use Rattle.plai_sld.proofs.run.next_at_call.Goals as goal

pub next_at_clause-requires-clause-clause : goal.next_at_clause-requires-clause-clause
next_at_clause-requires-clause-clause c =
    numbered_formed c.args.program.now c.is_program.ensures.well_formed c.args.pred.now c.clauses_of.result.now c.clauses_of.ensures c.args.choice
    c.in-Some.clause.now (sym c.in-Some.ensures)

pub next_at_clause-requires-clause-arity : goal.next_at_clause-requires-clause-arity
next_at_clause-requires-clause-arity c =
    numbered_arity c.args.program.now c.is_program.ensures.well_formed c.args.pred.now c.clauses_of.result.now c.clauses_of.ensures c.args.choice
    c.in-Some.clause.now (sym c.in-Some.ensures)
