use Rattle.std.proofs.Common.{cond, nat_eq, ap, ◌∙◌}
use Rattle.plai_arcs.proofs.links.cut_row.Goals as goal

pub returns-clause-calls : goal.returns-clause-calls
returns-clause-calls c r k q = c.cut_clauses.ensures.calls r k q ∙ ap (λ n. cond (nat_eq r c.args.row) 0 n) (c.cut_callers.ensures.calls r k q)
