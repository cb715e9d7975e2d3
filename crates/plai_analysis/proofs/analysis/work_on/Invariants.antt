use Rattle.plai_analysis.specs.Solved.{opened_rows}
use Rattle.plai_analysis.proofs.analysis.work_on.Given as goal

-- work begins with the rows of the table
abbrev pub ghost-solve : goal.ghost-solve
ghost-solve g a = opened_rows g.D.Domain.value_of (g.D.Domain.plain a.domain.now) a.program.now a.table.now.rows a.arcs.now
