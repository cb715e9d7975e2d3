use Rattle.std.proofs.Common.{◌≡◌, ◌≤◌, ℕ, ◌+◌, List, Option, Result, drop}
use Rattle.plai_domain.specs.declared.work.WorkEntry.{WorkEntry}
use Rattle.plai_clauses.specs.Program.{ProgramView}
use Rattle.plai_clauses.specs.declared.edit_cause.EditCause.{EditCause}
use Rattle.plai_session.specs.Programs.{behind}
use Rattle.plai_session.specs.Sessions.{kept_program}
use Rattle.plai_top.specs.Working.{between}
use Rattle.plai_top.specs.Writing.{Wrote}
use Rattle.plai_top.proofs.blocks.write_items.Given as goal

-- the items so far have their blocks, the work told is theirs, and the session has the program behind them, and keeps its table
abbrev pub invariant-loop-item : goal.invariant-loop-item
invariant-loop-item g l = record {
  wrote : (givens : List (Result ProgramView EditCause)) (before : Option (List ℕ)) (begun : Option (List WorkEntry)) (counted : ℕ)
      → Wrote l.fn.form (g.D.Domain.plain l.fn.session.domain) l.fn.session.limit givens before (g.K.Sink.taken l.fn.sink)
      (between begun (g.W.Work.entries l.fn.work) counted l.fn.steps) (behind l.fn.session.program l.fn.items) (kept_program l.fn.session) 1
      l.fn.is_table
      → Wrote l.fn.form (g.D.Domain.plain l.fn.session.domain) l.fn.session.limit givens before (g.K.Sink.taken l.sink)
      (between begun (g.W.Work.entries l.work) counted l.steps) (behind l.session.program (drop l.item-index l.items))
      (kept_program l.session) l.number l.are_tables;
  domain : l.session.domain ≡ l.fn.session.domain;
  limit : l.session.limit ≡ l.fn.session.limit;
  count : l.number ≡ l.item-index + 1;
  later : g.K.Sink.faults l.fn.sink ≤ g.K.Sink.faults l.sink;
}
