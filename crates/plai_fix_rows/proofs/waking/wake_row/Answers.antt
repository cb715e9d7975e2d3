use Rattle.std.proofs.Common.{◌≡◌, true, length, heap_items, sym, refl, ap, ◌∙◌, subst}
use Rattle.plai_domain.specs.declared.key.Key.{Key}
use Rattle.plai_domain.specs.declared.work.WorkEntry.TheVariants as entries
use Rattle.plai_domain.specs.Names.{name_of}
use Rattle.plai_domain.specs.Noted.{noted}
use Rattle.plai_clauses.specs.Program.{clauses_of}
use Rattle.plai_eval.specs.Meaning.{as_domain}
use Rattle.plai_fix_laws.specs.WorkStates.{is_live}
use Rattle.plai_fix_rows.specs.Tables.{kept_rows, state_of}
use Rattle.plai_fix_laws.specs.Queues.{Awaits}
use Rattle.plai_fix_rows.specs.Solving.{listed}
use Rattle.plai_fix_rows.proofs.Parts.{one_name}
use Rattle.plai_fix_rows.proofs.Queued.{queued_row}
use Rattle.plai_fix_rows.proofs.TableRows.{woken_rows}
use Rattle.plai_fix_laws.proofs.Wakings.{live_before}
use Rattle.plai_fix_rows.proofs.waking.wake_row.Goals as goal

pub returns-clause-wakes : goal.returns-clause-wakes
returns-clause-wakes g c =
    let p = g.D.Domain.plain c.args.task.now.domain.now in
    let value_of = g.D.Domain.value_of in
    record {
      rows = ap (kept_rows value_of p) c.wake.ensures.rows ∙ woken_rows _ value_of p c.args.table.now.rows c.args.row;
      dirty = λ a m. refl;
      calls = λ a m j. refl;
    }

pub returns-clause-awaits : goal.returns-clause-awaits
returns-clause-awaits g c = λ name e.
    let same = one_name c.args.table.now.rows c.args.row _ name c.row.ensures e in
    subst (λ (z : Key g.row.D-Value.Denot). Awaits c.args.row (length (clauses_of c.args.task.now.program.now z.pred)) (listed c.args.pending.now.items)
    (listed c.await_pairs.new.pending.items)) same
    (subst (λ n. Awaits c.args.row n (listed c.args.pending.now.items) (listed c.await_pairs.new.pending.items)) (ap length c.clauses_of.ensures)
    c.in_ok-await_pairs.ensures)

pub returns-clause-noted : goal.returns-clause-noted
returns-clause-noted g c = λ name e.
    subst (λ (z : Key g.row.D-Value.Denot). g.W.Work.entries c.note_woke.new.self ≡ noted
    (entries.Woke (name_of g.D.Domain.value_of z)) (g.W.Work.entries c.args.work.now))
    (one_name c.args.table.now.rows c.args.row _ name c.row-2.ensures e) c.in_ok-note_woke.ensures.ok

pub returns-clause-queued : goal.returns-clause-queued
returns-clause-queued g c =
    let p = g.D.Domain.plain c.args.task.now.domain.now in
    let value_of = g.D.Domain.value_of in
    let rows = c.args.table.now.rows in
    λ queued.
    queued_row (as_domain p) (state_of value_of p rows c.args._arcs.now) (state_of value_of p c.wake.new.self.rows c.args._arcs.now) c.args.row
    (heap_items c.args.queue.now) (heap_items c.push_row.new.queue) queued
    (λ n m other live e. (
      sym (live_before (as_domain p) (kept_rows value_of p rows) c.args.row n other)
          ∙ subst (λ ks. is_live (as_domain p) ks n ≡ true) (ap (kept_rows value_of p) c.wake.ensures.rows ∙ woken_rows _ value_of p rows c.args.row) live,
      e,
    ))
    c.in_ok-push_row.ensures.row c.in_ok-push_row.ensures.others
