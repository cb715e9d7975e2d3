use Rattle.std.proofs.Common.{◌≡◌, ◌<◌, true, false, sym, subst, arith, rules}
use Rattle.plai_eval.specs.Meaning.{as_domain}
use Rattle.plai_fix_laws.specs.WorkStates.{kept_live}
use Rattle.plai_fix_rows.specs.Tables.{kept_rows, state_of, key_name}
use Rattle.plai_fix_rows.specs.Solving.{listed, Rouses, IsAwake, IsWoken, IsAsleep}
use Rattle.plai_fix_laws.proofs.Pairs.{is_named}
use Rattle.plai_fix_rows.proofs.TableRows.{kept_lives, name_there, named_at}
use Rattle.plai_fix_laws.proofs.Wakings.{wakes_adds, wakes_extends, wakes_count}
use Rattle.plai_fix_rows.proofs.waking.rouse.Goals as goal

pub returns-then-not-is_dormant-clause-roused : goal.returns-then-not-is_dormant-clause-roused
returns-then-not-is_dormant-clause-roused g c =
    let awake : c.is_dormant.result ≡ false = search rules in
    λ h. IsAwake (c.is_dormant.ensures.awake awake h)

pub returns-then-task-live-clause-roused : goal.returns-then-task-live-clause-roused
returns-then-task-live-clause-roused g c =
    let p = g.D.Domain.plain c.args.task.now.domain.now in
    let asleep : c.is_dormant.result ≡ true = search rules in
    let lives = kept_lives _ g.D.Domain.value_of p c.args.table.now.rows in
    λ h. IsAsleep (c.is_dormant.ensures.dormant asleep) (omega (arith, c.if-task-live.true, c.live.ensures))

pub returns-clause-roused : goal.returns-clause-roused
returns-clause-roused g c =
    let p = g.D.Domain.plain c.args.task.now.domain.now in
    let value_of = g.D.Domain.value_of in
    let rows = c.args.table.now.rows in
    let asleep : c.is_dormant.result ≡ true = search rules in
    let lives = kept_lives _ value_of p rows in
    let room : kept_live (as_domain p) (kept_rows value_of p rows) < c.args.task.now.limit = omega (arith, c.if-task-live.false, c.live.ensures) in
    let (name, at) = name_there _ value_of p rows c.args.row (c.is_dormant.ensures.there asleep) in
    λ h.
    subst (λ o. Rouses p c.args.task.now.program.now c.args.task.now.limit c.args.row (state_of value_of p rows c.args.arcs.now)
    (g.W.Work.entries c.args.work.now) (listed c.args.pending.now.items)
    (state_of value_of p c.wake_row.new.table.rows c.args.arcs.now) o (listed c.wake_row.new.pending.items) true)
    (sym (c.in_ok-wake_row.ensures.noted name at))
    (IsWoken (state_of value_of p c.wake_row.new.table.rows c.args.arcs.now) (listed c.wake_row.new.pending.items)
    (key_name value_of name) (named_at _ value_of p rows c.args.row name at) (c.is_dormant.ensures.dormant asleep) room c.in_ok-wake_row.ensures.wakes
    (c.in_ok-wake_row.ensures.awaits name at))

pub returns-clause-adds : goal.returns-clause-adds
returns-clause-adds g c =
    let p = g.D.Domain.plain c.args.task.now.domain.now in
    let value_of = g.D.Domain.value_of in
    let rows = c.args.table.now.rows in
    let asleep : c.is_dormant.result ≡ true = search rules in
    let lives = kept_lives _ value_of p rows in
    let room : kept_live (as_domain p) (kept_rows value_of p rows) < c.args.task.now.limit = omega (arith, c.if-task-live.false, c.live.ensures) in
    let (name, at) = name_there _ value_of p rows c.args.row (c.is_dormant.ensures.there asleep) in
    wakes_adds (as_domain p) (state_of value_of p rows c.args.arcs.now) (state_of value_of p c.wake_row.new.table.rows c.args.arcs.now) c.args.row
    c.in_ok-wake_row.ensures.wakes
    (is_named (as_domain p) (kept_rows value_of p rows) c.args.row (key_name value_of name) (named_at _ value_of p rows c.args.row name at))
    (c.is_dormant.ensures.dormant asleep) c.args.task.now.limit room

pub returns-clause-extends : goal.returns-clause-extends
returns-clause-extends g c =
    let p = g.D.Domain.plain c.args.task.now.domain.now in
    let value_of = g.D.Domain.value_of in
    let rows = c.args.table.now.rows in
    let asleep : c.is_dormant.result ≡ true = search rules in
    let (name, at) = name_there _ value_of p rows c.args.row (c.is_dormant.ensures.there asleep) in
    wakes_extends (as_domain p) (state_of value_of p rows c.args.arcs.now) (state_of value_of p c.wake_row.new.table.rows c.args.arcs.now) c.args.row
    c.in_ok-wake_row.ensures.wakes
    (is_named (as_domain p) (kept_rows value_of p rows) c.args.row (key_name value_of name) (named_at _ value_of p rows c.args.row name at))
    (c.is_dormant.ensures.dormant asleep)

pub returns-clause-unmoved : goal.returns-clause-unmoved
returns-clause-unmoved g c =
    let p = g.D.Domain.plain c.args.task.now.domain.now in
    let value_of = g.D.Domain.value_of in
    let rows = c.args.table.now.rows in
    let asleep : c.is_dormant.result ≡ true = search rules in
    let (name, at) = name_there _ value_of p rows c.args.row (c.is_dormant.ensures.there asleep) in
    let more = wakes_count (as_domain p) (state_of value_of p rows c.args.arcs.now) (state_of value_of p c.wake_row.new.table.rows c.args.arcs.now) c.args.row
    c.in_ok-wake_row.ensures.wakes
    (is_named (as_domain p) (kept_rows value_of p rows) c.args.row (key_name value_of name) (named_at _ value_of p rows c.args.row name at))
    (c.is_dormant.ensures.dormant asleep) in
    λ e. absurd (omega arith)
