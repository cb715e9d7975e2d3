use Rattle.std.proofs.Common.{◌≡◌, ◌+◌, ◌<◌, ℕ, Bool, true, nat_eq, take, get_or, length, sym, ap, ◌∙◌, subst, arith}
use Rattle.std.specs.List.{list_any}
use Rattle.std.proofs.lemmas.List.{take_all}
use Rattle.std.proofs.lemmas.List.Folds.{list_any_more}
use Rattle.plai_arcs.specs.Arcs.{is_call}
use Rattle.plai_eval.specs.Meaning.{as_domain}
use Rattle.plai_fix_rows.specs.Solving.{listed, IsMeeting}
use Rattle.plai_fix_rows.specs.Tables.{key_name, kept_rows, state_of}
use Rattle.plai_fix_laws.proofs.Extended.{extends_then}
use Rattle.plai_fix_rows.proofs.Parts.{called_as}
use Rattle.plai_fix_rows.proofs.Placed.{adds_then}
use Rattle.plai_fix_rows.proofs.TableRows.{is_there, name_there, named_at}
use Rattle.plai_fix_rows.proofs.Awaited.{any_at}
use Rattle.plai_fix_rows.proofs.Roused.{roused_next, called_of}
use Rattle.plai_fix_rows.proofs.meeting.meet_calls.Goals as goal

pub loop-call-preserved : goal.loop-call-preserved
loop-call-preserved g c =
    let p = g.D.Domain.plain c.args.task.now.domain.now in
    let value_of = g.D.Domain.value_of in
    let program = c.args.task.now.program.now in
    let limit = c.args.task.now.limit in
    let laws = g.met.D.Domain.lawful c.args.task.now.domain.now in
    let calls = c.calls_of-calls.result.now in
    let rows = c.loop-call.table.rows in
    let old = state_of value_of p c.args.table.now.rows c.args.arcs.now in
    let now = state_of value_of p rows c.args.arcs.now in
    let new = state_of value_of p c.rouse.new.table.rows c.args.arcs.now in
    let j = get_or calls c.loop-call.call-index 0 in
    let is : is_call c.args.arcs.now c.args.row c.args.number j ≡ true =
    called_as (is_call c.args.arcs.now c.args.row c.args.number j) (nat_eq j) calls (c.calls_of-calls.ensures j)
    ∙ any_at calls c.loop-call.call-index c.loop-call-test.true in
    record {
      meeting = λ begun cost unmet w.
          let m = c.loop-call.invariant.meeting begun cost unmet w in
          let some = called_of p laws program c.requires.well_formed limit begun (g.W.Work.entries c.loop-call.work) cost now
          (listed c.loop-call.pending.items) unmet c.args.row c.args.number (λ i. list_any (nat_eq i) (take c.loop-call.call-index calls))
          c.loop-call.full m j is in
          let there : j < length rows = is_there _ value_of p rows j some in
          let (name, at) = name_there _ value_of p rows j there in
          roused_next p laws program c.requires.well_formed limit begun (g.W.Work.entries c.loop-call.work) cost now
          (listed c.loop-call.pending.items) unmet c.args.row c.args.number (λ i. list_any (nat_eq i) (take c.loop-call.call-index calls))
          (λ i. list_any (nat_eq i) (take (c.loop-call.call-index + 1) calls)) c.requires.clean j is
          (λ i. list_any_more (nat_eq i) calls c.loop-call.call-index 0 c.loop-call-test.true) c.loop-call.full c.in_ok-live.live new
          (g.W.Work.entries c.rouse.new.work) (listed c.rouse.new.pending.items) m (key_name value_of name) (named_at _ value_of p rows j name at) some
          (c.in_ok-live.ensures.roused there);
      adds = adds_then (as_domain p) limit old now new c.loop-call.invariant.adds c.in_ok-live.ensures.adds;
      extends = extends_then (as_domain p) (kept_rows value_of p c.args.table.now.rows) (kept_rows value_of p rows)
          (kept_rows value_of p c.rouse.new.table.rows) c.loop-call.invariant.extends c.in_ok-live.ensures.extends;
      unmoved = λ e.
          let a = c.loop-call.invariant.adds.more in
          let b = c.in_ok-live.ensures.adds.more in
          c.in_ok-live.ensures.unmoved (omega arith) ∙ c.loop-call.invariant.unmoved (omega arith);
      queued = λ q. c.in_ok-live.ensures.queued (c.loop-call.invariant.queued q);
    }

pub returns-clause-meeting : goal.returns-clause-meeting
returns-clause-meeting g c =
    let p = g.D.Domain.plain c.args.task.now.domain.now in
    let value_of = g.D.Domain.value_of in
    let calls = c.calls_of-calls.result.now in
    let whole : take c.loop-call.call-index calls ≡ calls = take_all c.loop-call.call-index calls (omega (arith, c.loop-call-test.false)) in
    let same : (j : ℕ) → list_any (nat_eq j) (take c.loop-call.call-index calls) ≡ is_call c.args.arcs.now c.args.row c.args.number j =
    λ j. ap (list_any (nat_eq j)) whole
    ∙ sym (called_as (is_call c.args.arcs.now c.args.row c.args.number j) (nat_eq j) calls (c.calls_of-calls.ensures j)) in
    λ begun cost unmet w.
    subst (λ (ready : ℕ → Bool). IsMeeting p c.args.task.now.program.now c.args.task.now.limit begun (g.W.Work.entries c.loop-call.work) cost
    (state_of value_of p c.loop-call.table.rows c.args.arcs.now) (listed c.loop-call.pending.items) unmet c.args.row c.args.number ready c.loop-call.full)
    (λ i j. same j i) (c.loop-call.invariant.meeting begun cost unmet w)
