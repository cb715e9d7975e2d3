use Rattle.std.proofs.Common.{◌≡◌, ◌∙◌, true, false, List, map, sym, refl, ap, subst, rules}
use Rattle.plai_theory.specs.Words.{IsIn}
use Rattle.plai_arcs.specs.Arcs.{is_dirty, is_call}
use Rattle.plai_eval.specs.Meaning.{as_domain, as_program}
use Rattle.plai_fix_laws.specs.WorkStates.{KeptRow}
use Rattle.plai_fix_rows.specs.Tables.{key_name, state_of}
use Rattle.plai_fix_rows.specs.Told.{start_of, HasLog}
use Rattle.plai_fix.specs.Stops.{IsSolvedBy}
use Rattle.plai_fix.proofs.Finished.{solved_told, stopped_pair, stopped_entry}
use Rattle.plai_fix.proofs.solving.finish.Goals as goal

pub returns-then-not-mark_entries-clause-stops : goal.returns-then-not-mark_entries-clause-stops
returns-then-not-mark_entries-clause-stops g c =
    let p = g.D.Domain.plain c.args.task.now.domain.now in
    let value_of = g.D.Domain.value_of in
    let program = c.args.task.now.program.now in
    let laws = g.met.D.Domain.lawful c.args.task.now.domain.now in
    let not_all : c.mark_entries.result ≡ false = search rules in
    let names : map (key_name value_of) c.as_slice.result.now ≡ (as_program p program).entries = ap (map (key_name value_of)) c.as_slice.ensures.value
    ∙ c.in_ok-keys.ensures in
    let (x, inside, absent) = c.mark_entries.ensures.absent not_all in
    λ begun told cost at_work. (
      refl,
      stopped_entry p laws program c.requires.well_formed c.args.task.now.limit begun told cost (state_of value_of p c.args.table.now.rows c.args._arcs.now)
          (is_dirty c.args.unmet.now) at_work
          c.requires.clean x (subst (IsIn x) names inside) absent c.requires.opened,
    )

pub returns-then-has_mark-clause-stops : goal.returns-then-has_mark-clause-stops
returns-then-has_mark-clause-stops g c =
    let p = g.D.Domain.plain c.args.task.now.domain.now in
    let value_of = g.D.Domain.value_of in
    let program = c.args.task.now.program.now in
    let laws = g.met.D.Domain.lawful c.args.task.now.domain.now in
    let (n, m, mark) = c.has_mark.ensures.marked c.if-has_mark.true in
    λ begun told cost at_work. (
      refl,
      stopped_pair p laws program c.requires.well_formed c.args.task.now.limit begun told cost (state_of value_of p c.args.table.now.rows c.args._arcs.now)
          (is_dirty c.args.unmet.now) at_work
          c.requires.clean n m mark,
    )

pub returns-clause-solved : goal.returns-clause-solved
returns-clause-solved g c =
    let p = g.D.Domain.plain c.args.task.now.domain.now in
    let value_of = g.D.Domain.value_of in
    let program = c.args.task.now.program.now in
    let limit = c.args.task.now.limit in
    let laws = g.met.D.Domain.lawful c.args.task.now.domain.now in
    let all : c.mark_entries.result ≡ true = search rules in
    let names : map (key_name value_of) c.as_slice.result.now ≡ (as_program p program).entries = ap (map (key_name value_of)) c.as_slice.ensures.value
    ∙ c.in_ok-keys.ensures in
    λ begun told cost at_work.
    subst (λ (ks : List (KeptRow (as_domain p))). HasLog p program begun.told told cost (IsSolvedBy p program limit (start_of p begun)
    (record { rows = ks; dirty = is_dirty c.args._arcs.now; calls = is_call c.args._arcs.now })))
    (sym c.mark_entries.ensures.same)
    (solved_told p laws program c.requires.well_formed limit begun told cost (state_of value_of p c.args.table.now.rows c.args._arcs.now)
    (is_dirty c.args.unmet.now) at_work c.requires.clean
    (c.has_mark.ensures.free c.if-has_mark.false) (λ x i. c.mark_entries.ensures.found all x (subst (IsIn x) (sym names) i)))
