use Rattle.std.proofs.Common.{◌≡◌, ◌-◌, ℕ, suc, false, nat_eq, eqb-true, List, [], map, vec_len, sym, refl, ap, ◌∙◌, subst, arith}
use Rattle.std.specs.List.{list_any}
use Rattle.plai_arcs.specs.Arcs.{is_dirty}
use Rattle.plai_eval.specs.Meaning.{as_domain}
use Rattle.plai_fix_laws.specs.WorkStates.{no_pair, with_pair}
use Rattle.plai_fix_laws.specs.Pairs.{Links}
use Rattle.plai_fix_rows.specs.Tables.{key_name, kept_rows, state_of}
use Rattle.plai_fix_rows.specs.Solving.{IsAtWaking, IsPlacing}
use Rattle.plai_fix_rows.proofs.Parts.{err_any, ok_more}
use Rattle.plai_fix_rows.proofs.Popped.{no_items}
use Rattle.plai_fix_rows.proofs.Closes.{ends_told, starts_placing, closes_legal, adds_sets}
use Rattle.plai_fix_rows.proofs.Placed.{adds_none}
use Rattle.plai_fix_laws.proofs.Extended.{extends_same}
use Rattle.plai_fix_rows.proofs.closing.place_missing.Goals as goal

pub returns-then-is_empty-clause-waking : goal.returns-then-is_empty-clause-waking
returns-then-is_empty-clause-waking g c =
    let p = g.D.Domain.plain c.args.task.now.domain.now in
    let value_of = g.D.Domain.value_of in
    let laws = g.met.D.Domain.lawful c.args.task.now.domain.now in
    let rows = c.args.table.now.rows in
    let zero_length : vec_len c.args.missing ≡ 0 = eqb-true (vec_len c.args.missing) 0 (sym c.is_empty.ensures ∙ c.if-is_empty.true) in
    let empty : c.args.missing.items ≡ [] = no_items c.args.missing.items (vec_len c.args.missing) zero_length c.args.missing.ok.0 in
    let one = c.requires.number in
    let same : suc (c.args.number - 1) ≡ c.args.number = omega arith in
    λ begun cost called past links.
    subst (λ (z : ℕ). IsAtWaking p c.args.task.now.program.now c.args.task.now.limit begun (g.W.Work.entries c.args.work.now) cost
    (state_of value_of p rows c.args.arcs.now) (with_pair c.args.row z no_pair) (is_dirty c.args.unmet.now)) same
    (ends_told p laws c.args.task.now.program.now c.requires.well_formed c.args.task.now.limit begun (g.W.Work.entries c.args.work.now) cost
    (state_of value_of p rows c.args.arcs.now)
    (is_dirty c.args.unmet.now) c.args.row (c.args.number - 1) called (λ j. list_any (nat_eq j) c.args.rows.now.items) past
    (subst (λ ns. Links (as_domain p) (kept_rows value_of p rows) called (λ j. list_any (nat_eq j) c.args.rows.now.items) ns false)
    (ap (map (key_name value_of)) empty) links))

pub returns-in_err-full-clause-told : goal.returns-in_err-full-clause-told
returns-in_err-full-clause-told g c =
    let p = g.D.Domain.plain c.args.task.now.domain.now in
    let value_of = g.D.Domain.value_of in
    let laws = g.met.D.Domain.lawful c.args.task.now.domain.now in
    err_any _ c.from_residual.result
    (λ begun cost called past links.
    c.in_err-full.ensures.told begun cost (is_dirty c.args.unmet.now) c.args.row (c.args.number - 1) called
    (starts_placing p laws c.args.task.now.program.now c.requires.well_formed c.args.task.now.limit begun (g.W.Work.entries c.args.work.now) cost
    (state_of value_of p c.args.table.now.rows c.args.arcs.now)
    (is_dirty c.args.unmet.now) c.args.row (c.args.number - 1) called (λ j. list_any (nat_eq j) c.args.rows.now.items)
    (map (key_name value_of) c.args.missing.items) past links))

pub returns-clause-waking : goal.returns-clause-waking
returns-clause-waking g c =
    let p = g.D.Domain.plain c.args.task.now.domain.now in
    let value_of = g.D.Domain.value_of in
    let laws = g.met.D.Domain.lawful c.args.task.now.domain.now in
    ok_more _ _ c.close_pair.result c.close_pair.ensures.closed
    (λ closed begun cost called past links.
    closed begun (g.W.Work.entries c.place_all.new.work) cost called
    (subst (λ (rs : List ℕ). IsPlacing p c.args.task.now.program.now c.args.task.now.limit begun (g.W.Work.entries c.place_all.new.work) cost
    (state_of value_of p c.place_all.new.table.rows c.place_all.new.arcs) (is_dirty c.args.unmet.now) c.args.row (c.args.number - 1) called
    (λ j. list_any (nat_eq j) rs) [] c.in_ok-full.full)
    (sym c.as_slice.ensures.value)
    (c.in_ok-full.ensures.placing begun cost (is_dirty c.args.unmet.now) c.args.row (c.args.number - 1) called
    (starts_placing p laws c.args.task.now.program.now c.requires.well_formed c.args.task.now.limit begun (g.W.Work.entries c.args.work.now) cost
    (state_of value_of p c.args.table.now.rows c.args.arcs.now)
    (is_dirty c.args.unmet.now) c.args.row (c.args.number - 1) called (λ j. list_any (nat_eq j) c.args.rows.now.items)
    (map (key_name value_of) c.args.missing.items) past links))))

pub returns-clause-told : goal.returns-clause-told
returns-clause-told g c =
    let p = g.D.Domain.plain c.args.task.now.domain.now in
    let value_of = g.D.Domain.value_of in
    let laws = g.met.D.Domain.lawful c.args.task.now.domain.now in
    err_any _ c.close_pair.result
    (λ begun cost called past links.
    closes_legal p laws c.args.task.now.program.now c.requires.well_formed c.args.task.now.limit begun (g.W.Work.entries c.place_all.new.work) cost
    (state_of value_of p c.place_all.new.table.rows c.place_all.new.arcs) (is_dirty c.args.unmet.now) c.args.row (c.args.number - 1) called
    (λ j. list_any (nat_eq j) c.place_all.new.rows.items)
    c.in_ok-full.full
    (c.in_ok-full.ensures.placing begun cost (is_dirty c.args.unmet.now) c.args.row (c.args.number - 1) called
    (starts_placing p laws c.args.task.now.program.now c.requires.well_formed c.args.task.now.limit begun (g.W.Work.entries c.args.work.now) cost
    (state_of value_of p c.args.table.now.rows c.args.arcs.now)
    (is_dirty c.args.unmet.now) c.args.row (c.args.number - 1) called (λ j. list_any (nat_eq j) c.args.rows.now.items)
    (map (key_name value_of) c.args.missing.items) past links)))

pub returns-clause-adds : goal.returns-clause-adds
returns-clause-adds g c =
    let p = g.D.Domain.plain c.args.task.now.domain.now in
    let value_of = g.D.Domain.value_of in
    let old = state_of value_of p c.args.table.now.rows c.args.arcs.now in
    let mid = state_of value_of p c.place_all.new.table.rows c.place_all.new.arcs in
    let new = state_of value_of p c.place_all.new.table.rows c.close_pair.new.arcs in
    ok_more _ _ c.close_pair.result c.close_pair.ensures.sets
    (λ sets. adds_sets (as_domain p) c.args.task.now.limit old mid new c.args.row (c.args.number - 1) (λ j. list_any (nat_eq j) c.as_slice.result.now)
    c.in_ok-full.ensures.adds sets)

pub returns-clause-queued : goal.returns-clause-queued
returns-clause-queued g c = λ q. ok_more _ _ c.close_pair.result c.close_pair.ensures.sets
    (λ sets n m live e. c.in_ok-full.ensures.queued q n m live (sym (sets.dirty n m) ∙ e))

pub returns-then-is_empty-clause-adds : goal.returns-then-is_empty-clause-adds
returns-then-is_empty-clause-adds g c =
    let p = g.D.Domain.plain c.args.task.now.domain.now in
    adds_none (as_domain p) c.args.task.now.limit (state_of g.D.Domain.value_of p c.args.table.now.rows c.args.arcs.now)

pub returns-then-is_empty-clause-extends : goal.returns-then-is_empty-clause-extends
returns-then-is_empty-clause-extends g c =
    let p = g.D.Domain.plain c.args.task.now.domain.now in
    let kept = kept_rows g.D.Domain.value_of p c.args.table.now.rows in
    extends_same (as_domain p) kept kept refl
